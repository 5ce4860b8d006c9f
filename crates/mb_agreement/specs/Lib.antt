pub mod Agreement
pub mod ViewChangeRecord
