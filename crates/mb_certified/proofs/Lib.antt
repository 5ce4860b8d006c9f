pub mod Adding
pub mod BareForms
