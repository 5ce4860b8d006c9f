pub mod Tables
pub mod Inside
pub mod Searches
pub mod Evidences
pub mod Rules
pub mod Represents
pub mod Written
pub mod Histories
