pub mod Sequential
pub mod Accepts
