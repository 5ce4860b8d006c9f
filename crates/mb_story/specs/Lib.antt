pub mod Arrivals
pub mod Telling
pub mod Stories
