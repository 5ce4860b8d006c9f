pub mod Formats
pub mod Tagged
