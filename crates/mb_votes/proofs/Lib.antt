pub mod Ranks
pub mod Scans
pub mod Behind
