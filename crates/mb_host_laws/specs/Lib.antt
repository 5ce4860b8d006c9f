pub mod Placed
pub mod Rests
