pub mod Represents
pub mod Signed
pub mod Due
pub mod Serving
pub mod Steps
pub mod Halting
pub mod Carrying
