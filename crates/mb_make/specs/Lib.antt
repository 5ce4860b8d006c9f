pub mod Draws
pub mod Soaks
pub mod Summary
