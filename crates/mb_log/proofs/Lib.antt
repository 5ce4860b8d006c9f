pub mod Packing
pub mod Keeping
pub mod Histories
