pub mod Logs
pub mod Takers
pub mod Packing
pub mod Inside
pub mod Represents
pub mod Histories
