pub mod Ordered
pub mod Waiting
pub mod Searches
pub mod Filling
pub mod Rules
pub mod Tables
pub mod Histories
