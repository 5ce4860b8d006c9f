pub mod Records
pub mod Nodes
pub mod Journals
pub mod Written
