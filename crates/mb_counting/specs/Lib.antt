pub mod Systems
pub mod Counts
