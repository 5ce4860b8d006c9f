pub mod Given
pub mod Audits
pub mod Learning
