pub mod Hosts
pub mod Members
pub mod Askers
pub mod Marks
pub mod Stamps
pub mod Stamping
pub mod Lines
pub mod Replies
