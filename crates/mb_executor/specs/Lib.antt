pub mod Keeping
pub mod Sent
pub mod Taking
pub mod Represents
