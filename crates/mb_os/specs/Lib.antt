pub mod Addresses
pub mod Quiets
