pub mod Clients
pub mod Faults
pub mod Back
pub mod Hashing
