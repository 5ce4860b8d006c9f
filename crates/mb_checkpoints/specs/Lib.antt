pub mod Kept
pub mod Agreement
pub mod Certificates
