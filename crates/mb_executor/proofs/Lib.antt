pub mod Shelved
pub mod Held
pub mod Installing
pub mod Joining
pub mod Clients
