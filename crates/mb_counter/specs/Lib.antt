pub mod Operations
pub mod Snapshots
pub mod Machine
pub mod Laws
