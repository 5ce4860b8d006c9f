pub mod Places
pub mod Asked
pub mod Ledgers
pub mod Checks
pub mod Contents
