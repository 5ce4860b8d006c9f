pub mod Lending
pub mod Searches
