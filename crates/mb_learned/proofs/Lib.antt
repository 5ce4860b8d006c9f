pub mod GivenClaims
pub mod GivenBatches
pub mod Beginnings
pub mod Voted
pub mod History
pub mod Learned
