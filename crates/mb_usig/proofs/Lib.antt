pub mod ReadyKeys
mod Fronts
pub mod Laws
pub mod SmallBytes
pub mod OnLiterals
mod Vectors
