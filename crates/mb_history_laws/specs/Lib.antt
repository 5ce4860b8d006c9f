pub mod Speaks
pub mod Behind
pub mod Gates
pub mod Sound
