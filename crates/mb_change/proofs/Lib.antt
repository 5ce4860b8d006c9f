pub mod Standing
pub mod Same
pub mod Answering
pub mod Agreeing
pub mod Following
