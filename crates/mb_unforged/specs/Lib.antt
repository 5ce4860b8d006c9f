pub mod NoneForged
pub mod Reached
pub mod SentUnforged
pub mod Soaked
