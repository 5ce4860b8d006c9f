pub mod Places
pub mod Inside
pub mod Lent
pub mod Refusing
pub mod Represents
