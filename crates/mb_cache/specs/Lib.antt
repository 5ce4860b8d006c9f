pub mod Tables
pub mod Answers
pub mod Reading
pub mod Represents
pub mod Digests
