pub mod FirstRule
pub mod Greatest
pub mod InHistories
pub mod Lent
pub mod Tables
pub mod Unordered
