pub mod Rows
pub mod Agreed
pub mod Places
pub mod InHistories
pub mod Found
pub mod SameFloors
