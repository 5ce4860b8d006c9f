pub mod Fetched
pub mod Checks
pub mod Parts
pub mod Inside
pub mod Assembled
pub mod Snapshots
pub mod Shelves
pub mod Histories
