pub mod Runs
pub mod Restarts
pub mod Servings
pub mod Orders
