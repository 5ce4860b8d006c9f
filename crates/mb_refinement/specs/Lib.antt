pub mod Tables
pub mod Stands
pub mod GateCalls
pub mod LogCalls
pub mod Lagging
pub mod Positions
pub mod Beginning
