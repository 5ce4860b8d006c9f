pub mod Texts
pub mod Refusals
pub mod Devices
pub mod Configs
pub mod Records
pub mod Clusters
