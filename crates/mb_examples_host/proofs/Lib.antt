mod Batches
mod NormalSteps
mod ShownLogs
mod Plans
pub mod Networks
pub mod AgreeingCheckpoints
mod SingleSteps
pub mod Samples
mod FirstView
mod ChangingView
mod FloorsThatDiffer
mod Corners
mod LimitsOfHosts
