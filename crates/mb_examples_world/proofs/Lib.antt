pub mod Worlds
mod FaultyWorlds
mod ForgedTags
mod BadWorlds
mod InsideOfMessages
pub mod Apart
mod WholeRun
mod RunFacts
mod TwoRequests
