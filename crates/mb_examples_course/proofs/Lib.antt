-- What is said (Messages), what two hosts hold (Histories) and answer (Deeds), the schedule, the worlds (Worlds) and what the events find in them (Finds,
-- AllFind), what an event makes of a world (Makes), and the hashed strings (Strings).
pub mod Messages
pub mod Histories
pub mod Deeds
pub mod Schedule
pub mod Worlds
pub mod Finds
pub mod AllFind
pub mod Makes
pub mod Strings
