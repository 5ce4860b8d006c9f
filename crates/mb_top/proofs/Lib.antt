-- `KvService` and `Promised` bring the promise of all hosts to the key-value service; `StopLaws` and `RunLaws` follow a run event by event;
-- `Answered` and `RecordLaws` read the statuses.
pub mod FourWords
pub mod OneSchedule
pub mod KvService
pub mod Promised
pub mod StopLaws
pub mod RunLaws
pub mod Answered
pub mod Summaries
pub mod SoakLaws
pub mod Doing
pub mod Ending
pub mod Blamed
pub mod Learnt
pub mod Rerun
pub mod NodesInWorlds
