-- Executions and installed states are justified by what the host was given, logs and votes keep their limits, and the correct are never blamed.
-- Votes and the members of certificates that count were given (`JustifiedSlots`, `JustifiedStates`, `JustifiedIn`). No gate for a correct host is closed
-- (`NeverClosed`), no own vote is more than two intervals above the stable position (`OwnVotes`), and each VIEW_CHANGE is usable: its log is shown in its
-- forms, begins at its certified floor, and no entry of it has a fault (`OwnUsable`, `Blameless`).
pub mod VoterGiven
pub mod SlotBatches
pub mod FirstHosts
pub mod JustifiedSlots
pub mod JustifiedStates
pub mod JustifiedIn
pub mod NeverClosed
pub mod OwnVotes
pub mod PastLimits
pub mod AgreedFloors
pub mod LowMultiples
pub mod NoneAgreed
pub mod ShownForms
pub mod ShownCounts
pub mod UsableEntries
pub mod StampFacts
pub mod LogParts
pub mod OwnUsable
pub mod Blameless
pub mod InWorlds
