-- Correct hosts execute beginnings of one list, and accepted results are the service's.
-- What is executed is committed (`Committed`), so two hosts execute one batch at a position (`OneExecuted`). A history is walked through move by move
-- (`Walks`, `Moves`); the line grows with executions alone (`Line`); an installed state is one that a correct host had (`InstalledState`). So each host
-- has at each moment the state of a beginning of the line (`Along`, `SafeWorlds`), and each reply that counts is the line's (`Served`, `ServedWorlds`).
pub mod OneVote
pub mod CountedVotes
pub mod Committed
pub mod Walks
pub mod StepDone
pub mod Moves
pub mod WholeBatches
pub mod Marks
pub mod Executions
pub mod StateParts
pub mod StateDigests
pub mod StableIssued
pub mod InstalledState
pub mod Line
pub mod ServedFits
pub mod Batches
pub mod PlanBatches
pub mod SoundBatches
pub mod HeldBatches
pub mod ExecutedSound
pub mod OneExecuted
pub mod Along
pub mod SafeStatic
pub mod Askers
pub mod AskerWorlds
pub mod AskedFits
pub mod SafeWorlds
pub mod Replied
pub mod ReplyBytes
pub mod Served
pub mod ServedWorlds
pub mod InWorlds
