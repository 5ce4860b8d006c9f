-- What is due beside what follows from the rules alone. A message is taken exactly where it passes its tests (`Taken`), and a valid one
-- passes them (`TakesValid`). What was accepted has the values of
-- the grammar (`AcceptedFits`), so a batch holds all that fits (`FullBatches`, `OrdersAll`). The votes of OPENs count at each position of their plan
-- (`OpensCount`), and what a host stamps counts for itself (`OwnBehind`, `OwnCounts`). A taken vote leaves slots, votes and view as they were for the rules
-- behind it (`Staying`, `Voted`), and a position that waits is executed
-- before the rules end (`Running`), so the vote that completes f+1 executes in its step (`Completing`, `CompletingOpens`). Gates stand behind the last message
-- of their host (`KeptGates`). A host leaves its view with cause alone (`LeavesWithCause`),
-- cuts its log where f+1 agree on a floor (`CutsLog`), takes LOGs and their entries (`LogsStand`, `JumpsToFloors`, `TakesLogs`), sends what it stamps and
-- each fresh reply (`Sends`), and answers who asks (`ShowsLog`, `Answers`). What an event brings is written first (`Written`), and what a step adds came
-- with its event (`Added`); what is refused adds nothing else (`LeftAlone`). A JOIN has cause (`JoinsWithCause`), and lost patience and a stable position that
-- rose are followed by a letter (`TellsAndAsks`). What it says by that it holds (`Says`), as what it stamps in a change of the view (`OwnChanges`) and the
-- floors of its CHECKPOINTs (`TellsFloors`). What came is found, and what is found came: that stands in `mb_provenance`.
pub mod Taken
pub mod TakesValid
pub mod AcceptedFits
pub mod FullBatches
pub mod OrdersAll
pub mod OpensCount
pub mod Staying
pub mod Voted
pub mod Running
pub mod Completing
pub mod OwnBehind
pub mod OwnCounts
pub mod KeptGates
pub mod CompletingOpens
pub mod LeavesWithCause
pub mod CutsLog
pub mod LogsStand
pub mod JumpsToFloors
pub mod TakesLogs
pub mod Sends
pub mod ShowsLog
pub mod Answers
pub mod Written
pub mod Added
pub mod JoinsWithCause
pub mod LeftAlone
pub mod TellsAndAsks
pub mod Says
pub mod OwnChanges
pub mod TellsFloors
