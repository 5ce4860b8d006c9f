-- How each table of a host stays true behind an entry, and what it answers. `Gates`, `OwnLogs`, `Changes`, `Snapshots`, `FetchedParts`; `Values`, what is kept
-- as it is found; of the normal case `Positions` (framing, calls that may be refused, requests), `PositionsVoted` (PREPAREs, COMMITs, CHECKPOINTs and
-- certificates), `PositionsOpens` (the votes of OPENs and the own OPEN) and `PositionsRules` (what rules and checks read of them). All tables together:
-- `Together`, from the first moment on `Beginning`.
pub mod Gates
pub mod OwnLogs
pub mod Changes
pub mod Values
pub mod Snapshots
pub mod FetchedParts
pub mod Positions
pub mod PositionsVoted
pub mod PositionsOpens
pub mod PositionsRules
pub mod Together
pub mod Beginning
