-- What entries make of the searches in a host's history. An entry that doesn't speak to a search leaves it as it was (`Framing`; `Tables`, a law for
-- each table of a host); each other says what the
-- search finds behind it: gates as the lists of what they took (`Gates`), slots and votes (`Voted`, by `Standing` and `Positions`: views and the stable
-- position never fall), CHECKPOINTs, the stable position and the floor of the own log (`Certified`), the own log (`OwnLog`), what is held of view changes
-- (`ViewChanges`), state, requests, snapshots and parts (`Executing`). The PREPARE that a COMMIT names is refused by counter and gate alone (`Named`). Each
-- history to which steps lead is sound (`Sound`), behind each piece of a step, too (`SoundSteps`, `SoundRules`).
pub mod Framing
pub mod Standing
pub mod Positions
pub mod Voted
pub mod Certified
pub mod Gates
pub mod OwnLog
pub mod ViewChanges
pub mod Executing
pub mod Named
pub mod Tables
pub mod Sound
pub mod SoundSteps
pub mod SoundRules
