-- What correct hosts did is justified and within its limits, and they are never blamed, in each world of a schedule.
use Rattle.std.specs.Prelude.{◌≡◌, ℕ, ◌≤◌, length}
use Rattle.mb_world_model.specs.Hashed.{HashesApart}
use Rattle.mb_schedule.specs.Limits.{IsSchedule}
use Rattle.mb_world_model.specs.World.{World, System}
use Rattle.mb_world_model.specs.WorldSteps.{world}
use Rattle.mb_world_model.specs.Stops.{IsUnstopped}
use Rattle.mb_promise.specs.Justification.{IsJustified}
use Rattle.mb_promise.specs.Bounds.{AreBounded, IsBlameless}

-- What correct hosts executed and installed is justified, their logs and votes keep their limits, and they are never blamed.
pub record HoldsOfTheCorrect {S : Type 0} (system : System S) (w : World) : Type 0 where
  pub justified : IsJustified system.schedule w
  pub bounded : AreBounded system w
  pub blameless : IsBlameless system w

-- For every service and every schedule with at most f faulty hosts: after each event, while nothing was
-- forged or refused by the world and no two of the strings hashed so far share a digest.
abbrev pub WorldsAreJustified : Type 0 → Type 0
WorldsAreJustified S = (system : System S) → IsSchedule system.schedule
    → (k : ℕ) → k ≤ length system.schedule.events → IsUnstopped system k → HashesApart (world system k).hashed → HoldsOfTheCorrect system (world system k)
