-- What correct hosts executed and what clients accepted, in each world of a schedule.
use Rattle.std.specs.Prelude.{ℕ, ◌≤◌, length}
use Rattle.mb_promise.specs.Headline.{IsService}
use Rattle.mb_world_model.specs.Hashed.{HashesApart}
use Rattle.mb_schedule.specs.Limits.{IsSchedule}
use Rattle.mb_world_model.specs.World.{World, System}
use Rattle.mb_world_model.specs.WorldSteps.{world}
use Rattle.mb_world_model.specs.Stops.{IsUnstopped}
use Rattle.mb_promise.specs.Safety.{IsSafe, AreServedResults}

-- Correct hosts executed beginnings of one list, and each result that a correct client accepted is the service's there.
pub record HasOneList {S : Type 0} (system : System S) (w : World) : Type 0 where
  pub safe : IsSafe system w
  pub results : AreServedResults system w

-- For every service that can be replicated and every schedule with at most f faulty hosts: after each event,
-- while nothing was forged or refused by the world and no two of the strings hashed so far share a digest.
abbrev pub WorldsHaveOneList : Type 0 → Type 0
WorldsHaveOneList S = (system : System S) → IsService system.machine system.snapshots system.initial → IsSchedule system.schedule
    → (k : ℕ) → k ≤ length system.schedule.events → IsUnstopped system k → HashesApart (world system k).hashed → HasOneList system (world system k)
