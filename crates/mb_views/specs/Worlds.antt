-- What all hosts stamped agrees across views, in each world of a schedule.
use Rattle.std.specs.Prelude.{◌≡◌, ℕ, ◌≤◌, length}
use Rattle.mb_world_model.specs.Hashed.{HashesApart}
use Rattle.mb_schedule.specs.Limits.{IsSchedule}
use Rattle.mb_world_model.specs.World.{System}
use Rattle.mb_world_model.specs.WorldSteps.{world}
use Rattle.mb_world_model.specs.WorldRecord.{ViewsAgree}
use Rattle.mb_world_model.specs.Stops.{IsUnstopped}

-- For every service and every schedule with at most f faulty hosts: after each event, while nothing was
-- forged or refused by the world and no two of the strings hashed so far share a digest.
abbrev pub WorldsAgree : Type 0 → Type 0
WorldsAgree S = (system : System S) → IsSchedule system.schedule
    → (k : ℕ) → k ≤ length system.schedule.events → IsUnstopped system k → HashesApart (world system k).hashed → ViewsAgree system.schedule (world system k)
