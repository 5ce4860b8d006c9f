-- The events of a soak are as they are drawn, and none of them is stopped.
use Rattle.std.specs.Prelude.{◌≡◌, ℕ, ◌≤◌, ◌<◌, length, Some, slice_get}
use Rattle.mb_schedule.specs.Limits.{max_text}
use Rattle.mb_schedule.specs.Limits.{IsSchedule}
use Rattle.mb_world_model.specs.World.{System}
use Rattle.mb_world_model.specs.WorldSteps.{world}
use Rattle.mb_world_model.specs.Stops.{IsUnstopped}
use Rattle.mb_make.specs.Soaks.{event_drawn, soak, IsSoaked}

module _ {S : Type 0} (system : System S) (seed n : ℕ) where
  -- n events, each drawn as the world stands before it; they are those of a schedule, and nothing stands in the way of any. Behind the first one some message was
  -- made.
  pub record IsSoak : Type 0 where
    pub count : length (soak system seed n).schedule.events ≡ n
    pub drawn : (k : ℕ) → k < n → slice_get (soak system seed n).schedule.events k ≡ Some (event_drawn (soak system seed n) seed k)
    pub schedule : IsSchedule (soak system seed n).schedule
    pub unstopped : IsUnstopped (soak system seed n) n
    pub some : (k : ℕ) → 1 ≤ k → k ≤ n → 1 ≤ length (world (soak system seed n) k).pool

-- So it is over any service.
abbrev pub SoaksAreUnstopped : Type 0 → Type 0
SoaksAreUnstopped S = (system : System S) → IsSoaked system.schedule → (seed n : ℕ) → n ≤ max_text → IsSoak system seed n
