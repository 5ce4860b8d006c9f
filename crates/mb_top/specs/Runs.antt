-- What becomes of a schedule's events: all happen, or something stands in the way of one, and of none before it. Events count from 1.
use Rattle.std.specs.Prelude.{◌≡◌, ℕ, ◌-◌, ◌≤◌, Bool, true, false, length, Some, Result, Ok, Err, slice_get}
use Rattle.mb_kv.specs.Pairs.{Pairs}
use Rattle.mb_schedule.specs.declared.schedule.Schedule.{Schedule}
use Rattle.mb_schedule.specs.declared.schedule.WorldEvent.{WorldEvent}
use Rattle.mb_world_model.specs.Stops.{WorldStop as Stop, NotFaulty, NoSuchMessage, WrongKind, Forged, ForgedTag, stop_of, IsUnstopped}
use Rattle.mb_service.specs.declared.service.Service.{Ghosts}
use Rattle.mb_world.specs.declared.seen.WorldStop.{WorldStop}
use Rattle.mb_world.specs.declared.seen.WorldStop.TheVariants as stop
use Rattle.mb_world.specs.declared.world.World.{World}
use Rattle.mb_world.specs.Tables.{RepresentsWorld}
use Rattle.mb_top.specs.declared.replay.RunStop.{RunStop}
use Rattle.mb_top.specs.declared.replay.RunStop.TheVariants as run
use Rattle.mb_top.specs.Systems.{system_of, world}

-- nothing stands in the way of the first k events
abbrev pub AreUnstopped : Schedule → ℕ → Type 0
AreUnstopped s k = IsUnstopped (system_of s) k

-- This is the first event that something stands in the way of, and what does.
pub record IsFirstStopped (s : Schedule) (number : ℕ) (found : Stop) : Type 0 where
  pub event : WorldEvent
  pub positive : 1 ≤ number
  pub stands : slice_get s.events (number - 1) ≡ Some event
  pub before : AreUnstopped s (number - 1)
  pub stopped : stop_of s (world s (number - 1)) event ≡ Some found

-- What it delivers is forged.
abbrev pub is_forged : Stop → Bool
is_forged (Forged event host counter) = true
is_forged (ForgedTag event) = true
is_forged (NotFaulty who) = false
is_forged (NoSuchMessage number) = false
is_forged (WrongKind number) = false

-- The first event that something stands in the way of is the doing of someone who is not faulty, or names a message that was not made or is
-- of another kind.
pub record IsFirstBad (s : Schedule) (number : ℕ) : Type 0 where
  pub found : Stop
  pub bad : is_forged found ≡ false
  pub first : IsFirstStopped s number found

-- what is told of the event of a number
abbrev pub run_stop_of : ℕ → WorldStop → RunStop
run_stop_of number (stop.NotFaulty name) = run.BadEvent number
run_stop_of number (stop.NoSuchMessage message) = run.BadEvent number
run_stop_of number (stop.WrongKind message) = run.BadEvent number
run_stop_of number (stop.Forged event host counter) = run.Forged event host counter
run_stop_of number (stop.ForgedTag event) = run.ForgedTag event
run_stop_of number stop.NoMemory = run.NoMemory
run_stop_of number stop.Halted = run.NoMemory

-- the first event that something stands in the way of
abbrev pub StopsAt : Schedule → RunStop → Type 0
StopsAt s (run.BadEvent number) = IsFirstBad s number
StopsAt s (run.Forged event host counter) = IsFirstStopped s event (Forged event host counter)
StopsAt s (run.ForgedTag event) = IsFirstStopped s event (ForgedTag event)
StopsAt s run.NoMemory = Unit {0}

-- the world after all events, or what stood in the way of one
abbrev pub Runs : {g : Ghosts Pairs} → Schedule → Result (World Pairs g) RunStop → Type 0
Runs s (Ok w) = AreUnstopped s (length s.events) × RepresentsWorld (system_of s) w (world s (length s.events))
Runs s (Err stop) = StopsAt s stop
