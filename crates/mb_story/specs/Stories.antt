-- The story of a schedule: what is told of each event, up to the first that something stands in the way of.
use Rattle.std.specs.Prelude.{◌≡◌, ℕ, ◌+◌, true, List, length, is_some, Some, slice_get}
use Rattle.mb_service.specs.Machine.{ServiceMachine}
use Rattle.mb_schedule.specs.declared.schedule.Schedule.{Schedule}
use Rattle.mb_schedule.specs.declared.schedule.WorldEvent.{WorldEvent}
use Rattle.mb_world_model.specs.World.{System}
use Rattle.mb_world_model.specs.WorldSteps.{world}
use Rattle.mb_world_model.specs.Stops.{stop_of, IsUnstopped}
use Rattle.mb_members.specs.Hosts.{IsSystem, AreServices}
use Rattle.mb_world.specs.declared.seen.WorldStop.{WorldStop}
use Rattle.mb_world.specs.Answers.{as_stop}
use Rattle.mb_world.specs.Reports.{report_of}
use Rattle.mb_story.specs.declared.story.End.{End}
use Rattle.mb_story.specs.declared.story.End.TheVariants.{Whole, Stopped}
use Rattle.mb_story.specs.declared.story.Story.{Story}
use Rattle.mb_story.specs.declared.telling.Telling.{Telling}
use Rattle.mb_story.specs.Telling.{IsTelling}

-- There is a system with this schedule, whose hosts are made with these services.
pub record HasSystem {V : Type 0} (machine : ServiceMachine V) (s : Schedule) (services : List V) : Type 0 where
  pub system : System V
  pub is : IsSystem machine system
  pub plays : system.schedule ≡ s
  pub alike : AreServices system.initial services

-- The event behind so many is there, and this stands in its way.
pub record IsStoppedAt {S : Type 0} (y : System S) (k : ℕ) (found : WorldStop) : Type 0 where
  pub event : WorldEvent
  pub there : slice_get y.schedule.events k ≡ Some event
  pub stands : as_stop found ≡ stop_of y.schedule (world y k) event
  pub known : is_some (as_stop found) ≡ true

module _ {S : Type 0} (y : System S) where
  -- This is told of the event behind the first k.
  abbrev pub IsToldAt : ℕ → Telling → Type 0
  IsToldAt k t = (e : WorldEvent) → slice_get y.schedule.events k ≡ Some e → IsTelling y (world y k) (world y (k + 1)) e t

  -- Behind the first k all events have happened, or something stands in the way of the next one.
  abbrev pub EndsAt : ℕ → End → Type 0
  EndsAt k (Whole report) = (k ≡ length y.schedule.events) × (report ≡ report_of y (world y k))
  EndsAt k (Stopped found) = IsStoppedAt y k found

  pub record IsStory (s : Story) : Type 0 where
    pub unstopped : IsUnstopped y (length s.told)
    pub tells : (k : ℕ) (t : Telling) → slice_get s.told k ≡ Some t → IsToldAt k t
    pub ends : EndsAt (length s.told) s.end
