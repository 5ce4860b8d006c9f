-- What is promised of the events of a schedule, each promise by itself.
use Rattle.std.specs.Prelude.{ℕ, ◌≤◌, length}
use Rattle.mb_schedule.specs.Limits.{IsSchedule}
use Rattle.mb_world_model.specs.Hashed.{HashesApart}
use Rattle.mb_world_model.specs.World.{System}
use Rattle.mb_world_model.specs.WorldSteps.{world}
use Rattle.mb_world_model.specs.Stops.{IsUnstopped}
use Rattle.mb_world_model.specs.EventsStep.{EventsStep}
use Rattle.mb_promise.specs.ExecutesAtOnce.{ExecutesAtOnce}
use Rattle.mb_promise.specs.NoEventBlames.{NoEventBlames}

-- In each world, whoever is faulty and whatever is forged, each event that may be next is a step of the correct host to which it comes.
abbrev pub EventsAreSteps : Type 0 → Type 0
EventsAreSteps S = (system : System S) (k : ℕ) → EventsStep system (world system k)

-- In each world, whoever is faulty and whatever is forged, the event that brings the vote that completes f+1 has the position executed.
abbrev pub VotesExecuteAtOnce : Type 0 → Type 0
VotesExecuteAtOnce S = (system : System S) (k : ℕ) → ExecutesAtOnce system (world system k)

-- For every schedule with at most f faulty hosts: after each event, while nothing was forged or refused by the world and no two of the strings
-- hashed so far share a digest, that event did not answer what a correct host stamped with blame.
abbrev pub NoEventIsBlame : Type 0 → Type 0
NoEventIsBlame S = (system : System S) → IsSchedule system.schedule
    → (k : ℕ) → k ≤ length system.schedule.events → IsUnstopped system k → HashesApart (world system k).hashed → NoEventBlames system (world system k)
