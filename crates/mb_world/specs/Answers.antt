-- What the world answers, as the definitions have it.
use Rattle.std.specs.Prelude.{◌≡◌, Option, Some, None, Result, Ok, Err}
use Rattle.mb_client.specs.Represents.{as_taken}
use Rattle.mb_world_model.specs.World.{OfHost, OfClient, Unread, Made, Lost, Seen as Answer}
use Rattle.mb_world_model.specs.Stops.{WorldStop as Stop, NotFaulty, NoSuchMessage, WrongKind, Forged, ForgedTag}
use Rattle.mb_world.specs.declared.seen.Seen.{Seen}
use Rattle.mb_world.specs.declared.seen.Seen.TheVariants as seen
use Rattle.mb_world.specs.declared.seen.WorldStop.{WorldStop}
use Rattle.mb_world.specs.declared.seen.WorldStop.TheVariants as stop

-- an answer
abbrev pub as_answer : Seen → Answer
as_answer (seen.Host o) = OfHost o
as_answer (seen.Client t) = OfClient (as_taken t)
as_answer (seen.Unread o) = Unread o
as_answer (seen.Made first count) = Made first count
as_answer seen.Lost = Lost

-- a stop for which the definitions have a name
abbrev pub as_stop : WorldStop → Option Stop
as_stop (stop.NotFaulty name) = Some (NotFaulty name)
as_stop (stop.NoSuchMessage number) = Some (NoSuchMessage number)
as_stop (stop.WrongKind number) = Some (WrongKind number)
as_stop (stop.Forged event host counter) = Some (Forged event host counter)
as_stop (stop.ForgedTag event) = Some (ForgedTag event)
as_stop stop.NoMemory = None
as_stop stop.Halted = None

-- The first stop that stands in the way is told, and none where none does. Only want of memory tells nothing.
abbrev pub Tells : {A : Type 0} → Option Stop → Result A WorldStop → Type 0
Tells found (Ok x) = found ≡ None
Tells found (Err stop.NoMemory) = Unit {0}
Tells found (Err stop.Halted) = Unit {0}
Tells found (Err e) = as_stop e ≡ found

-- the same of a stop that is looked for alone
abbrev pub TellsStop : Option Stop → Option WorldStop → Type 0
TellsStop found None = found ≡ None
TellsStop found (Some e) = as_stop e ≡ found
