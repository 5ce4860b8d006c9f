-- What correct hosts send is not forged, as long as nothing forged was delivered.
use Rattle.std.specs.Prelude.{◌≡◌, ℕ, Some, None, Contains}
use Rattle.mb_msg.specs.declared.event.Event.{Event}
use Rattle.mb_msg.specs.declared.message.Message.{Message}
use Rattle.mb_msg.specs.Spelling.{spelling}
use Rattle.mb_model.specs.HostStep.{transition}
use Rattle.mb_model.specs.Sending.{Letter}
use Rattle.mb_schedule.specs.declared.schedule.WorldEvent.{WorldEvent}
use Rattle.mb_world_model.specs.World.{World, System, self_of, read}
use Rattle.mb_world_model.specs.WorldEvents.{IsCorrect}
use Rattle.mb_world_model.specs.WorldSteps.{happens}
use Rattle.mb_world_model.specs.EventsStep.{arrival}
use Rattle.mb_world_model.specs.Stops.{stop_of}
use Rattle.mb_world_model.specs.Forged.{IsUnforged}
use Rattle.mb_unforged.specs.Reached.{IsReached}

-- In a world that is reached let an event come to a correct host, and let nothing stop it. Then in whatever is read of a message that the host sends in its
-- step, neither a certificate nor a tag is forged in the world behind the event.
abbrev pub SentIsUnforged : Type 0 → Type 0
SentIsUnforged S = (system : System S) (w : World) → IsReached system w → (e : WorldEvent) → stop_of system.schedule w e ≡ None → (h : ℕ) (x : Event) → arrival w e ≡ Some (h, x) → IsCorrect system.schedule h
    → (l : Letter) → Contains (transition (self_of system h) (w.histories h) x).left.sent l → (m : Message) → read system.schedule (spelling l.says) ≡ Some m → IsUnforged system.schedule (happens system w e) m
