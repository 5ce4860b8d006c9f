-- Where all that happens is made of messages of the system itself, nothing in any message is forged.
use Rattle.std.specs.Prelude.{◌≡◌, ℕ, ◌<◌, Some, Contains, slice_get}
use Rattle.mb_base.specs.Shapes.{Bytes}
use Rattle.mb_msg.specs.declared.message.Message.{Message}
use Rattle.mb_schedule.specs.declared.schedule.WorldEvent.{WorldEvent}
use Rattle.mb_schedule.specs.declared.schedule.WorldEvent.TheVariants.{Raw, StampCommit, StampChange, StampRaw}
use Rattle.mb_schedule.specs.declared.schedule.Schedule.{Schedule}
use Rattle.mb_schedule.specs.Limits.{IsSchedule}
use Rattle.mb_world_model.specs.World.{System, read}
use Rattle.mb_world_model.specs.WorldSteps.{world}
use Rattle.mb_world_model.specs.Forged.{IsUnforged}
use Rattle.mb_world_model.specs.Stops.{IsUnstopped}

-- It is asked, delivered or signalled, or a faulty host or client makes a message of its own: a request, a reply, a wish; or it stamps a PREPARE of requests
-- that are there, a CHECKPOINT, or the content of a message that was made. Raw bytes may be anything; the COMMIT of another's PREPARE names a certificate of
-- the primary that the primary needn't have made; and a VIEW_CHANGE that is shown is not spoken of here.
abbrev pub IsInner : WorldEvent → Type 0
IsInner (Raw who bytes) = ⊥
IsInner (StampCommit h m) = ⊥
IsInner (StampChange h view counter) = ⊥
IsInner (StampRaw h bytes) = ⊥
IsInner e = Unit {0}

-- The first k events are.
abbrev pub AreInner : Schedule → ℕ → Type 0
AreInner s k = (j : ℕ) (e : WorldEvent) → j < k → slice_get s.events j ≡ Some e → IsInner e

-- Whatever is read of a message that was made, nothing in it is forged.
abbrev pub NoneIsForged : Type 0 → Type 0
NoneIsForged S = (system : System S) → IsSchedule system.schedule → (k : ℕ) → IsUnstopped system k → AreInner system.schedule k
    → (bytes : Bytes) (m : Message) → Contains (world system k).pool bytes → read system.schedule bytes ≡ Some m → IsUnforged system.schedule (world system k) m
