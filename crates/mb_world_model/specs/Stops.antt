-- What stands in the way of an event: someone who is not faulty, a message that is missing or of the wrong kind, or what is forged.
use Rattle.std.specs.Prelude.{◌≡◌, ℕ, ◌+◌, ◌<◌, Bool, not, List, [], ◌∷◌, length, Option, Some, None, if◌then◌else◌, option_map, option_and_then, slice_get, find, is_none}
use Rattle.std.specs.Bool.{then_some}
use Rattle.std.specs.Option.{option_or}
use Rattle.mb_base.specs.Shapes.{Bytes}
use Rattle.mb_msg.specs.declared.message.Message.{Message}
use Rattle.mb_msg.specs.declared.stamped.Stamped.{Stamped as StampedMessage}
use Rattle.mb_msg.specs.Stamps.{as_stamped}
use Rattle.mb_schedule.specs.declared.schedule.Name.{Name}
use Rattle.mb_schedule.specs.declared.schedule.WorldEvent.{WorldEvent}
use Rattle.mb_schedule.specs.declared.schedule.WorldEvent.TheVariants.{Give, Take, Raw, StampPrepare, StampCommit, StampChange, StampAs}
use Rattle.mb_schedule.specs.declared.schedule.Schedule.{Schedule}
use Rattle.mb_schedule.specs.Limits.{is_faulty, is_faulty_client}
use Rattle.mb_world_model.specs.WorldEvents.{is_faulty_name, culprit}
use Rattle.mb_world_model.specs.World.{numbered, World, System, read}
use Rattle.mb_world_model.specs.FaultyHosts.{misfit, commit_for, content, is_sendable_change}
use Rattle.mb_world_model.specs.Forged.{forged_claim, has_forged_tag}
use Rattle.mb_world_model.specs.WorldSteps.{world}

-- why an event cannot be
pub data WorldStop : Type 0 where
  NotFaulty : Name → WorldStop  -- it would have to be faulty
  NoSuchMessage : ℕ → WorldStop  -- the number of the message
  WrongKind : ℕ → WorldStop  -- the number of the message; of a VIEW_CHANGE that can't be sent, the counter
  Forged : ℕ → ℕ → ℕ → WorldStop  -- the event, the host and the counter of the first forged certificate
  ForgedTag : ℕ → WorldStop  -- the event

module _ (s : Schedule) (w : World) where
  -- ---- names

  -- It is the doing of someone who is not faulty.
  abbrev pub name_stop : WorldEvent → Option WorldStop
  name_stop e = option_and_then (λ who. then_some (not (is_faulty_name s who)) (NotFaulty who)) (culprit e)

  -- ---- messages

  -- the numbers of the messages that an event names
  abbrev pub numbers_in : WorldEvent → List ℕ
  numbers_in (Give m h) = m ∷ []
  numbers_in (Take m c) = m ∷ []
  numbers_in (StampPrepare h view pos messages) = messages
  numbers_in (StampCommit h m) = m ∷ []
  numbers_in (StampAs h m) = m ∷ []
  numbers_in _ = []

  -- A message that it names was not made; the first of these is told.
  abbrev pub missing_stop : WorldEvent → Option WorldStop
  missing_stop e = option_map NoSuchMessage (find (λ m. is_none (numbered w.pool m)) (numbers_in e))

  -- The message gives no content of this kind.
  abbrev pub content_stop : ℕ → (Message → Option StampedMessage) → Option WorldStop
  content_stop m f = then_some (is_none (content s w m f)) (WrongKind m)

  -- A message that it names is of another kind or too long for the batch, or the VIEW_CHANGE would be too large.
  abbrev pub kind_stop : WorldEvent → Option WorldStop
  kind_stop (StampPrepare h view pos messages) = option_map WrongKind (misfit s w 0 messages)
  kind_stop (StampCommit h m) = content_stop m commit_for
  kind_stop (StampAs h m) = content_stop m as_stamped
  kind_stop (StampChange h view counter) = then_some (not (is_sendable_change s w h view counter)) (WrongKind counter)
  kind_stop _ = None

  -- ---- what is forged

  -- what comes to someone correct
  abbrev pub to_correct : Bool → Option Bytes → Option Bytes
  to_correct faulty bytes = if faulty then None else bytes

  -- the bytes that an event delivers to a correct host or client
  abbrev pub delivered : WorldEvent → Option Bytes
  delivered (Give m h) = to_correct (is_faulty s h) (numbered w.pool m)
  delivered (Take m c) = to_correct (is_faulty_client s c) (numbered w.pool m)
  delivered (Raw who bytes) = to_correct (is_faulty_name s who) (Some bytes)
  delivered _ = None

  -- the message that it delivers, where the bytes are one
  abbrev pub delivered_message : WorldEvent → Option Message
  delivered_message e = option_and_then (read s) (delivered e)

  -- the number of the next event, from 1
  abbrev pub event_number : ℕ
  event_number = length w.seen + 1

  -- A certificate in it is forged.
  abbrev pub forged_stop : WorldEvent → Option WorldStop
  forged_stop e = option_map (λ c. Forged event_number c.host c.counter) (option_and_then (forged_claim s w) (delivered_message e))

  -- A tag in it is forged.
  abbrev pub tag_stop : WorldEvent → Option WorldStop
  tag_stop e = option_and_then (λ m. then_some (has_forged_tag s w m) (ForgedTag event_number)) (delivered_message e)

  -- ---- the first that stands in the way

  unfoldable pub stop_of : WorldEvent → Option WorldStop
  stop_of e = option_or (name_stop e) (option_or (missing_stop e) (option_or (kind_stop e) (option_or (forged_stop e) (tag_stop e))))

-- Nothing stands in the way of the first k events: none is forged, and none is refused by the world.
abbrev pub IsUnstopped : {S : Type 0} → System S → ℕ → Type 0
IsUnstopped system k = (j : ℕ) (e : WorldEvent) → j < k → slice_get system.schedule.events j ≡ Some e → stop_of system.schedule (world system j) e ≡ None
