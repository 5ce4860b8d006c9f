-- No event that brings a correct host what correct hosts stamped is answered with blame.
use Rattle.std.specs.Prelude.{◌≡◌, ℕ, Bool, true, false, List, ◌∷◌, option_to_list, Some, Ok, Contains}
use Rattle.mb_base.specs.Shapes.{Bytes}
use Rattle.mb_msg.specs.declared.message.Message.{Message}
use Rattle.mb_msg.specs.declared.message.Message.TheVariants as message
use Rattle.mb_msg.specs.declared.stamped.Stamped.{Stamped as StampedMessage}
use Rattle.mb_msg.specs.Stamps.{ui_of, as_stamped}
use Rattle.mb_msg.specs.Reading.{message_of}
use Rattle.mb_msg.specs.declared.event.Event.TheVariants as host
use Rattle.mb_msg.specs.declared.event.Outcome.{Outcome}
use Rattle.mb_msg.specs.declared.event.Outcome.TheVariants as outcome
use Rattle.mb_schedule.specs.declared.schedule.WorldEvent.{WorldEvent}
use Rattle.mb_world_model.specs.WorldEvents.{IsCorrect}
use Rattle.mb_world_model.specs.World.{OfHost, World, System}
use Rattle.mb_world_model.specs.WorldSteps.{happens}
use Rattle.mb_world_model.specs.EventsStep.{arrival}

-- the stamped messages that a message brings: itself, or the entries of a LOG
abbrev pub stamps_in : Message → List StampedMessage
stamps_in (message.Log m) = m.entries
stamps_in m = option_to_list (as_stamped m)

-- The answer says that the sender of a message broke the protocol, now or before.
abbrev pub is_blame : Outcome → Bool
is_blame (outcome.Illegal rule) = true
is_blame (outcome.Convicted counter) = true
is_blame o = false

module _ {S : Type 0} (system : System S) where
  -- Correct hosts are the senders of all that this message brings.
  abbrev pub IsOfCorrect : Message → Type 0
  IsOfCorrect m = (x : StampedMessage) → Contains (stamps_in m) x → IsCorrect system.schedule (ui_of x).host

  -- Where such a message came to a correct host by the event that led to this world, what is seen of the event is no blame.
  abbrev pub NoEventBlames : World → Type 0
  NoEventBlames w = (before : World) (e : WorldEvent) (h : ℕ) (bytes : Bytes) (m : Message) (o : Outcome) → happens system before e ≡ w
      → arrival before e ≡ Some (h, host.Given bytes) → IsCorrect system.schedule h → message_of system.schedule.shape bytes ≡ Ok m → IsOfCorrect m
      → w.seen ≡ OfHost o ∷ before.seen → is_blame o ≡ false
