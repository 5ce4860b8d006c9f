-- What is refused leaves all as it was: only a gate closes, where a message may not stand there, and parts are dropped that are no state. So it is of
-- Patience in the greatest view, and of bytes that are no message.
use Rattle.std.specs.Prelude.{◌≡◌, ℕ, ◌∷◌, Option, Some, None, Ok, Err}
use Rattle.mb_base.specs.Shapes.{Bytes}
use Rattle.mb_msg.specs.declared.message.Message.{Message}
use Rattle.mb_msg.specs.declared.message.Message.TheVariants as message
use Rattle.mb_msg.specs.declared.stamped.Stamped.{Stamped as StampedMessage}
use Rattle.mb_msg.specs.declared.event.Event.TheVariants as event
use Rattle.mb_msg.specs.declared.event.Outcome.{Outcome}
use Rattle.mb_msg.specs.declared.event.Outcome.TheVariants as outcome
use Rattle.mb_msg.specs.Stamps.{as_stamped}
use Rattle.mb_msg.specs.Reading.{message_of}
use Rattle.mb_model.specs.Histories.{Closed, DroppedParts, History, Identity, view_of}
use Rattle.mb_model.specs.Held.{view_limit}
use Rattle.mb_model.specs.HostStep.{transition}
use Rattle.mb_promise.specs.NothingLeft.{IsNoLog}

-- what a refused message leaves, that a USIG stamped
abbrev pub LeavesOfStamped : History → Outcome → History → Type 0
LeavesOfStamped d (outcome.Illegal rule) left = (h counter : ℕ) × (left ≡ Closed h counter ∷ d)
LeavesOfStamped d o left = left ≡ d

abbrev pub LeavesOf : History → Option StampedMessage → Outcome → History → Type 0
LeavesOf d (Some x) o left = LeavesOfStamped d o left
LeavesOf d None o left = left ≡ d

abbrev pub LeavesOfState : History → Outcome → History → Type 0
LeavesOfState d (outcome.BadState part at) left = left ≡ DroppedParts ∷ d
LeavesOfState d o left = left ≡ d

-- any kind but a LOG
abbrev pub LeavesOfRefused : History → Message → Outcome → History → Type 0
LeavesOfRefused d (message.State m) o left = LeavesOfState d o left
LeavesOfRefused d m o left = LeavesOf d (as_stamped m) o left

module _ {S : Type 0} (self : Identity S) (d : History) where
  abbrev pub KeepsRefused : Type 0
  KeepsRefused = (bytes : Bytes) (m : Message) → message_of self.shape bytes ≡ Ok m → IsNoLog self d m → ((transition self d (event.Given bytes)).outcome ≡ outcome.Took → ⊥)
      → LeavesOfRefused d m (transition self d (event.Given bytes)).outcome (transition self d (event.Given bytes)).left.history

  abbrev pub KeepsMalformed : Type 0
  KeepsMalformed = (bytes : Bytes) (at : ℕ) → message_of self.shape bytes ≡ Err at → (transition self d (event.Given bytes)).left.history ≡ d

  abbrev pub KeepsPatience : Type 0
  KeepsPatience = view_of self d ≡ view_limit → (transition self d event.Patience).left.history ≡ d

  pub record LeavesAlone : Type 0 where
    pub refused : KeepsRefused
    pub malformed : KeepsMalformed
    pub patience : KeepsPatience
