-- What an event brings stands in the history from then on, right behind what was there: the message that is taken, the loss of patience, the Nudge.
use Rattle.std.specs.Prelude.{◌≡◌, ◌∷◌, ◌++◌, Ok}
use Rattle.mb_base.specs.Shapes.{Bytes}
use Rattle.mb_msg.specs.declared.message.Message.{Message}
use Rattle.mb_msg.specs.declared.event.Event.TheVariants as event
use Rattle.mb_msg.specs.declared.event.Outcome.TheVariants as outcome
use Rattle.mb_msg.specs.Reading.{message_of}
use Rattle.mb_model.specs.Histories.{Entry, Accepted, LostPatience, Nudged, History, Identity, view_of}
use Rattle.mb_model.specs.Held.{view_limit}
use Rattle.mb_model.specs.HostStep.{transition}
use Rattle.mb_promise.specs.NothingLeft.{IsNoLog}

module _ {S : Type 0} (self : Identity S) (d : History) where
  -- The entry comes first of all that this history adds.
  abbrev pub ComesFirst : Entry → History → Type 0
  ComesFirst e left = (later : History) × (left ≡ later ++ e ∷ d)

  -- So it is of each message that is taken; a LOG has outcomes of its entries.
  abbrev pub WritesTaken : Type 0
  WritesTaken = (bytes : Bytes) (m : Message) → message_of self.shape bytes ≡ Ok m → IsNoLog self d m → (transition self d (event.Given bytes)).outcome ≡ outcome.Took
      → ComesFirst (Accepted m) (transition self d (event.Given bytes)).left.history

  -- of lost patience, below the greatest view
  abbrev pub WritesPatience : Type 0
  WritesPatience = (view_of self d ≡ view_limit → ⊥) → ComesFirst LostPatience (transition self d event.Patience).left.history

  abbrev pub WritesNudge : Type 0
  WritesNudge = ComesFirst Nudged (transition self d event.Nudge).left.history

  pub record Writes : Type 0 where
    pub taken : WritesTaken
    pub patience : WritesPatience
    pub nudge : WritesNudge
