-- The events of a node: of whole messages and quiets, in the order of the receives; and what of them counts for its patience.
use Rattle.std.specs.Prelude.{ℕ, ◌+◌, Bool, true, false, not, ◌||◌, ◌&&◌, List, [], ◌∷◌, ◌==◌, if◌then◌else◌, Option, Some, None, is_some}
use Rattle.mb_base.specs.Shapes.{Bytes}
use Rattle.mb_msg.specs.declared.event.Event.{Event}
use Rattle.mb_msg.specs.declared.event.Event.TheVariants as event
use Rattle.mb_msg.specs.declared.event.Outcome.{Outcome}
use Rattle.mb_msg.specs.declared.event.Outcome.TheVariants as outcome
use Rattle.mb_msg.specs.declared.event.Slot.{Slot}
use Rattle.mb_model.specs.Histories.{History, Identity, view_of, is_open}
use Rattle.mb_model.specs.HostStep.{transition}
use Rattle.mb_replica.specs.Waiting.{wants}
use Rattle.mb_node.specs.declared.patience.Patience.{Patience}
use Rattle.mb_node.specs.Patience.{standing, is_spent}
use Rattle.mb_node.specs.Receives.{Receives, made_whole}

abbrev pub is_patience : Event → Bool
is_patience event.Patience = true
is_patience e = false

-- A quiet's event is no message.
abbrev pub quiets_in : Event → ℕ
quiets_in (event.Given bytes) = 0
quiets_in e = 1

abbrev pub executes_none : List Slot → Bool
executes_none [] = true
executes_none (slot ∷ more) = false

abbrev pub is_stopping : Outcome → Bool
is_stopping outcome.Stopping = true
is_stopping o = false

abbrev pub is_again : Outcome → Bool
is_again outcome.Again = true
is_again o = false

module _ {S : Type 0} (self : Identity S) where
  -- the history that an event leaves behind this one
  abbrev pub next : History → Event → History
  next d e = (transition self d e).left.history

  -- An event behind this history is a right STOP.
  abbrev pub stops : History → Event → Bool
  stops d e = is_stopping (transition self d e).outcome

  -- It executes a slot, or takes over a state.
  abbrev pub serves : History → Event → Bool
  serves d e = not (executes_none (transition self d e).left.executed) || is_some (transition self d e).left.installed

  -- It opens a view: the host's view is open behind it, and before it that view was not open for the host.
  abbrev pub opens : History → Event → Bool
  opens d e = is_open self (next d e) && not (is_open self d && view_of self d == view_of self (next d e))

  -- It is a REQUEST that is answered again.
  abbrev pub answers_again : History → Event → Bool
  answers_again d e = is_again (transition self d e).outcome

  -- The host waits for something behind it, and did not before.
  abbrev pub begins_to_wait : History → Event → Bool
  begins_to_wait d e = not (wants self d) && wants self (next d e)

  -- The count of quiets begins anew behind an event that was a Patience, that executed something or opened a view, behind which the host begins to wait, or
  -- behind which it waits for nothing and was not asked again for what it had executed.
  abbrev pub settles : Bool → History → Event → Bool
  settles asked d e = is_patience e || ((serves d e || opens d e) || (begins_to_wait d e || not (wants self (next d e) || asked)))

  module _ (start : History) where
    -- the history that these events leave, the last of them first
    unfoldable pub left_by : List Event → History
    left_by [] = start
    left_by (e ∷ before) = (transition self (left_by before) e).left.history

    -- the last view that was seen to work: something was executed in it, or taken over; at first the view in which the host stands
    unfoldable pub worked_in : List Event → ℕ
    worked_in [] = view_of self start
    worked_in (e ∷ before) = if serves (left_by before) e then view_of self (next (left_by before) e) else worked_in before

    -- A REQUEST was answered again, and since then nothing was executed or taken over, and no view opened.
    unfoldable pub asked_again : List Event → Bool
    asked_again [] = false
    asked_again (e ∷ before) = if serves (left_by before) e || opens (left_by before) e then false else answers_again (left_by before) e || asked_again before

    -- how many quiets count behind these events
    unfoldable pub quiets : List Event → ℕ
    quiets [] = 0
    quiets (e ∷ before) = if settles (asked_again (e ∷ before)) (left_by before) e then 0 else quiets before + quiets_in e

    -- what counts for patience behind these events
    abbrev pub patience : List Event → Patience
    patience es = record { quiets = quiets es; worked_in = worked_in es; asked_again = asked_again es }

    -- one of these events is a right STOP
    unfoldable pub has_stop : List Event → Bool
    has_stop [] = false
    has_stop (e ∷ before) = stops (left_by before) e || has_stop before

    -- the event of a quiet: the host loses patience at the last one that it bears
    abbrev pub quiet_event : List Event → Event
    quiet_event before = if is_spent (standing self (left_by before)) (patience before) then event.Patience else event.Nudge

    abbrev pub given_to : List Event → Option Bytes → List Event
    given_to before None = before
    given_to before (Some message) = event.Given message ∷ before

    -- the events of all receives, the last of them first
    unfoldable pub events : Receives → List Event
    events [] = []
    events (None ∷ before) = quiet_event (events before) ∷ events before
    events (Some datagram ∷ before) = given_to (events before) (made_whole self.shape before datagram)
