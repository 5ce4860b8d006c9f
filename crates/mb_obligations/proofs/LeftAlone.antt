-- What is refused is followed by no rule, so it adds what closes a gate or drops parts, and nothing else.
use Rattle.std.proofs.Common.{◌≡◌, ℕ, ◌∷◌, refl, ap, Some}
use Rattle.std.proofs.lemmas.Bool.{eq-eqb}
use Rattle.mb_parts.specs.declared.request.Request.{Request}
use Rattle.mb_msg.specs.declared.message.Message.{Message}
use Rattle.mb_msg.specs.declared.message.Message.TheVariants as message
use Rattle.mb_msg.specs.declared.transfer.StateMsg.{StateMsg}
use Rattle.mb_msg.specs.declared.stamped.Stamped.{Stamped as StampedMessage}
use Rattle.mb_msg.specs.declared.stamped.Stamped.TheVariants as stamped
use Rattle.mb_msg.specs.declared.event.Outcome.{Outcome}
use Rattle.mb_msg.specs.declared.event.Outcome.TheVariants as outcome
use Rattle.mb_msg.specs.Stamps.{as_message, ui_of}
use Rattle.mb_model.specs.Histories.{Closed, History, Identity, view_of}
use Rattle.mb_model.specs.Held.{view_limit}
use Rattle.mb_model.specs.Compared.{compared_in}
use Rattle.mb_model.specs.Sending.{Progress, begin, note}
use Rattle.mb_model.specs.Given.{Answer, closing, answer_request, answer_state, give}
use Rattle.mb_model.specs.HostStep.{on_patience, transition}
use Rattle.mb_world_model.specs.World.{System, self_of}
use Rattle.mb_world_model.specs.WorldSteps.{world}
use Rattle.mb_promise.specs.NothingLeft.{IsNoLog}
use Rattle.mb_each_host.proofs.Refused.{IsRefused, OfRefused, of_given, of_refused}
use Rattle.mb_promise.specs.LeavesAlone.{LeavesOfStamped, LeavesOfRefused, KeepsRefused, KeepsMalformed, KeepsPatience, LeavesAlone}

module _ {S : Type 0} (self : Identity S) (d : History) where
  -- ---- each kind

  closing_left : (o : Outcome) (m : StampedMessage) (x : Progress) → x.history ≡ d → LeavesOfStamped d o (closing o (ui_of m) x).history
  closing_left (outcome.Illegal r) m x is = ((ui_of m).host, (ui_of m).counter, ap (λ (y : History). Closed (ui_of m).host (ui_of m).counter ∷ y) is)
  closing_left o m x is = is

  stamped_left : (m : StampedMessage) (o : Outcome) → LeavesOfStamped d o (closing o (ui_of m) (note (compared_in self d m) (begin d))).history
  stamped_left m o = closing_left o m (note (compared_in self d m) (begin d)) refl

  stamp_left : (m : StampedMessage) (o : Outcome) → LeavesOfRefused d (as_message m) o (closing o (ui_of m) (note (compared_in self d m) (begin d))).history
  stamp_left (stamped.Prepare m) o = stamped_left (stamped.Prepare m) o
  stamp_left (stamped.Commit m) o = stamped_left (stamped.Commit m) o
  stamp_left (stamped.Checkpoint m) o = stamped_left (stamped.Checkpoint m) o
  stamp_left (stamped.ViewChange m) o = stamped_left (stamped.ViewChange m) o
  stamp_left (stamped.NewView m) o = stamped_left (stamped.NewView m) o
  stamp_left (stamped.Enter m) o = stamped_left (stamped.Enter m) o
  stamp_left (stamped.Open m) o = stamped_left (stamped.Open m) o
  stamp_left (stamped.Join m) o = stamped_left (stamped.Join m) o

  abbrev Leaves : Message → Answer → Type 0
  Leaves m a = LeavesOfRefused d m a.outcome a.left.history

  request_left : (m : Request) (o : Outcome) → Leaves (message.Request m) (answer_request self (Some o) m (begin d))
  request_left m outcome.Again = refl
  request_left m o = refl

  state_left : (m : StateMsg) (o : Outcome) → Leaves (message.State m) (answer_state self (Some o) m (begin d))
  state_left m (outcome.BadState part at) = refl
  state_left m o = refl

  of_each : OfRefused self d Leaves
  of_each = record {
    stamp = stamp_left;
    request = request_left;
    state = state_left;
    wish = λ m o. refl;
    resend = λ m o. refl;
    fetch = λ m o. refl;
    reply = λ m o. refl;
    stop = λ m o. refl;
  }

  pub given_left : (m : Message) → IsNoLog self d m → IsRefused (give self m (begin d)) → Leaves m (give self m (begin d))
  given_left = of_given self d Leaves of_each

  keeps_refused : KeepsRefused self d
  keeps_refused = of_refused self d Leaves of_each

  keeps_malformed : KeepsMalformed self d
  unfolding transition
  keeps_malformed bytes at reads = rw reads refl

  keeps_patience : KeepsPatience self d
  unfolding transition on_patience
  keeps_patience last = rw (eq-eqb (view_of self d) view_limit last) refl

  leaves_alone : LeavesAlone self d
  leaves_alone = record { refused = keeps_refused; malformed = keeps_malformed; patience = keeps_patience }

pub hosts_leave_alone : {S : Type 0} (system : System S) (k h : ℕ) → LeavesAlone (self_of system h) ((world system k).histories h)
hosts_leave_alone system k h = leaves_alone (self_of system h) ((world system k).histories h)
