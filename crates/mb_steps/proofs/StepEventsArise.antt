-- After any events of a host its history arose.
use Rattle.std.proofs.Common.{◌≡◌, ℕ, Bool, true, false, ◌&&◌, ◌||◌, List, [], ◌∷◌, refl, sym, subst, inl, inr, Result, Ok, Err}
use Rattle.std.specs.Prelude.{◌==◌, nat_lt}
use Rattle.std.proofs.lemmas.Bool.{cases_Bool}
use Rattle.mb_msg.specs.declared.message.Message.{Message}
use Rattle.mb_msg.specs.Spelling.{kind_of}
use Rattle.mb_msg.specs.Reading.{message_of}
use Rattle.mb_msg.specs.declared.event.Event.{Event}
use Rattle.mb_msg.specs.declared.event.Event.TheVariants as event
use Rattle.mb_model.specs.Histories.{Nudged, History, Identity, view_of}
use Rattle.mb_model.specs.Held.{view_limit, wish_of}
use Rattle.mb_model.specs.Sending.{Progress, begin}
use Rattle.mb_model.specs.CarriedOut.{run_rules, enough}
use Rattle.mb_model.specs.Given.{Answer, give}
use Rattle.mb_model.specs.Positions.{is_behind}
use Rattle.mb_model.specs.HostStep.{on_patience, on_nudge, on_message, on_bytes, low_rose, with_fetch, finished_where, transition, after}
use Rattle.mb_steps.specs.Arises.{Arises, IsWhole}
use Rattle.mb_steps.proofs.StepArises.{ArisesWhole, Arisen}
use Rattle.mb_steps.proofs.StepGivenArise.{give_arises}
use Rattle.mb_steps.proofs.StepRulesArise.{run_arises}

module _ {S : Type 0} (self : Identity S) where
  -- ---- whole events

  fetch_same : (asks : Bool) (before : History) (x : Progress) → (with_fetch self asks before x).history ≡ x.history
  fetch_same asks before x = elim (cases_Bool (is_behind self x.history && (asks || low_rose self before x.history))) [
    | inl does ↦ rw does refl
    | inr not_so ↦ rw not_so refl
  ]

  finish_arises : (runs asks : Bool) (before : History) (o : Answer) → Arisen self o.left → Arisen self (finished_where self runs asks before o).left
  finish_arises true asks before o a = subst (λ (d : History). ArisesWhole self d) (sym (fetch_same asks before (run_rules self enough o.left))) (run_arises self enough o.left a)
  finish_arises false asks before o a = a

  patience_arises : (x : Progress) → Arisen self x → Arisen self (on_patience self x).left
  unfolding on_patience
  patience_arises x a = elim (cases_Bool (view_of self x.history == view_limit)) [
    | inl last ↦ rw last a
    | inr more ↦ rw more ((tt, a.0), tt)
  ]

  nudge_arises : (x : Progress) → Arisen self x → Arisen self (on_nudge self x).left
  unfolding on_nudge
  nudge_arises x a = elim (cases_Bool (nat_lt (view_of self (Nudged ∷ x.history)) (wish_of self (Nudged ∷ x.history) self.host))) [
    | inl wishes ↦ rw wishes ((tt, a.0), tt)
    | inr none ↦ rw none ((tt, a.0), tt)
  ]

  message_arises : (d : History) (m : Message) → ArisesWhole self d → ArisesWhole self (on_message self d m).left.history
  message_arises d m a = finish_arises _ _ d (give self m (begin d)) (give_arises self m (begin d) a)

  bytes_arise : (d : History) (r : Result Message ℕ) → ArisesWhole self d → ArisesWhole self (on_bytes self r d).left.history
  bytes_arise d (Ok m) a = message_arises d m a
  bytes_arise d (Err at) a = a

  pub transition_arises : (d : History) (e : Event) → ArisesWhole self d → ArisesWhole self (transition self d e).left.history
  unfolding transition
  transition_arises d (event.Given bytes) a = bytes_arise d (message_of self.shape bytes) a
  transition_arises d event.Patience a = finish_arises _ false d (on_patience self (begin d)) (patience_arises (begin d) a)
  transition_arises d event.Nudge a = finish_arises true true d (on_nudge self (begin d)) (nudge_arises (begin d) a)

  arises_after : (events : List Event) → ArisesWhole self (after self events)
  unfolding after
  arises_after [] = (tt, tt)
  arises_after (e ∷ es) = transition_arises (after self es) e (arises_after es)

  -- After any events the history arose so, and no batch is partly served.
  pub after_arises : (events : List Event) → Arises self (after self events)
  after_arises events = (arises_after events).0

  pub after_whole : (events : List Event) → IsWhole (after self events)
  after_whole events = (arises_after events).1
