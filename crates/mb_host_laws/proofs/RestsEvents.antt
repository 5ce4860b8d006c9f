-- After an event of a host each entry of its history rests on what was given, noted and sent, then or before.
use Rattle.std.proofs.Common.{◌≡◌, ℕ, Bool, true, false, ◌&&◌, ◌||◌, ◌∷◌, refl, inl, inr, Result, Ok, Err}
use Rattle.std.specs.Prelude.{◌==◌, nat_lt}
use Rattle.std.proofs.lemmas.Bool.{cases_Bool}
use Rattle.mb_base.specs.Shapes.{Bytes}
use Rattle.mb_msg.specs.declared.message.Message.{Message}
use Rattle.mb_msg.specs.Spelling.{kind_of}
use Rattle.mb_msg.specs.Reading.{message_of}
use Rattle.mb_msg.specs.declared.event.Event.TheVariants as event
use Rattle.mb_model.specs.Histories.{Nudged, LostPatience, History, Identity, view_of}
use Rattle.mb_model.specs.Held.{view_limit, wish_of}
use Rattle.mb_model.specs.Positions.{is_behind}
use Rattle.mb_model.specs.Sending.{Progress, begin, send, write, to_all}
use Rattle.mb_model.specs.Making.{wish, resend}
use Rattle.mb_model.specs.CarriedOut.{run_rules, enough}
use Rattle.mb_model.specs.Given.{Answer, give}
use Rattle.mb_model.specs.HostStep.{on_patience, on_nudge, on_message, on_bytes, low_rose, with_fetch, finished_where, transition}
use Rattle.mb_host_laws.specs.Rests.{Each, Rests}
use Rattle.mb_host_laws.proofs.Rests.{each_more, rests_more}
use Rattle.mb_host_laws.proofs.RestsGiven.{HashedIn, SentIn, Rested, sends_rest, give_rests}
use Rattle.mb_host_laws.proofs.RestsRules.{run_rests}

module _ {S : Type 0} (self : Identity S) (given : Message → Type 0) (old : Bytes → Type 0) (done : Message → Type 0) where
  abbrev R : Progress → Type 0
  R x = Rested self given old done x

  fetch_rests : (asks : Bool) (before : History) (x : Progress) → R x → R (with_fetch self asks before x)
  fetch_rests asks before x a = elim (cases_Bool (is_behind self x.history && (asks || low_rose self before x.history))) [
    | inl does ↦ rw does (sends_rest self given old done _ x a)
    | inr not_so ↦ rw not_so a
  ]

  finish_rests : (runs asks : Bool) (before : History) (o : Answer) → R o.left → R (finished_where self runs asks before o).left
  finish_rests true asks before o a = fetch_rests asks before (run_rules self enough o.left) (run_rests self given old done enough o.left a)
  finish_rests false asks before o a = a

  patience_rests : (x : Progress) → R x → R (on_patience self x).left
  unfolding on_patience
  patience_rests x a = elim (cases_Bool (view_of self x.history == view_limit)) [
    | inl last ↦ rw last a
    | inr more ↦ rw more (sends_rest self given old done (to_all (wish self (LostPatience ∷ x.history))) (write LostPatience x) (more, a))
  ]

  nudge_rests : (x : Progress) → R x → R (on_nudge self x).left
  unfolding on_nudge
  nudge_rests x a =
      let asked : Progress = send (to_all (resend self x.history)) (write Nudged x) in
      let resent : R asked = sends_rest self given old done (to_all (resend self x.history)) (write Nudged x) (tt, a) in
      elim (cases_Bool (nat_lt (view_of self (Nudged ∷ x.history)) (wish_of self (Nudged ∷ x.history) self.host))) [
        | inl wishes ↦ rw wishes (sends_rest self given old done (to_all (wish self (Nudged ∷ x.history))) asked resent)
        | inr none ↦ rw none resent
      ]

  -- what held of a history before an event, at its beginning
  begins : (d : History) → Each (Rests self given old done) d → R (begin d)
  begins d a = each_more _ _ (rests_more self given given old (HashedIn self given old done (begin d)) done (SentIn self given old done (begin d)) (λ m g. g) (λ s h. inl h) (λ m s. inl s)) d a

  message_rests : (d : History) (m : Message) → given m → Each (Rests self given old done) d → R (on_message self d m).left
  message_rests d m g a = finish_rests _ _ d (give self m (begin d)) (give_rests self given old done m (begin d) g (begins d a))

  bytes_rest : (d : History) (r : Result Message ℕ) → ((m : Message) → r ≡ Ok m → given m) → Each (Rests self given old done) d → R (on_bytes self r d).left
  bytes_rest d (Ok m) g a = message_rests d m (g m refl) a
  bytes_rest d (Err at) g a = begins d a

  -- where the message of the event, if it is one, counts as given
  pub given_rests : (d : History) (bytes : Bytes) → ((m : Message) → message_of self.shape bytes ≡ Ok m → given m) → Each (Rests self given old done) d → R (transition self d (event.Given bytes)).left
  unfolding transition
  given_rests d bytes g a = bytes_rest d (message_of self.shape bytes) g a

  pub patience_event : (d : History) → Each (Rests self given old done) d → R (transition self d event.Patience).left
  unfolding transition
  patience_event d a = finish_rests _ false d (on_patience self (begin d)) (patience_rests (begin d) (begins d a))

  pub nudge_event : (d : History) → Each (Rests self given old done) d → R (transition self d event.Nudge).left
  unfolding transition
  nudge_event d a = finish_rests true true d (on_nudge self (begin d)) (nudge_rests (begin d) (begins d a))
