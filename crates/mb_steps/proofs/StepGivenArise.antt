-- A given message leaves a history that arises: what was accepted has passed its tests, and no gate of this host itself jumps.
use Rattle.std.proofs.Common.{◌≡◌, ℕ, ◌<◌, Bool, true, false, ◌&&◌, List, [], ◌∷◌, refl, inl, inr, Option, Some, None}
use Rattle.std.specs.Prelude.{is_none, ◌==◌, nat_lt, if◌then◌else◌}
use Rattle.std.proofs.lemmas.Bool.{cases_Bool, ltb-true}
use Rattle.mb_base.specs.declared.names.Ui.{Ui}
use Rattle.mb_parts.specs.declared.floor.Floor.{Floor}
use Rattle.mb_parts.specs.declared.request.Request.{Request}
use Rattle.mb_msg.specs.declared.message.Message.{Message}
use Rattle.mb_msg.specs.declared.message.Message.TheVariants as message
use Rattle.mb_msg.specs.declared.normal.Prepare.{Prepare as PrepareMessage}
use Rattle.mb_msg.specs.declared.change.ReqViewChange.{ReqViewChange}
use Rattle.mb_msg.specs.declared.transfer.Resend.{Resend}
use Rattle.mb_msg.specs.declared.transfer.Log.{Log}
use Rattle.mb_msg.specs.declared.transfer.Fetch.{Fetch}
use Rattle.mb_msg.specs.declared.transfer.StateMsg.{StateMsg}
use Rattle.mb_msg.specs.declared.stamped.Stamped.{Stamped as StampedMessage}
use Rattle.mb_msg.specs.declared.stamped.Stamped.TheVariants as stamped
use Rattle.mb_msg.specs.Stamps.{ui_of, as_message}
use Rattle.mb_msg.specs.declared.event.Outcome.{Outcome}
use Rattle.mb_msg.specs.declared.event.Outcome.TheVariants as outcome
use Rattle.mb_model.specs.Histories.{Accepted, History, Identity, gate, closed_at}
use Rattle.mb_model.specs.Stable.{low_of, stable_of}
use Rattle.mb_model.specs.Positions.{exec_of}
use Rattle.mb_model.specs.Execution.{missing}
use Rattle.mb_model.specs.Sending.{Progress, write, note}
use Rattle.mb_model.specs.KindChecks.{stamped_refusal}
use Rattle.mb_model.specs.PlainChecks.{request_refusal, wish_refusal, resend_refusal, log_refusal, fetch_refusal, state_refusal}
use Rattle.mb_model.specs.Passed.{PassesStamped, PassesState}
use Rattle.mb_model.specs.Compared.{compared_in}
use Rattle.mb_model.specs.Given.{closing, named_prepare, offer_prepare, casts_vote, accept, give_stamped, give_request, give_wish, give_resend, give_fetch, install_where_all, give_state, floor_shown, jump, give_entries, give_log, give}
use Rattle.mb_model.proofs.Options.{option_cases}
use Rattle.mb_steps.proofs.StepPassed.{passes_stamped, passes_wish, passes_resend, passes_log, passes_request, passes_fetch, passes_state}
use Rattle.mb_steps.proofs.StepArises.{ArisesWhole, Arisen}

if_holds : (t b : Bool) → (if t then b else false) ≡ true → b ≡ true
if_holds true b e = e
if_holds false b e = absurd cc

module _ {S : Type 0} (self : Identity S) where
  -- ---- stamped messages

  closing_arises : (o : Outcome) (u : Ui) (x : Progress) → Arisen self x → Arisen self (closing o u x)
  closing_arises (outcome.Illegal r) u x a = ((tt, a.0), tt)
  closing_arises o u x a = a

  accepted_arises : (m : StampedMessage) (d : History) → PassesStamped self d m → ArisesWhole self d → ArisesWhole self (Accepted (as_message m) ∷ d)
  accepted_arises (stamped.Prepare m) d p a = ((p, a.0), tt)
  accepted_arises (stamped.Commit m) d p a = ((p, a.0), tt)
  accepted_arises (stamped.Checkpoint m) d p a = ((p, a.0), tt)
  accepted_arises (stamped.ViewChange m) d p a = ((p, a.0), tt)
  accepted_arises (stamped.NewView m) d p a = ((p, a.0), tt)
  accepted_arises (stamped.Enter m) d p a = ((p, a.0), tt)
  accepted_arises (stamped.Open m) d p a = ((p, a.0), tt)
  accepted_arises (stamped.Join m) d p a = ((p, a.0), tt)

  offer_arises : (m : PrepareMessage) (x : Progress) → Arisen self x → Arisen self (offer_prepare self m x)
  unfolding offer_prepare
  offer_arises m x a = elim (option_cases (stamped_refusal self x.history (stamped.Prepare m))) [
    | inl none ↦ rw none ((passes_stamped self x.history (stamped.Prepare m) none, a.0), tt)
    | inr (o, some) ↦ rw some (closing_arises o m.ui x a)
  ]

  accept_arises : (m : StampedMessage) (x : Progress) → PassesStamped self x.history m → Arisen self x → Arisen self (accept self m x)
  accept_arises (stamped.Commit m) x p a = elim (cases_Bool (casts_vote self x.history m)) [
    | inl casts ↦ rw casts (offer_arises (named_prepare self m) (write (Accepted (message.Commit m)) x) ((p, a.0), tt))
    | inr only ↦ rw only ((p, a.0), tt)
  ]
  accept_arises m x p a = accepted_arises m x.history p a

  stamped_arises : (m : StampedMessage) (x : Progress) → Arisen self x → Arisen self (give_stamped self m x).left
  unfolding give_stamped
  stamped_arises m x a = elim (option_cases (stamped_refusal self x.history m)) [
    | inl none ↦ rw none (accept_arises m (note (compared_in self x.history m) x) (passes_stamped self x.history m none) a)
    | inr (o, some) ↦ rw some (closing_arises o (ui_of m) (note (compared_in self x.history m) x) a)
  ]

  -- ---- the other kinds

  request_arises : (r : Request) (x : Progress) → Arisen self x → Arisen self (give_request self r x).left
  unfolding give_request
  request_arises r x a = elim (option_cases (request_refusal self x.history r)) [
    | inl none ↦ rw none ((passes_request self x.history r none, a.0), tt)
    | inr (o, some) ↦ go o some
  ] where
    go : (o : Outcome) → request_refusal self x.history r ≡ Some o → Arisen self (give_request self r x).left
    go outcome.Again some = rw some a
    go o some = rw some a

  wish_arises : (m : ReqViewChange) (x : Progress) → Arisen self x → Arisen self (give_wish self m x).left
  unfolding give_wish
  wish_arises m x a = elim (option_cases (wish_refusal self x.history m)) [
    | inl none ↦ rw none ((passes_wish self x.history m none, a.0), tt)
    | inr (o, some) ↦ rw some a
  ]

  resend_arises : (m : Resend) (x : Progress) → Arisen self x → Arisen self (give_resend self m x).left
  unfolding give_resend
  resend_arises m x a = elim (option_cases (resend_refusal self x.history m)) [
    | inl none ↦ rw none ((passes_resend self x.history m none, a.0), tt)
    | inr (o, some) ↦ rw some a
  ]

  fetch_arises : (m : Fetch) (x : Progress) → Arisen self x → Arisen self (give_fetch self m x).left
  unfolding give_fetch
  fetch_arises m x a = elim (option_cases (fetch_refusal self x.history m)) [
    | inl none ↦ rw none ((passes_fetch self x.history m none, a.0), tt)
    | inr (o, some) ↦ rw some a
  ]

  state_low : (d : History) (m : StateMsg) → low_of self (Accepted (message.State m) ∷ d) ≡ low_of self d
  unfolding stable_of
  state_low d m = refl

  state_exec : (d : History) (m : StateMsg) → exec_of (Accepted (message.State m) ∷ d) ≡ exec_of d
  unfolding exec_of
  state_exec d m = refl

  -- a state that is installed is the wanted one
  install_arises : (m : StateMsg) (x : Progress) → PassesState self x.history m → Arisen self x → Arisen self (install_where_all self (write (Accepted (message.State m)) x))
  install_arises m x p a = elim (cases_Bool (is_none (missing self (Accepted (message.State m) ∷ x.history)))) [
    | inl all ↦ rw all (((refl, above), (p, a.0)), tt)
    | inr some ↦ rw some ((p, a.0), tt)
  ] where
    above : exec_of (Accepted (message.State m) ∷ x.history) < low_of self (Accepted (message.State m) ∷ x.history)
    above = rw (state_exec x.history m, state_low x.history m) (ltb-true (exec_of x.history) (low_of self x.history) (if_holds (m.pos == low_of self x.history) _ p.wanted))

  state_arises : (m : StateMsg) (x : Progress) → Arisen self x → Arisen self (give_state self m x).left
  unfolding give_state
  state_arises m x a = elim (option_cases (state_refusal self x.history m)) [
    | inl none ↦ rw none (install_arises m x (passes_state self x.history m none) a)
    | inr (o, some) ↦ go o some
  ] where
    go : (o : Outcome) → state_refusal self x.history m ≡ Some o → Arisen self (give_state self m x).left
    go (outcome.BadState part at) some = rw some ((tt, a.0), tt)
    go o some = rw some a

  -- ---- LOG

  entries_arise : (ms : List StampedMessage) (x : Progress) → Arisen self x → Arisen self (give_entries self ms x).left
  unfolding give_entries
  entries_arise [] x a = a
  entries_arise (m ∷ ms) x a = go (λ b. entries_arise ms (give_stamped self m x).left b) (give_stamped self m x).outcome refl where
    left : Arisen self (give_stamped self m x).left
    left = stamped_arises m x a

    go : (Arisen self (give_stamped self m x).left → Arisen self (give_entries self ms (give_stamped self m x).left).left)
        → (o : Outcome) → (give_stamped self m x).outcome ≡ o → Arisen self (give_entries self (m ∷ ms) x).left
    go more outcome.Took e = rw e (more left)
    go more (outcome.Stale next) e = rw e (more left)
    go more outcome.Idle e = rw e (more left)
    go more o e = rw e left

  jump_arises : (h : ℕ) (f : Option Floor) (x : Progress) → (h == self.host) ≡ false → Arisen self x → Arisen self (jump self h f x)
  jump_arises h None x other a = a
  jump_arises h (Some f) x other a = elim (cases_Bool (is_none (closed_at x.history h) && nat_lt (gate x.history h).counter f.counter)) [
    | inl forward ↦ rw forward ((other, a.0), tt)
    | inr stays ↦ rw stays a
  ]

  log_arises : (m : Log) (x : Progress) → Arisen self x → Arisen self (give_log self m x).left
  unfolding give_log
  log_arises m x a = elim (option_cases (log_refusal self m)) [
    | inl none ↦
        let p = passes_log self m none in
        rw none (entries_arise m.entries _ ((p, (jump_arises m.host (floor_shown self m.host m.floor) x p.not_own a).0), tt))
    | inr (o, some) ↦ rw some a
  ]

  pub give_arises : (m : Message) (x : Progress) → Arisen self x → Arisen self (give self m x).left
  give_arises (message.Request m) x a = request_arises m x a
  give_arises (message.Prepare m) x a = stamped_arises (stamped.Prepare m) x a
  give_arises (message.Commit m) x a = stamped_arises (stamped.Commit m) x a
  give_arises (message.Reply m) x a = a
  give_arises (message.Checkpoint m) x a = stamped_arises (stamped.Checkpoint m) x a
  give_arises (message.ReqViewChange m) x a = wish_arises m x a
  give_arises (message.ViewChange m) x a = stamped_arises (stamped.ViewChange m) x a
  give_arises (message.NewView m) x a = stamped_arises (stamped.NewView m) x a
  give_arises (message.Enter m) x a = stamped_arises (stamped.Enter m) x a
  give_arises (message.Open m) x a = stamped_arises (stamped.Open m) x a
  give_arises (message.Join m) x a = stamped_arises (stamped.Join m) x a
  give_arises (message.Resend m) x a = resend_arises m x a
  give_arises (message.Log m) x a = log_arises m x a
  give_arises (message.Fetch m) x a = fetch_arises m x a
  give_arises (message.State m) x a = state_arises m x a
  give_arises (message.Stop m) x a = a
