-- Each piece of a host's step leaves a sound history: a given message, a rule that is carried out, and the whole step.
use Rattle.std.proofs.Common.{◌≡◌, ℕ, true, false, ◌&&◌, List, [], ◌∷◌, refl, ap, ◌∙◌, inl, inr, Option, Some, None}
use Rattle.std.specs.Prelude.{◌==◌, nat_lt, is_none}
use Rattle.std.proofs.lemmas.Bool.{cases_Bool, and_parts, ltb-true}
use Rattle.mb_base.specs.declared.names.Ui.{Ui}
use Rattle.mb_parts.specs.declared.floor.Floor.{Floor}
use Rattle.mb_parts.specs.declared.request.Request.{Request}
use Rattle.mb_msg.specs.declared.normal.Prepare.{Prepare as PrepareMessage}
use Rattle.mb_msg.specs.declared.message.Message.{Message}
use Rattle.mb_msg.specs.declared.message.Message.TheVariants as message
use Rattle.mb_msg.specs.declared.change.ReqViewChange.{ReqViewChange}
use Rattle.mb_msg.specs.declared.transfer.Resend.{Resend}
use Rattle.mb_msg.specs.declared.transfer.Log.{Log}
use Rattle.mb_msg.specs.declared.transfer.Fetch.{Fetch}
use Rattle.mb_msg.specs.declared.transfer.StateMsg.{StateMsg}
use Rattle.mb_msg.specs.declared.stamped.Stamped.{Stamped as StampedMessage}
use Rattle.mb_msg.specs.declared.stamped.Stamped.TheVariants as stamped
use Rattle.mb_msg.specs.Stamps.{ui_of, as_message}
use Rattle.mb_msg.specs.declared.event.Outcome.{Outcome}
use Rattle.mb_msg.specs.declared.event.Outcome.TheVariants as outcome
use Rattle.mb_model.specs.Histories.{Accepted, Jumped, Closed, Identity, gate, closed_at}
use Rattle.mb_model.specs.Execution.{missing}
use Rattle.mb_model.specs.Sending.{Progress, write, note}
use Rattle.mb_model.specs.Compared.{compared_in}
use Rattle.mb_model.specs.KindChecks.{stamped_refusal}
use Rattle.mb_model.specs.PlainChecks.{request_refusal, wish_refusal, resend_refusal, log_refusal, fetch_refusal, state_refusal}
use Rattle.mb_model.specs.Given.{closing, named_prepare, offer_prepare, casts_vote, accept, give_stamped, give_request, give_wish, give_resend, give_fetch, install_where_all, give_state, floor_shown, jump, give_entries, give_log, give}
use Rattle.mb_model.proofs.Options.{option_cases}
use Rattle.mb_steps.specs.Arises.{IsWhole}
use Rattle.mb_steps.proofs.StepGivenArise.{give_arises}
use Rattle.mb_steps.proofs.StepPassed.{passes_log}
use Rattle.mb_history_laws.specs.Gates.{GatesMove}
use Rattle.mb_history_laws.specs.Sound.{IsSound}
use Rattle.mb_history_laws.proofs.Gates.{illegal_is_of_others}
use Rattle.mb_history_laws.proofs.Sound.{sound, stays_sound, accepted_adds}

module _ {S : Type 0} (self : Identity S) where
  -- ---- gates alone: a step that arises is sound where its gates move so

  abbrev Moves : Progress → Type 0
  Moves x = GatesMove self x.history

  -- ---- stamped messages

  pub closing_sound : (o : Outcome) (u : Ui) (x : Progress) → ((rule : ℕ) → o ≡ outcome.Illegal rule → (u.host == self.host) ≡ false) → IsSound self x.history → IsSound self (closing o u x).history
  closing_sound (outcome.Illegal rule) u x other s = stays_sound self (Closed u.host u.counter) x.history tt (other rule refl) s
  closing_sound o u x other s = s

  refused_sound : (m : StampedMessage) (o : Outcome) (x : Progress) → stamped_refusal self x.history m ≡ Some o → IsSound self x.history → IsSound self (closing o (ui_of m) x).history
  refused_sound m o x some s = closing_sound o (ui_of m) x (λ rule e. illegal_is_of_others self x.history s.own.own m rule (some ∙ ap Some e)) s

  pub offer_sound : (m : PrepareMessage) (x : Progress) → IsSound self x.history → IsSound self (offer_prepare self m x).history
  unfolding offer_prepare
  offer_sound m x s = elim (option_cases (stamped_refusal self x.history (stamped.Prepare m))) [
    | inl none ↦ rw none (stays_sound self (Accepted (message.Prepare m)) x.history (accepted_adds self (stamped.Prepare m) x.history none) tt s)
    | inr (o, some) ↦ rw some (refused_sound (stamped.Prepare m) o x some s)
  ]

  accepted_sound : (m : StampedMessage) (x : Progress) → stamped_refusal self x.history m ≡ None → IsSound self x.history → IsSound self (Accepted (as_message m) ∷ x.history)
  accepted_sound m x none s = stays_sound self (Accepted (as_message m)) x.history (accepted_adds self m x.history none) tt s

  pub accept_sound : (m : StampedMessage) (x : Progress) → stamped_refusal self x.history m ≡ None → IsSound self x.history → IsSound self (accept self m x).history
  accept_sound (stamped.Commit m) x none s = elim (cases_Bool (casts_vote self x.history m)) [
    | inl casts ↦ rw casts (offer_sound (named_prepare self m) (write (Accepted (message.Commit m)) x) (accepted_sound (stamped.Commit m) x none s))
    | inr only ↦ rw only (accepted_sound (stamped.Commit m) x none s)
  ]
  accept_sound m x none s = accepted_sound m x none s

  pub stamped_sound : (m : StampedMessage) (x : Progress) → IsSound self x.history → IsSound self (give_stamped self m x).left.history
  unfolding give_stamped
  stamped_sound m x s = elim (option_cases (stamped_refusal self x.history m)) [
    | inl none ↦ rw none (accept_sound m (note (compared_in self x.history m) x) none s)
    | inr (o, some) ↦ rw some (refused_sound m o (note (compared_in self x.history m) x) some s)
  ]

  -- ---- a LOG: the gate of its host jumps, and its entries are given

  pub jump_sound : (h : ℕ) (f : Option Floor) (x : Progress) → (h == self.host) ≡ false → IsSound self x.history → IsSound self (jump self h f x).history
  jump_sound h None x other s = s
  jump_sound h (Some f) x other s = elim (cases_Bool (is_none (closed_at x.history h) && nat_lt (gate x.history h).counter f.counter)) [
    | inl forward ↦ rw forward (stays_sound self (Jumped h f) x.history other (ltb-true (gate x.history h).counter f.counter (and_parts (is_none (closed_at x.history h)) (nat_lt (gate x.history h).counter f.counter) forward).1) s)
    | inr stays ↦ rw stays s
  ]

  pub entries_sound : (ms : List StampedMessage) (x : Progress) → IsSound self x.history → IsSound self (give_entries self ms x).left.history
  unfolding give_entries
  entries_sound [] x s = s
  entries_sound (m ∷ ms) x s = go (λ b. entries_sound ms (give_stamped self m x).left b) (give_stamped self m x).outcome refl where
    left : IsSound self (give_stamped self m x).left.history
    left = stamped_sound m x s

    go : (IsSound self (give_stamped self m x).left.history → IsSound self (give_entries self ms (give_stamped self m x).left).left.history)
        → (o : Outcome) → (give_stamped self m x).outcome ≡ o → IsSound self (give_entries self (m ∷ ms) x).left.history
    go more outcome.Took e = rw e (more left)
    go more (outcome.Stale next) e = rw e (more left)
    go more outcome.Idle e = rw e (more left)
    go more o e = rw e left

  pub log_sound : (m : Log) (x : Progress) → IsSound self x.history → IsSound self (give_log self m x).left.history
  unfolding give_log
  log_sound m x s = elim (option_cases (log_refusal self m)) [
    | inl none ↦
        let p = passes_log self m none in
        let jumped = jump_sound m.host (floor_shown self m.host m.floor) x p.not_own s in
        rw none (entries_sound m.entries (write (Accepted (message.Log m)) (jump self m.host (floor_shown self m.host m.floor) x)) (stays_sound self (Accepted (message.Log m)) (jump self m.host (floor_shown self m.host m.floor) x).history p tt jumped))
    | inr (o, some) ↦ rw some s
  ]

  -- ---- the other kinds move no gate

  request_moves : (r : Request) (x : Progress) → Moves x → Moves (give_request self r x).left
  unfolding give_request
  request_moves r x g = elim (option_cases (request_refusal self x.history r)) [
    | inl none ↦ rw none g
    | inr (o, some) ↦ go o some
  ] where
    go : (o : Outcome) → request_refusal self x.history r ≡ Some o → Moves (give_request self r x).left
    go outcome.Again some = rw some g
    go o some = rw some g

  wish_moves : (m : ReqViewChange) (x : Progress) → Moves x → Moves (give_wish self m x).left
  unfolding give_wish
  wish_moves m x g = elim (option_cases (wish_refusal self x.history m)) [
    | inl none ↦ rw none g
    | inr (o, some) ↦ rw some g
  ]

  resend_moves : (m : Resend) (x : Progress) → Moves x → Moves (give_resend self m x).left
  unfolding give_resend
  resend_moves m x g = elim (option_cases (resend_refusal self x.history m)) [
    | inl none ↦ rw none g
    | inr (o, some) ↦ rw some g
  ]

  fetch_moves : (m : Fetch) (x : Progress) → Moves x → Moves (give_fetch self m x).left
  unfolding give_fetch
  fetch_moves m x g = elim (option_cases (fetch_refusal self x.history m)) [
    | inl none ↦ rw none g
    | inr (o, some) ↦ rw some g
  ]

  install_moves : (m : StateMsg) (x : Progress) → Moves x → Moves (install_where_all self (write (Accepted (message.State m)) x))
  install_moves m x g = elim (cases_Bool (is_none (missing self (Accepted (message.State m) ∷ x.history)))) [
    | inl all ↦ rw all g
    | inr some ↦ rw some g
  ]

  state_moves : (m : StateMsg) (x : Progress) → Moves x → Moves (give_state self m x).left
  unfolding give_state
  state_moves m x g = elim (option_cases (state_refusal self x.history m)) [
    | inl none ↦ rw none (install_moves m x g)
    | inr (o, some) ↦ go o some
  ] where
    go : (o : Outcome) → state_refusal self x.history m ≡ Some o → Moves (give_state self m x).left
    go (outcome.BadState part at) some = rw some g
    go o some = rw some g

  -- ---- any message

  by_arising : (m : Message) (x : Progress) → IsSound self x.history → IsWhole x.history → GatesMove self (give self m x).left.history → IsSound self (give self m x).left.history
  by_arising m x s w g = sound self (give self m x).left.history (give_arises self m x (s.arises, w)).0 g

  pub give_sound : (m : Message) (x : Progress) → IsSound self x.history → IsWhole x.history → IsSound self (give self m x).left.history
  give_sound (message.Request m) x s w = by_arising (message.Request m) x s w (request_moves m x s.gates)
  give_sound (message.Prepare m) x s w = stamped_sound (stamped.Prepare m) x s
  give_sound (message.Commit m) x s w = stamped_sound (stamped.Commit m) x s
  give_sound (message.Reply m) x s w = s
  give_sound (message.Checkpoint m) x s w = stamped_sound (stamped.Checkpoint m) x s
  give_sound (message.ReqViewChange m) x s w = by_arising (message.ReqViewChange m) x s w (wish_moves m x s.gates)
  give_sound (message.ViewChange m) x s w = stamped_sound (stamped.ViewChange m) x s
  give_sound (message.NewView m) x s w = stamped_sound (stamped.NewView m) x s
  give_sound (message.Enter m) x s w = stamped_sound (stamped.Enter m) x s
  give_sound (message.Open m) x s w = stamped_sound (stamped.Open m) x s
  give_sound (message.Join m) x s w = stamped_sound (stamped.Join m) x s
  give_sound (message.Resend m) x s w = by_arising (message.Resend m) x s w (resend_moves m x s.gates)
  give_sound (message.Log m) x s w = log_sound m x s
  give_sound (message.Fetch m) x s w = by_arising (message.Fetch m) x s w (fetch_moves m x s.gates)
  give_sound (message.State m) x s w = by_arising (message.State m) x s w (state_moves m x s.gates)
  give_sound (message.Stop m) x s w = s
