-- After each event of a host no rule is left undone.
use Rattle.std.proofs.Common.{◌≡◌, ℕ, zero, suc, ◌+◌, Bool, true, false, ◌&&◌, ◌||◌, not, List, [], ◌∷◌, refl, ap, ◌∙◌, inl, inr, Option, Some, None}
use Rattle.std.specs.Prelude.{is_none, ◌==◌, if◌then◌else◌, nat_le, option_map, filter_map, Result, Ok, Err}
use Rattle.std.specs.List.{range_with_len}
use Rattle.std.proofs.lemmas.Bool.{cases_Bool}
use Rattle.mb_base.specs.Shapes.{IsShape, quorum, tally, host_count, client_count}
use Rattle.mb_base.specs.declared.names.Ui.{Ui}
use Rattle.mb_parts.specs.declared.request.Request.{Request}
use Rattle.mb_parts.specs.Ordered.{current_view, is_opened, is_entered as entered_in, last_position}
use Rattle.mb_msg.specs.declared.message.Message.{Message}
use Rattle.mb_msg.specs.declared.message.Message.TheVariants as message
use Rattle.mb_msg.specs.declared.change.ReqViewChange.{ReqViewChange}
use Rattle.mb_msg.specs.declared.transfer.Resend.{Resend}
use Rattle.mb_msg.specs.declared.transfer.Log.{Log}
use Rattle.mb_msg.specs.declared.transfer.Fetch.{Fetch}
use Rattle.mb_msg.specs.declared.transfer.StateMsg.{StateMsg}
use Rattle.mb_msg.specs.declared.stamped.Stamped.{Stamped as StampedMessage}
use Rattle.mb_msg.specs.declared.stamped.Stamped.TheVariants as stamped
use Rattle.mb_msg.specs.Stamps.{ui_of}
use Rattle.mb_msg.specs.Spelling.{kind_of}
use Rattle.mb_msg.specs.Reading.{message_of}
use Rattle.mb_msg.specs.declared.event.Event.{Event}
use Rattle.mb_msg.specs.declared.event.Outcome.{Outcome}
use Rattle.mb_msg.specs.declared.event.Event.TheVariants as event
use Rattle.mb_msg.specs.declared.event.Outcome.TheVariants as outcome
use Rattle.mb_model.specs.Histories.{History, Identity, origin, taken_of, view_of, is_open, is_primary}
use Rattle.mb_model.specs.Held.{view_limit, quorum_wish, wish_of, new_view_of, evidence_of}
use Rattle.mb_model.specs.Stable.{stable_of, low_of}
use Rattle.mb_model.specs.OwnLog.{has_room, has_other_room}
use Rattle.mb_model.specs.Positions.{exec_of, slot_in, slot_at, in_window, is_behind}
use Rattle.mb_model.specs.Execution.{pending}
use Rattle.mb_model.specs.Batches.{first_batch}
use Rattle.mb_model.specs.Sending.{Progress, begin, note}
use Rattle.mb_model.specs.KindChecks.{stamped_refusal}
use Rattle.mb_model.specs.PlainChecks.{request_refusal, wish_refusal, resend_refusal, log_refusal, fetch_refusal, state_refusal}
use Rattle.mb_model.specs.Compared.{compared_in}
use Rattle.mb_model.specs.EnabledRules.{Rule, Commit, Prepare, rule_where, next_rule, change_enabled, announce_enabled, enter_enabled, open_enabled, join_enabled, commit_enabled, execute_enabled, prepare_enabled, with_batch, next_position, if_committed, unordered_of, unordered, may_order, IsQuiescent}
use Rattle.mb_model.specs.CarriedOut.{run_rules, enough}
use Rattle.mb_model.specs.Given.{Answer, closing, give_stamped, give_request, give_wish, give_resend, give_fetch, give_state, give_log, give}
use Rattle.mb_model.specs.HostStep.{on_message, on_patience, on_nudge, on_bytes, low_rose, with_fetch, finished, finished_where, transition, rules_follow, is_taken}
use Rattle.mb_model.proofs.Options.{option_cases}
use Rattle.mb_steps.proofs.StepRounds.{none_left}
use Rattle.mb_steps.proofs.StepUnchanged.{closed_rules, dropped_rules}

module _ {S : Type 0} (self : Identity S) where
  abbrev Quiet : Progress → Type 0
  Quiet x = next_rule self x.history ≡ None

  -- what was not taken leaves no rule
  abbrev Leaves : Answer → Type 0
  Leaves a = is_taken self a.outcome ≡ false → Quiet a.left

  closing_quiet : (o : Outcome) (u : Ui) (x : Progress) → Quiet x → Quiet (closing o u x)
  closing_quiet (outcome.Illegal r) u x q = closed_rules self x.history u.host u.counter ∙ q
  closing_quiet o u x q = q

  stamped_leaves : (m : StampedMessage) (x : Progress) → Quiet x → Leaves (give_stamped self m x)
  unfolding give_stamped
  stamped_leaves m x q = elim (option_cases (stamped_refusal self x.history m)) [
    | inl none ↦ rw none (λ e. absurd cc)
    | inr (o, some) ↦ rw some (λ e. closing_quiet o (ui_of m) (note (compared_in self x.history m) x) q)
  ]

  request_leaves : (r : Request) (x : Progress) → Quiet x → Leaves (give_request self r x)
  unfolding give_request
  request_leaves r x q = elim (option_cases (request_refusal self x.history r)) [
    | inl none ↦ rw none (λ e. absurd cc)
    | inr (o, some) ↦ go o some
  ] where
    go : (o : Outcome) → request_refusal self x.history r ≡ Some o → Leaves (give_request self r x)
    go outcome.Again some = rw some (λ e. q)
    go o some = rw some (λ e. q)

  wish_leaves : (m : ReqViewChange) (x : Progress) → Quiet x → Leaves (give_wish self m x)
  unfolding give_wish
  wish_leaves m x q = elim (option_cases (wish_refusal self x.history m)) [
    | inl none ↦ rw none (λ e. absurd cc)
    | inr (o, some) ↦ rw some (λ e. q)
  ]

  resend_leaves : (m : Resend) (x : Progress) → Quiet x → Leaves (give_resend self m x)
  unfolding give_resend
  resend_leaves m x q = elim (option_cases (resend_refusal self x.history m)) [
    | inl none ↦ rw none (λ e. absurd cc)
    | inr (o, some) ↦ rw some (λ e. q)
  ]

  fetch_leaves : (m : Fetch) (x : Progress) → Quiet x → Leaves (give_fetch self m x)
  unfolding give_fetch
  fetch_leaves m x q = elim (option_cases (fetch_refusal self x.history m)) [
    | inl none ↦ rw none (λ e. absurd cc)
    | inr (o, some) ↦ rw some (λ e. q)
  ]

  state_leaves : (m : StateMsg) (x : Progress) → Quiet x → Leaves (give_state self m x)
  unfolding give_state
  state_leaves m x q = elim (option_cases (state_refusal self x.history m)) [
    | inl none ↦ rw none (λ e. absurd cc)
    | inr (o, some) ↦ go o some
  ] where
    go : (o : Outcome) → state_refusal self x.history m ≡ Some o → Leaves (give_state self m x)
    go (outcome.BadState part at) some = rw some (λ e. dropped_rules self x.history ∙ q)
    go o some = rw some (λ e. q)

  -- a LOG whose parts don't check changes nothing
  log_leaves : (m : Log) (x : Progress) → Quiet x → is_none (log_refusal self m) ≡ false → Quiet (give_log self m x).left
  unfolding give_log
  log_leaves m x q e = elim (option_cases (log_refusal self m)) [
    | inl none ↦ let h = rw none at e in absurd cc
    | inr (o, some) ↦ rw some q
  ]

  give_leaves : (m : Message) (x : Progress) → Quiet x → rules_follow self (give self m x).outcome m ≡ false → Quiet (give self m x).left
  give_leaves (message.Request m) x q = request_leaves m x q
  give_leaves (message.Prepare m) x q = stamped_leaves (stamped.Prepare m) x q
  give_leaves (message.Commit m) x q = stamped_leaves (stamped.Commit m) x q
  give_leaves (message.Reply m) x q = λ e. q
  give_leaves (message.Checkpoint m) x q = stamped_leaves (stamped.Checkpoint m) x q
  give_leaves (message.ReqViewChange m) x q = wish_leaves m x q
  give_leaves (message.ViewChange m) x q = stamped_leaves (stamped.ViewChange m) x q
  give_leaves (message.NewView m) x q = stamped_leaves (stamped.NewView m) x q
  give_leaves (message.Enter m) x q = stamped_leaves (stamped.Enter m) x q
  give_leaves (message.Open m) x q = stamped_leaves (stamped.Open m) x q
  give_leaves (message.Join m) x q = stamped_leaves (stamped.Join m) x q
  give_leaves (message.Resend m) x q = resend_leaves m x q
  give_leaves (message.Log m) x q = log_leaves m x q
  give_leaves (message.Fetch m) x q = fetch_leaves m x q
  give_leaves (message.State m) x q = state_leaves m x q
  give_leaves (message.Stop m) x q = λ e. q

  -- a FETCH changes no table
  fetch_quiet : (asks : Bool) (d : History) (x : Progress) → Quiet x → Quiet (with_fetch self asks d x)
  fetch_quiet asks d x q = elim (cases_Bool (is_behind self x.history && (asks || low_rose self d x.history))) [
    | inl does ↦ rw does q
    | inr not_so ↦ rw not_so q
  ]

  finished_quiet : IsShape self.shape → (asks : Bool) (d : History) (a : Answer) → Quiet (finished self asks d a).left
  finished_quiet k asks d a = fetch_quiet asks d (run_rules self enough a.left) (none_left self k a.left)

  finish_quiet : IsShape self.shape → (runs asks : Bool) (d : History) (a : Answer) → (runs ≡ false → Quiet a.left) → Quiet (finished_where self runs asks d a).left
  finish_quiet k true asks d a f = finished_quiet k asks d a
  finish_quiet k false asks d a f = f refl

  patience_leaves : (x : Progress) → Quiet x → Leaves (on_patience self x)
  unfolding on_patience
  patience_leaves x q = elim (cases_Bool (view_of self x.history == view_limit)) [
    | inl last ↦ rw last (λ e. q)
    | inr more ↦ rw more (λ e. absurd cc)
  ]

  message_quiet : IsShape self.shape → (d : History) (m : Message) → IsQuiescent self d → IsQuiescent self (on_message self d m).left.history
  message_quiet k d m q = finish_quiet k _ _ d (give self m (begin d)) (give_leaves m (begin d) q)

  bytes_quiet : IsShape self.shape → (d : History) (r : Result Message ℕ) → IsQuiescent self d → IsQuiescent self (on_bytes self r d).left.history
  bytes_quiet k d (Ok m) q = message_quiet k d m q
  bytes_quiet k d (Err at) q = q

  -- After each event no rule is left undone, where none was before.
  pub stays_quiescent : IsShape self.shape → (d : History) (e : Event) → IsQuiescent self d → IsQuiescent self (transition self d e).left.history
  unfolding transition
  stays_quiescent k d (event.Given bytes) q = bytes_quiet k d (message_of self.shape bytes) q
  stays_quiescent k d event.Patience q = finish_quiet k _ false d (on_patience self (begin d)) (patience_leaves (begin d) q)
  stays_quiescent k d event.Nudge q = finished_quiet k true d (on_nudge self (begin d))

  -- ---- the beginning

  same_branches : (t : Bool) (n : ℕ) → (if t then n else n) ≡ n
  same_branches true n = refl
  same_branches false n = refl

  none_branches : {A : Type 0} (t : Bool) (x : Option A) → x ≡ None → (if t then x else x) ≡ None
  none_branches true x e = e
  none_branches false x e = e

  no_wishes : (n : ℕ) → quorum_wish self [] n ≡ 0
  unfolding quorum_wish wish_of
  no_wishes zero = refl
  no_wishes (suc n) = rw (no_wishes n, same_branches (nat_le (quorum self.shape) (tally (λ h. nat_le 0 0) (host_count self.shape))) 0) refl

  no_change : change_enabled self [] ≡ None
  unfolding change_enabled new_view_of evidence_of current_view taken_of origin
  no_change = rw (no_wishes (host_count self.shape)) refl

  not_now : (t r : Bool) (x : Option Rule) → rule_where (t && (false && r)) x ≡ None
  not_now true r x = refl
  not_now false r x = refl

  no_announce : announce_enabled self [] ≡ None
  unfolding announce_enabled origin taken_of current_view is_opened entered_in
  no_announce = not_now (is_primary self []) (has_other_room self []) _

  no_enter : enter_enabled self [] ≡ None
  unfolding enter_enabled origin taken_of current_view is_opened entered_in
  no_enter = not_now (not (is_primary self [])) (has_other_room self []) _

  no_open : open_enabled self [] ≡ None
  unfolding open_enabled origin taken_of current_view
  no_open = refl

  no_join : join_enabled self [] ≡ None
  unfolding join_enabled origin taken_of current_view is_opened entered_in last_position stable_of
  no_join = refl

  no_slot : (p : ℕ) → slot_at self [] p ≡ None
  unfolding slot_in
  no_slot p = none_branches (in_window self [] p) None refl

  no_commit : commit_enabled self [] ≡ None
  unfolding commit_enabled
  no_commit = ap (λ x. rule_where (is_open self [] && (not (is_primary self []) && has_room self [])) (with_batch (Commit (next_position self [])) x)) (no_slot (next_position self [])) ∙ none_branches _ None refl

  no_execute : execute_enabled self [] ≡ None
  unfolding execute_enabled
  no_execute = ap (λ x. rule_where (is_open self [] && nat_le (low_of self []) (exec_of [])) (if_committed self [] (exec_of [] + 1) x)) (no_slot (exec_of [] + 1)) ∙ none_branches _ None refl

  no_pending : (l : List ℕ) → filter_map (unordered_of self []) l ≡ []
  unfolding pending
  no_pending [] = refl
  no_pending (c ∷ cs) = no_pending cs

  none_unordered : unordered self [] ≡ []
  unfolding unordered
  none_unordered = no_pending (range_with_len 0 (client_count self.shape))

  no_prepare : prepare_enabled self [] ≡ None
  unfolding prepare_enabled
  no_prepare = ap (λ (l : List Request). rule_where (may_order self []) (option_map (Prepare (next_position self [])) (first_batch l))) none_unordered ∙ none_branches _ None refl

  -- at first no rule is due
  pub begins_quiescent : IsQuiescent self []
  unfolding next_rule
  begins_quiescent = rw (no_change, no_announce, no_enter, no_open, no_join, no_commit, no_execute, no_prepare) refl
