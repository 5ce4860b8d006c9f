-- Once the position behind the last executed one has its slot and f+1 votes, it is executed before the rules end.
use Rattle.std.proofs.Common.{◌≡◌, ℕ, zero, suc, ◌+◌, ◌<◌, ◌≤◌, Bool, true, false, ◌&&◌, not, [], ◌∷◌, refl, sym, ap, subst, ◌∙◌, arith, inl, inr, ◌⊎◌, option_map, Option, Some, None}
use Rattle.std.specs.Prelude.{nat_le, nat_lt, Contains}
use Rattle.std.proofs.lemmas.Bool.{and_from, and_left, and_right, le-leb}
use Rattle.std.proofs.lemmas.List.Elements.{Contains-append_right}
use Rattle.mb_base.specs.Shapes.{span, tally, host_count}
use Rattle.mb_parts.specs.declared.batch.Batch.{Batch}
use Rattle.mb_msg.specs.declared.message.Body.TheVariants.{Whole}
use Rattle.mb_msg.specs.declared.event.Slot.{Slot}
use Rattle.mb_model.specs.declared.known.KnownSlot.{KnownSlot}
use Rattle.mb_model.specs.Service.{batch_of}
use Rattle.mb_model.specs.Histories.{Entry, Stamped, Served, Executed, History, Identity, view_of, is_open, is_changing, is_primary}
use Rattle.mb_model.specs.Stable.{low_of}
use Rattle.mb_model.specs.OwnLog.{has_room, has_other_room}
use Rattle.mb_model.specs.Positions.{exec_of, slot_at, slot_vote, matching}
use Rattle.mb_model.specs.Sending.{Progress, no_ui, signed}
use Rattle.mb_model.specs.Making.{commit}
use Rattle.mb_model.specs.EnabledRules.{Rule, rule_where, with_batch, next_position, may_open, if_committed, is_committed, change_enabled, announce_enabled, enter_enabled, open_enabled, join_enabled, commit_enabled, execute_enabled, next_rule, IsQuiescent}
use Rattle.mb_model.specs.EnabledRules as rule
use Rattle.mb_model.specs.CarriedOut.{execute, serve_all, carry_out, run_rules}
use Rattle.mb_model.proofs.Options.{option_cases, or_some, or_none, if_some, map_some}
use Rattle.mb_steps.specs.Arises.{Arises, Executes}
use Rattle.mb_steps.proofs.StepArises.{Arisen}
use Rattle.mb_steps.proofs.StepRulesArise.{run_arises}
use Rattle.mb_steps.proofs.StepPotential.{served_keeps, execution_leaves}
use Rattle.mb_steps.proofs.StepUnchanged.{served_enabled}
use Rattle.mb_promise.specs.NothingLeft.{IsInWindow, has_vote}
use Rattle.mb_each_host.proofs.Words.{window_is}
use Rattle.mb_host_laws.proofs.KeptByEvents.{execution_keeps}
use Rattle.mb_host_laws.proofs.Cases.{none_some, some_none}
use Rattle.mb_obligations.proofs.Staying.{off_then, Stays, change_stays, join_stays, stamps_commit}
use Rattle.mb_obligations.proofs.Voted.{IsVoted, voted_still}

commit_form : (q : ℕ) (k : Option KnownSlot) (r : Rule) → with_batch (rule.Commit q) k ≡ Some r → (j : KnownSlot) × (c : Batch) × (rule.Commit q j c ≡ r)
commit_form q None r e = absurd cc
commit_form q (Some j) r e = let m = map_some (rule.Commit q j) j.batch r e in (j, m.0, m.2)

enabled_is : (p : ℕ) (b : Batch) (guard voted : Bool) (o : Option Batch) → guard ≡ true → voted ≡ true → o ≡ Some b → rule_where guard (rule_where voted (option_map (rule.Execute p) o)) ≡ Some (rule.Execute p b)
enabled_is p b guard voted o g v is = rw (g, v, is) refl

-- A history has the execution of a batch at a position.
pub record IsDone (d : History) (pos : ℕ) (b : Batch) : Type 0 where
  pub slot : Slot
  pub position : slot.pos ≡ pos
  pub batch : batch_of slot ≡ b
  pub there : Contains d (Executed slot)

pub done_still : (x : Entry) (d : History) (pos : ℕ) (b : Batch) → IsDone d pos b → IsDone (x ∷ d) pos b
done_still x d pos b e = record { slot = e.slot; position = e.position; batch = e.batch; there = Contains-append_right (x ∷ []) d (Executed e.slot) e.there }

module _ {S : Type 0} (self : Identity S) where
  -- The view is open, neither a change of the view nor a JOIN is enabled, and this is the position behind the last executed one.
  pub record IsCalm (d : History) (pos : ℕ) : Type 0 where
    pub opened : is_open self d ≡ true
    pub no_change : change_enabled self d ≡ None
    pub no_join : join_enabled self d ≡ None
    pub next : pos ≡ exec_of d + 1
    pub inside : IsInWindow self d pos

  pub calm_still : (d e : History) (pos : ℕ) → Stays self d e → IsCalm d pos → IsCalm e pos
  calm_still d e pos s c = record {
    opened = s.opened ∙ c.opened;
    no_change = change_stays self d e s c.no_change;
    no_join = join_stays self d e c.opened s c.no_join;
    next = c.next ∙ sym (ap (λ n. n + 1) s.exec);
    inside = record {
      above = subst (λ (n : ℕ). n < pos) (sym s.low) c.inside.above;
      near = subst (λ (n : ℕ). pos ≤ n + span self.shape) (sym s.low) c.inside.near;
      allowed = c.inside.allowed;
    };
  }

  execute_at : (d : History) (k : KnownSlot) (b : Batch) → is_open self d ≡ true → IsInWindow self d (exec_of d + 1) → IsVoted self d (exec_of d + 1) k b → execute_enabled self d ≡ Some (rule.Execute (exec_of d + 1) b)
  unfolding execute_enabled
  execute_at d k b opened w v =
      let p : ℕ = exec_of d + 1 in
      let inside = window_is self d p w in
      let above = w.above in
      let kept : nat_le (low_of self d) (exec_of d) ≡ true = le-leb (low_of self d) (exec_of d) (omega (arith, above)) in
      let slot : slot_at self d (exec_of d + 1) ≡ Some k = rw inside v.slot in
      let votes : matching self d (exec_of d + 1) (slot_vote k) ≡ tally (has_vote self d (exec_of d + 1) (slot_vote k)) (host_count self.shape) = rw inside refl in
      let quorum = v.votes in
      let voted : is_committed self d (exec_of d + 1) k ≡ true = le-leb _ _ (omega (arith, quorum, votes)) in
      ap (λ (x : Option KnownSlot). rule_where (is_open self d && nat_le (low_of self d) (exec_of d)) (if_committed self d (exec_of d + 1) x)) slot
      ∙ enabled_is (exec_of d + 1) b (is_open self d && nat_le (low_of self d) (exec_of d)) (is_committed self d (exec_of d + 1) k) k.batch (and_from _ _ opened kept) voted v.batch

  execute_is : (d : History) (pos : ℕ) (k : KnownSlot) (b : Batch) → IsCalm d pos → IsVoted self d pos k b → execute_enabled self d ≡ Some (rule.Execute pos b)
  execute_is d pos k b c v =
      subst (λ (p : ℕ). execute_enabled self d ≡ Some (rule.Execute p b)) (sym c.next)
      (execute_at d k b c.opened (subst (λ (p : ℕ). IsInWindow self d p) c.next c.inside) (subst (λ (p : ℕ). IsVoted self d p k b) c.next v))

  no_announce : (d : History) → is_changing self d ≡ false → announce_enabled self d ≡ None
  unfolding announce_enabled
  no_announce d settled = off_then (is_primary self d && (is_changing self d && has_other_room self d)) _ (and_right (is_primary self d) _ (and_left (is_changing self d) _ settled))

  no_enter : (d : History) → is_changing self d ≡ false → enter_enabled self d ≡ None
  unfolding enter_enabled
  no_enter d settled = off_then (not (is_primary self d) && (is_changing self d && has_other_room self d)) _ (and_right (not (is_primary self d)) _ (and_left (is_changing self d) _ settled))

  no_open : (d : History) → is_open self d ≡ true → open_enabled self d ≡ None
  unfolding open_enabled
  no_open d opened =
      let shut : not (is_open self d) ≡ false = rw opened refl in
      off_then (may_open self d && has_other_room self d) _ (and_left (may_open self d) _ (and_right (nat_lt 0 (view_of self d)) _ (and_left (not (is_open self d)) _ shut)))

  settled : (d : History) → is_open self d ≡ true → is_changing self d ≡ false
  settled d opened = rw opened refl

  -- Only a COMMIT comes before it.
  next_is : (d : History) (pos : ℕ) (k : KnownSlot) (b : Batch) → IsCalm d pos → IsVoted self d pos k b → (r : Rule) → next_rule self d ≡ Some r → (commit_enabled self d ≡ Some r) ⊎ (rule.Execute pos b ≡ r)
  unfolding next_rule
  next_is d pos k b c v r e = elim (or_some _ _ r e) [
    | inl first ↦ absurd (none_some r (sym c.no_change ∙ first))
    | inr e ↦ elim (or_some _ _ r e) [
      | inl first ↦ absurd (none_some r (sym (no_announce d (settled d c.opened)) ∙ first))
      | inr e ↦ elim (or_some _ _ r e) [
        | inl first ↦ absurd (none_some r (sym (no_enter d (settled d c.opened)) ∙ first))
        | inr e ↦ elim (or_some _ _ r e) [
          | inl first ↦ absurd (none_some r (sym (no_open d c.opened) ∙ first))
          | inr e ↦ elim (or_some _ _ r e) [
            | inl first ↦ absurd (none_some r (sym c.no_join ∙ first))
            | inr e ↦ elim (or_some _ _ r e) [
              | inl first ↦ inl first
              | inr e ↦ let is = execute_is d pos k b c v in let f = rw is at e in inr cc
            ]
          ]
        ]
      ]
    ]
  ]

  -- Where no rule is next, these are not enabled.
  pub quiet_parts : (d : History) → next_rule self d ≡ None → (change_enabled self d ≡ None) × (join_enabled self d ≡ None) × (execute_enabled self d ≡ None)
  unfolding next_rule
  quiet_parts d none =
      let a = or_none (change_enabled self d) _ none in
      let b = or_none (announce_enabled self d) _ a.1 in
      let c = or_none (enter_enabled self d) _ b.1 in
      let e = or_none (open_enabled self d) _ c.1 in
      let f = or_none (join_enabled self d) _ e.1 in
      let g = or_none (commit_enabled self d) _ f.1 in
      let h = or_none (execute_enabled self d) _ g.1 in
      (a.0, f.0, h.0)

  never_quiet : (d : History) (pos : ℕ) (k : KnownSlot) (b : Batch) → IsCalm d pos → IsVoted self d pos k b → next_rule self d ≡ None → ⊥
  never_quiet d pos k b c v none = some_none (rule.Execute pos b) (sym (execute_is d pos k b c v) ∙ (quiet_parts d none).2)

  -- ---- what the rules leave

  -- It waits to be executed, and nothing stands before it but a COMMIT.
  abbrev pub Waits : ℕ → KnownSlot → Batch → History → Type 0
  Waits pos k b d = IsCalm d pos × IsVoted self d pos k b

  commit_waits : (x : Progress) (r : Rule) (pos : ℕ) (k : KnownSlot) (b : Batch) → Waits pos k b x.history → commit_enabled self x.history ≡ Some r → Waits pos k b (carry_out self r x).history
  unfolding commit_enabled carry_out
  commit_waits x r pos k b w e =
      let d : History = x.history in
      let t = if_some (is_open self d && (not (is_primary self d) && has_room self d)) (with_batch (rule.Commit (next_position self d)) (slot_at self d (next_position self d))) r e in
      let m = commit_form (next_position self d) (slot_at self d (next_position self d)) r t.1 in
      let s = stamps_commit self d (record { view = view_of self d; pos = next_position self d; counter = m.0.counter; cert = m.0.cert; body = Whole m.1; ui = no_ui }) refl refl in
      subst (λ (y : Rule). Waits pos k b (carry_out self y x).history) m.2 (calm_still d _ pos s w.0, voted_still self (Stamped (signed self d (commit self d (next_position self d) m.0 m.1))) d pos k b s.view w.1)

  executed_here : (x : Progress) (pos : ℕ) (k : KnownSlot) (b : Batch) → Waits pos k b x.history → (slot : Slot) → Executes self (serve_all self pos b.requests x).history slot → batch_of slot ≡ b
  executed_here x pos k b w slot e =
      let served = served_keeps self (λ (d h : History). execute_enabled self h ≡ execute_enabled self d) (λ d. refl) (λ a c h p q. q ∙ p) (λ d p placed. served_enabled self d p placed) pos b.requests x in
      let same : Some (rule.Execute slot.pos (batch_of slot)) ≡ Some (rule.Execute pos b) = sym e.enabled ∙ (served ∙ execute_is x.history pos k b w.0 w.1) in
      cc

  execute_done : (x : Progress) (pos : ℕ) (k : KnownSlot) (b : Batch) → Waits pos k b x.history → Arisen self (execute self pos b x) → IsDone (execute self pos b x).history pos b
  execute_done x pos k b w a =
      let l = execution_leaves self pos b x in
      elim l.2 [
        | inl is ↦
            let arises = subst (λ (h : History). Arises self h) is a.0 in
            subst (λ (h : History). IsDone h pos b) (sym is) (first l.0 l.1 (executed_here x pos k b w l.0 arises.0))
        | inr (m, is) ↦
            let arises = subst (λ (h : History). Arises self h) is a.0 in
            subst (λ (h : History). IsDone h pos b) (sym is) (done_still _ _ pos b (first l.0 l.1 (executed_here x pos k b w l.0 arises.1.0)))
      ] where
        first : (slot : Slot) → slot.pos ≡ pos → batch_of slot ≡ b → IsDone (Executed slot ∷ (serve_all self pos b.requests x).history) pos b
        first slot place batch = record { slot = slot; position = place; batch = batch; there = (0, omega arith, refl) }

  now_done : (x : Progress) (r : Rule) (pos : ℕ) (k : KnownSlot) (b : Batch) → Waits pos k b x.history → rule.Execute pos b ≡ r → Arisen self (carry_out self r x) → IsDone (carry_out self r x).history pos b
  unfolding carry_out
  now_done x r pos k b w now = subst (λ (y : Rule). Arisen self (carry_out self y x) → IsDone (carry_out self y x).history pos b) now (λ z. execute_done x pos k b w z)

  done_carried : (r : Rule) (x : Progress) (pos : ℕ) (b : Batch) → IsDone x.history pos b → IsDone (carry_out self r x).history pos b
  unfolding carry_out
  done_carried (rule.Execute p c) x pos b e =
      execution_keeps self (λ (d : History). IsDone d pos b) (λ m d n r y. done_still (Stamped m) d pos b y) (λ q s d y. done_still (Served q s) d pos b y) (λ s d y. done_still (Executed s) d pos b y) p c x e
  done_carried r x pos b e = done_still _ x.history pos b e

  done_runs : (n : ℕ) (x : Progress) (pos : ℕ) (b : Batch) → IsDone x.history pos b → IsDone (run_rules self n x).history pos b
  unfolding run_rules
  done_runs zero x pos b e = e
  done_runs (suc n) x pos b e = elim (option_cases (next_rule self x.history)) [
    | inl none ↦ rw none e
    | inr (r, some) ↦ rw some (done_runs n (carry_out self r x) pos b (done_carried r x pos b e))
  ]

  carried : (x : Progress) (r : Rule) → next_rule self x.history ≡ Some r → Arisen self x → Arisen self (carry_out self r x)
  unfolding run_rules
  carried x r some a = let h : Arisen self (run_rules self (suc zero) x) = run_arises self (suc zero) x a in rw some at h

  -- Where the rules end, it is executed.
  pub run_executes : (n : ℕ) (x : Progress) (pos : ℕ) (k : KnownSlot) (b : Batch) → IsCalm x.history pos → IsVoted self x.history pos k b → Arisen self x → IsQuiescent self (run_rules self n x).history → IsDone (run_rules self n x).history pos b
  unfolding run_rules
  run_executes zero x pos k b c v a quiet = absurd (never_quiet x.history pos k b c v quiet)
  run_executes (suc n) x pos k b c v a quiet = elim (option_cases (next_rule self x.history)) [
    | inl none ↦ absurd (never_quiet x.history pos k b c v none)
    | inr (r, some) ↦ let ends = rw some at quiet in rw some (elim (next_is x.history pos k b c v r some) [
      | inl before ↦ let w = commit_waits x r pos k b (c, v) before in run_executes n (carry_out self r x) pos k b w.0 w.1 (carried x r some a) ends
      | inr now ↦ done_runs n (carry_out self r x) pos b (now_done x r pos k b (c, v) now (carried x r some a))
    ])
  ]
