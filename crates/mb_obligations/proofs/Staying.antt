-- In an open view a PREPARE or COMMIT that is taken, and a COMMIT that is stamped, enable no change of the view and no JOIN.
use Rattle.std.proofs.Common.{◌≡◌, ℕ, ◌+◌, ◌<◌, Bool, true, false, ◌&&◌, ◌||◌, not, cond, ◌∷◌, refl, sym, ap, ◌∙◌, arith, inl, inr, Option, Some, None}
use Rattle.std.specs.Prelude.{◌==◌, nat_lt, nat_le, count_by}
use Rattle.std.proofs.lemmas.Bool.{cases_Bool, and_parts, and_from, or_cases, eq-eqb, ltb-true, lt-ltb}
use Rattle.std.proofs.lemmas.List.Sums.{sum_by-cons}
use Rattle.mb_base.specs.Limits.{other_limit}
use Rattle.mb_base.specs.Shapes.{host_count}
use Rattle.mb_parts.specs.Ordered.{current_view, is_opened, is_entered as entered_in, last_position}
use Rattle.mb_msg.specs.declared.message.Message.TheVariants as message
use Rattle.mb_msg.specs.declared.normal.Prepare.{Prepare}
use Rattle.mb_msg.specs.declared.normal.Commit.{Commit}
use Rattle.mb_msg.specs.declared.stamped.Stamped.{Stamped as StampedMessage}
use Rattle.mb_msg.specs.declared.stamped.Stamped.TheVariants as stamped
use Rattle.mb_model.specs.Histories.{Accepted, Stamped, Closed, History, Identity, origin, taken_of, stamped as all_stamped, counter_of, here, view_of, is_open}
use Rattle.mb_model.specs.Held.{wish_of, new_view_of, evidence_of}
use Rattle.mb_model.specs.Stable.{stable_of, low_of, log_floor}
use Rattle.mb_model.specs.OwnLog.{is_normal, own_log, has_other_room, is_unspent}
use Rattle.mb_model.specs.Positions.{exec_of}
use Rattle.mb_model.specs.Sending.{signed}
use Rattle.mb_model.specs.EnabledRules.{Rule, ChangeView, Join, rule_where, target, change_enabled, join_enabled, has_evidence, lags_behind, is_past_plan}
use Rattle.mb_steps.proofs.StepPotential.{quorum_same, max_none, log_with}

-- a rule that is not enabled, by its test
test_off : (t : Bool) (r : Rule) → rule_where t (Some r) ≡ None → t ≡ false
test_off true r e = absurd cc
test_off false r e = refl

pub off_then : (t : Bool) (r : Option Rule) → t ≡ false → rule_where t r ≡ None
off_then true r e = absurd cc
off_then false r e = refl

still_off : (t u : Bool) → (u ≡ true → t ≡ true) → t ≡ false → u ≡ false
still_off t true f e = let h : false ≡ true = sym e ∙ f refl in absurd cc
still_off t false f e = refl

or_left : (a b : Bool) → a ≡ true → (a || b) ≡ true
or_left true b e = refl
or_left false b e = absurd cc

module _ {S : Type 0} (self : Identity S) where
  -- what the changes of the view and JOIN read stays, or speaks less for them
  pub record Stays (d e : History) : Type 0 where
    pub view : view_of self e ≡ view_of self d
    pub opened : is_open self e ≡ is_open self d
    pub wishes : (h : ℕ) → wish_of self e h ≡ wish_of self d h
    pub new_view : new_view_of self e ≡ new_view_of self d
    pub evidence : evidence_of self e ≡ evidence_of self d
    pub low : low_of self e ≡ low_of self d
    pub exec : exec_of e ≡ exec_of d
    pub last : (here self e).last < low_of self e → (here self d).last < low_of self d
    pub room : has_other_room self e ≡ true → has_other_room self d ≡ true

  pub change_stays : (d e : History) → Stays d e → change_enabled self d ≡ None → change_enabled self e ≡ None
  unfolding change_enabled
  change_stays d e s none =
      let same : target self e ≡ target self d = rw (quorum_same self d e s.wishes (host_count self.shape), s.new_view, s.evidence) refl in
      let off = test_off (nat_lt (view_of self d) (target self d) && has_other_room self d) (ChangeView (target self d)) none in
      off_then _ _ (still_off _ (nat_lt (view_of self e) (target self e) && has_other_room self e) (λ t. still same (and_parts (nat_lt (view_of self e) (target self e)) (has_other_room self e) t)) off) where
        still : target self e ≡ target self d → (nat_lt (view_of self e) (target self e) ≡ true) × (has_other_room self e ≡ true) → (nat_lt (view_of self d) (target self d) && has_other_room self d) ≡ true
        still same p = and_from (nat_lt (view_of self d) (target self d)) (has_other_room self d) (ap (λ v. nat_lt v (target self d)) (sym s.view) ∙ ap (λ v. nat_lt (view_of self e) v) (sym same) ∙ p.0) (s.room p.1)

  -- An open view is not past its plan.
  not_past : (d : History) → is_open self d ≡ true → is_past_plan self d ≡ true → ⊥
  not_past d opened past =
      let a = and_parts (nat_lt 0 (view_of self d)) _ past in
      let b = and_parts (not (is_open self d)) _ a.1 in
      let c = rw opened at b.0 in absurd cc

  pub join_stays : (d e : History) → is_open self d ≡ true → Stays d e → join_enabled self d ≡ None → join_enabled self e ≡ None
  unfolding join_enabled
  join_stays d e opened s none =
      let off = test_off ((lags_behind self d || is_past_plan self d) && (has_evidence self d && (nat_le (low_of self d) (exec_of d) && has_other_room self d))) Join none in
      off_then _ _ (still_off _ ((lags_behind self e || is_past_plan self e) && (has_evidence self e && (nat_le (low_of self e) (exec_of e) && has_other_room self e))) still off) where
        lags : (lags_behind self e || is_past_plan self e) ≡ true → lags_behind self d ≡ true
        lags t = elim (or_cases (lags_behind self e) (is_past_plan self e) t) [
          | inl behind ↦
              let b = and_parts (is_open self e) (nat_lt (here self e).last (low_of self e)) behind in
              and_from (is_open self d) (nat_lt (here self d).last (low_of self d)) opened (lt-ltb (here self d).last (low_of self d) (s.last (ltb-true (here self e).last (low_of self e) b.1)))
          | inr past ↦ absurd (not_past e (s.opened ∙ opened) past)
        ]

        shown : has_evidence self e ≡ has_evidence self d
        shown = rw (s.view, s.evidence) refl

        reached : nat_le (low_of self e) (exec_of e) ≡ nat_le (low_of self d) (exec_of d)
        reached = rw (s.low, s.exec) refl

        still : ((lags_behind self e || is_past_plan self e) && (has_evidence self e && (nat_le (low_of self e) (exec_of e) && has_other_room self e))) ≡ true
            → ((lags_behind self d || is_past_plan self d) && (has_evidence self d && (nat_le (low_of self d) (exec_of d) && has_other_room self d))) ≡ true
        still t =
            let a = and_parts (lags_behind self e || is_past_plan self e) _ t in
            let b = and_parts (has_evidence self e) _ a.1 in
            let c = and_parts (nat_le (low_of self e) (exec_of e)) (has_other_room self e) b.1 in
            and_from (lags_behind self d || is_past_plan self d) _ (or_left (lags_behind self d) (is_past_plan self d) (lags a.0))
            (and_from (has_evidence self d) _ (sym shown ∙ b.0) (and_from (nat_le (low_of self d) (exec_of d)) (has_other_room self d) (sym reached ∙ c.0) (s.room c.1)))

  -- ---- what was taken

  pub takes_commit : (d : History) (m : Commit) → m.view ≡ view_of self d → low_of self d < m.pos → Stays d (Accepted (message.Commit m) ∷ d)
  unfolding origin taken_of current_view is_opened entered_in last_position wish_of new_view_of evidence_of stable_of log_floor exec_of all_stamped
  takes_commit d m there above = elim (cases_Bool (m.ui.host == self.host)) [
    | inl own ↦ record {
      view = rw own refl;
      opened = rw own refl;
      wishes = λ h. max_none self (wish_of self d h);
      new_view = refl;
      evidence = refl;
      low = refl;
      exec = refl;
      last = rw (own, eq-eqb m.view (view_of self d) there) (λ less. absurd (omega (arith, less, above)));
      room = λ r. r;
    }
    | inr other ↦ record {
      view = rw other refl;
      opened = rw other refl;
      wishes = λ h. max_none self (wish_of self d h);
      new_view = refl;
      evidence = refl;
      low = refl;
      exec = refl;
      last = rw other (λ less. less);
      room = λ r. r;
    }
  ]

  pub takes_prepare : (d : History) (m : Prepare) → m.view ≡ view_of self d → low_of self d < m.pos → Stays d (Accepted (message.Prepare m) ∷ d)
  unfolding origin taken_of current_view is_opened entered_in last_position wish_of new_view_of evidence_of stable_of log_floor exec_of all_stamped
  takes_prepare d m there above = elim (cases_Bool (m.ui.host == self.host)) [
    | inl own ↦ record {
      view = rw own refl;
      opened = rw own refl;
      wishes = λ h. max_none self (wish_of self d h);
      new_view = refl;
      evidence = refl;
      low = refl;
      exec = refl;
      last = rw (own, eq-eqb m.view (view_of self d) there) (λ less. absurd (omega (arith, less, above)));
      room = λ r. r;
    }
    | inr other ↦ record {
      view = rw other refl;
      opened = rw other refl;
      wishes = λ h. max_none self (wish_of self d h);
      new_view = refl;
      evidence = refl;
      low = refl;
      exec = refl;
      last = rw other (λ less. less);
      room = λ r. r;
    }
  ]

  pub closes : (d : History) (h c : ℕ) → Stays d (Closed h c ∷ d)
  unfolding origin taken_of wish_of new_view_of evidence_of stable_of log_floor exec_of all_stamped
  closes d h c = record {
    view = refl;
    opened = refl;
    wishes = λ g. max_none self (wish_of self d g);
    new_view = refl;
    evidence = refl;
    low = refl;
    exec = refl;
    last = λ less. less;
    room = λ r. r;
  }

  -- ---- what was stamped

  -- One more PREPARE, COMMIT or CHECKPOINT leaves no more room for the other kinds.
  room_before : (d : History) (m : StampedMessage) → log_floor self (Stamped m ∷ d) ≡ log_floor self d → is_normal m ≡ true → has_other_room self (Stamped m ∷ d) ≡ true → has_other_room self d ≡ true
  unfolding all_stamped
  room_before d m floor kind room =
      let log : own_log self (Stamped m ∷ d) ≡ m ∷ own_log self d = log_with self d m floor in
      let same : count_by (λ x. not (is_normal x)) (own_log self (Stamped m ∷ d)) ≡ 0 + count_by (λ x. not (is_normal x)) (own_log self d) =
      ap (λ l. count_by (λ x. not (is_normal x)) l) log ∙ sum_by-cons (λ x. cond (not (is_normal x)) 1 0) m (own_log self d) ∙ ap (λ b. cond (not b) 1 0 + count_by (λ x. not (is_normal x)) (own_log self d)) kind in
      let p = and_parts (nat_lt (count_by (λ x. not (is_normal x)) (own_log self (Stamped m ∷ d))) other_limit) (is_unspent self (Stamped m ∷ d)) room in
      let place = ltb-true (count_by (λ x. not (is_normal x)) (own_log self (Stamped m ∷ d))) other_limit p.0 in
      let unspent = ltb-true (counter_of (Stamped m ∷ d)) _ p.1 in
      and_from _ _ (lt-ltb (count_by (λ x. not (is_normal x)) (own_log self d)) other_limit (omega (arith, same, place))) (lt-ltb (counter_of d) _ (omega (arith, unspent)))

  pub stamps_commit : (d : History) (m : Commit) → m.view ≡ view_of self d → m.pos ≡ (here self d).last + 1 → Stays d (Stamped (signed self d (stamped.Commit m)) ∷ d)
  unfolding origin taken_of current_view is_opened entered_in last_position wish_of new_view_of evidence_of stable_of log_floor exec_of
  stamps_commit d m there next = record {
    view = rw (eq-eqb self.host self.host refl) refl;
    opened = rw (eq-eqb self.host self.host refl) refl;
    wishes = λ h. max_none self (wish_of self d h);
    new_view = refl;
    evidence = refl;
    low = refl;
    exec = refl;
    last = rw (eq-eqb self.host self.host refl, eq-eqb m.view (view_of self d) there) (λ less. omega (arith, less, next));
    room = room_before d (signed self d (stamped.Commit m)) refl refl;
  }
