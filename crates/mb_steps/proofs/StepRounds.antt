-- The rules come to an end: each of them lowers the potential, so after enough rounds none is enabled, whatever the history.
use Rattle.std.proofs.Common.{◌≡◌, ℕ, zero, suc, ◌+◌, ◌-◌, ◌≤◌, ◌<◌, Bool, true, false, ◌&&◌, ◌||◌, not, cond, List, ◌∷◌, length, refl, sym, ap, subst, ◌∙◌, inl, inr, arith, eqb, max, Option, Some, None}
use Rattle.std.specs.Prelude.{◌==◌, nat_lt, nat_le, option_and_then, if◌then◌else◌, count_by}
use Rattle.std.specs.List.{list_any}
use Rattle.std.proofs.lemmas.Bool.{and_parts, cases_Bool, eqb-true, eq-eqb, eqb-false, ltb-true, ltb-false, leb-true, leb-false, lt-ltb, le-leb}
use Rattle.std.proofs.lemmas.List.Sums.{sum_by-cons}
use Rattle.mb_base.specs.Limits.{other_limit, plan_limit, rule_limit}
use Rattle.mb_base.specs.Shapes.{IsShape, tally, host_count, max_faults, quorum, primary}
use Rattle.mb_base.specs.declared.names.Ui.{Ui}
use Rattle.mb_parts.specs.declared.floor.Floor.{Floor}
use Rattle.mb_parts.specs.declared.certificates.Evidence.{Evidence}
use Rattle.mb_parts.specs.Bares.{Bare}
use Rattle.mb_parts.specs.Ordered.{current_view, is_opened, is_entered as entered_in, is_opening, is_entering, phase_from, phase_is_open, phase_is_entered}
use Rattle.mb_msg.specs.declared.message.Body.TheVariants.{Whole}
use Rattle.mb_msg.specs.declared.change.Enter.{Enter as EnterMessage}
use Rattle.mb_msg.specs.declared.change.Open.{Open as OpenMessage}
use Rattle.mb_msg.specs.declared.change.Join.{Join as JoinMessage}
use Rattle.mb_msg.specs.declared.change.NewView.{NewView}
use Rattle.mb_msg.specs.declared.change.ViewChange.{ViewChange}
use Rattle.mb_msg.specs.declared.change.Plan.{Plan}
use Rattle.mb_msg.specs.declared.stamped.Stamped.{Stamped as StampedMessage}
use Rattle.mb_msg.specs.declared.stamped.Stamped.TheVariants as stamped
use Rattle.mb_msg.specs.Stamps.{bare_of, ui_of, with_ui}
use Rattle.mb_msg.specs.Plans.{plan_end, plan_digest}
use Rattle.mb_model.specs.Histories.{Stamped, History, Identity, origin, taken_of, view_of, is_changing, is_primary}
use Rattle.mb_model.specs.Held.{wish_of, quorum_wish, new_view_of, evidence_of, evidence_view, plan_held, plan_from, new_view_in_view, evidence_in, evidence_for, evidence_with, enters_for}
use Rattle.mb_model.specs.Stable.{stable_of, low_of, log_floor}
use Rattle.mb_model.specs.OwnLog.{own_log, is_normal, has_other_room, is_unspent}
use Rattle.mb_model.specs.Positions.{exec_of}
use Rattle.mb_model.specs.Sending.{Progress, signed, next_ui, no_ui}
use Rattle.mb_model.specs.Making.{new_view, view_change, enter, opening, join, join_evidence}
use Rattle.mb_model.specs.EnabledRules.{Rule, Enter, Open, Join, target, new_view_number, next_rule, next_position}
use Rattle.mb_model.specs.CarriedOut.{carry_out, run_rules, enough}
use Rattle.mb_model.proofs.Options.{option_cases, or_some, if_some}
use Rattle.mb_steps.proofs.EachRule.{of_next}
use Rattle.mb_steps.proofs.StepPotential.{reach, calls, ahead, places, normal_in, others_in, potential, not_above, reach_within, log_with, quorum_same, max_none, few_places, commit_rule, prepare_rule, execute_rule}

-- ---- what is stamped says the same under its identifier

pub ui_under : (u : Ui) (m : StampedMessage) → ui_of (with_ui u m) ≡ u
ui_under u (stamped.Prepare m) = refl
ui_under u (stamped.Commit m) = refl
ui_under u (stamped.Checkpoint m) = refl
ui_under u (stamped.ViewChange m) = refl
ui_under u (stamped.NewView m) = refl
ui_under u (stamped.Enter m) = refl
ui_under u (stamped.Open m) = refl
ui_under u (stamped.Join m) = refl

pub bare_under : (u : Ui) (m : StampedMessage) → bare_of (with_ui u m) ≡ bare_of m
bare_under u (stamped.Prepare m) = refl
bare_under u (stamped.Commit m) = refl
bare_under u (stamped.Checkpoint m) = refl
bare_under u (stamped.ViewChange m) = refl
bare_under u (stamped.NewView m) = refl
bare_under u (stamped.Enter m) = refl
bare_under u (stamped.Open m) = refl
bare_under u (stamped.Join m) = refl

-- ---- phases

abbrev changing_of : Bool → Bool → Bool
changing_of o n = not (phase_is_open (phase_from o n)) && not (phase_is_entered (phase_from o n))

changing_more : (o n p q : Bool) → (o ≡ true → p ≡ true) → (n ≡ true → q ≡ true) → changing_of p q ≡ true → changing_of o n ≡ true
changing_more false false p q f g e = refl
changing_more false true true q f g e = absurd cc
changing_more false true false true f g e = absurd cc
changing_more false true false false f g e = let x : false ≡ true = g refl in absurd cc
changing_more true n true q f g e = absurd cc
changing_more true n false q f g e = let x : false ≡ true = f refl in absurd cc

or_more : (c a x : Bool) → (a || x) ≡ true → ((c || a) || x) ≡ true
or_more true a x e = refl
or_more false a x e = e

-- what was opened or entered stays so
changing_before : (o : Floor) (b : Bare) (l : List Bare) (v : ℕ) → changing_of (is_opened o (b ∷ l) v) (entered_in o (b ∷ l) v) ≡ true → changing_of (is_opened o l v) (entered_in o l v) ≡ true
unfolding is_opened entered_in
changing_before o b l v e = changing_more (is_opened o l v) (entered_in o l v) (is_opened o (b ∷ l) v) (entered_in o (b ∷ l) v)
    (or_more (is_opening v b) (list_any (is_opening v) l) (o.view == v && phase_is_open o.phase))
    (or_more (is_entering v b) (list_any (is_entering v) l) (o.view == v && phase_is_entered o.phase)) e

entered_not_changing : (o : Bool) → changing_of o true ≡ false
entered_not_changing true = refl
entered_not_changing false = refl

pub tally_more : (p q : ℕ → Bool) (n : ℕ) → ((h : ℕ) → p h ≡ true → q h ≡ true) → tally p n ≤ tally q n
tally_more p q zero f = omega arith
tally_more p q (suc n) f = elim (cases_Bool (p n)) [
  | inl holds ↦ rw (holds, f n holds) (omega (arith, tally_more p q n f))
  | inr fails ↦ rw fails (omega (arith, tally_more p q n f))
]

-- ---- flags

first_flag : (a b c k : ℕ) → b ≤ max c a → (if nat_lt a b then k else 0) ≤ (if nat_lt a c then k else 0)
first_flag a b c k e = elim (cases_Bool (nat_lt a b)) [
  | inr less ↦ rw less (omega arith)
  | inl more ↦ rw (more, lt-ltb a c (omega (arith, e, ltb-true a b more))) (omega arith)
]

second_flag : (p x y : Bool) → (x ≡ true → y ≡ true) → (if p && x then 1 else 0) ≤ (if p && y then 1 else 0)
second_flag false x y f = omega arith
second_flag true false y f = omega arith
second_flag true true y f = rw (f refl) (omega arith)

pub one_flag : (t : Bool) (k : ℕ) → (if t then k else 0) ≤ k
one_flag true k = omega arith
one_flag false k = omega arith

calls_below : (p : ℕ → Bool) (v w t u : ℕ) (x y : Bool) → w ≡ v → t ≤ max u v → (x ≡ true → y ≡ true)
    → (if nat_lt w t then 2 else 0) + (if p w && x then 1 else 0) ≤ (if nat_lt v u then 2 else 0) + (if p v && y then 1 else 0)
calls_below p v w t u x y same low f =
    let a = first_flag v t u 2 low in
    let b = second_flag (p v) x y f in
    rw same (omega (arith, a, b))

calls_less : (p : ℕ → Bool) (v w t u : ℕ) (x y : Bool) → w ≡ v → t ≤ max u v → p v ≡ true → x ≡ false → y ≡ true
    → (if nat_lt w t then 2 else 0) + (if p w && x then 1 else 0) + 1 ≤ (if nat_lt v u then 2 else 0) + (if p v && y then 1 else 0)
calls_less p v w t u x y same low leads done changing =
    let a = first_flag v t u 2 low in
    rw (same, leads, done, changing) (omega (arith, a))

module _ {S : Type 0} (self : Identity S) where
  -- one more message of the other kinds takes a place
  others_lower : (d : History) (m : StampedMessage) → log_floor self (Stamped m ∷ d) ≡ log_floor self d → is_normal m ≡ false → has_other_room self d ≡ true → places self (Stamped m ∷ d) < places self d
  others_lower d m same kind room =
      let log : own_log self (Stamped m ∷ d) ≡ m ∷ own_log self d = log_with self d m same in
      let fewer : normal_in self (Stamped m ∷ d) ≡ 0 + normal_in self d = ap (λ l. count_by is_normal l) log ∙ sum_by-cons (λ x. cond (is_normal x) 1 0) m (own_log self d) ∙ ap (λ b. cond b 1 0 + normal_in self d) kind in
      let more : others_in self (Stamped m ∷ d) ≡ 1 + others_in self d = ap (λ l. count_by (λ x. not (is_normal x)) l) log ∙ sum_by-cons (λ x. cond (not (is_normal x)) 1 0) m (own_log self d) ∙ ap (λ b. cond (not b) 1 0 + others_in self d) kind in
      let free : others_in self d < other_limit = ltb-true (others_in self d) other_limit (and_parts (nat_lt (others_in self d) other_limit) (is_unspent self d) room).0 in
      omega (arith, more, fewer, free)

  -- ---- ENTER, OPEN and JOIN: a place less, and no more calls

  -- a stamp in the present view
  pub record SameView (d e : History) : Type 0 where
    pub view : view_of self e ≡ view_of self d
    pub changing : is_changing self e ≡ true → is_changing self d ≡ true
    pub target : target self e ≤ max (target self d) (view_of self d)

  fewer_calls : (d e : History) → SameView d e → calls self e ≤ calls self d
  fewer_calls d e s = calls_below (λ v. self.host == primary self.shape v) (view_of self d) (view_of self e) (target self e) (target self d) (is_changing self e) (is_changing self d) s.view s.target s.changing

  lower_other : (d e : History) → SameView d e → exec_of e ≡ exec_of d → low_of self e ≡ low_of self d → reach self e ≡ reach self d → places self e < places self d → potential self e < potential self d
  unfolding potential
  lower_other d e s x l r p =
      let c : calls self e ≤ calls self d = fewer_calls d e s in
      let a : ahead self e ≡ ahead self d = rw (x, l, r) refl in
      omega (arith, c, a, p)

  -- ---- a stamp in the present view

  stamped_view : (d : History) (m : StampedMessage) → current_view (origin d self.host) (bare_of m ∷ taken_of d self.host) ≡ current_view (origin d self.host) (taken_of d self.host)
      → view_of self (Stamped (signed self d m) ∷ d) ≡ view_of self d
  unfolding origin taken_of
  stamped_view d m e = rw (ui_under (next_ui self d (bare_of m)) m, eq-eqb self.host self.host refl, bare_under (next_ui self d (bare_of m)) m) e

  stamped_changing : (d : History) (m : StampedMessage) → current_view (origin d self.host) (bare_of m ∷ taken_of d self.host) ≡ current_view (origin d self.host) (taken_of d self.host)
      → is_changing self (Stamped (signed self d m) ∷ d) ≡ true → is_changing self d ≡ true
  unfolding origin taken_of
  stamped_changing d m same e =
      changing_before (origin d self.host) (bare_of m) (taken_of d self.host) (current_view (origin d self.host) (taken_of d self.host))
      (rw (ui_under (next_ui self d (bare_of m)) m, eq-eqb self.host self.host refl, bare_under (next_ui self d (bare_of m)) m, same) at e)

  target_same : (d e : History) (a b : ℕ) → ((h : ℕ) → wish_of self e h ≡ wish_of self d h) → new_view_number (new_view_of self e) ≤ max (new_view_number (new_view_of self d)) (view_of self d)
      → evidence_view (evidence_of self e) ≤ max (evidence_view (evidence_of self d)) (view_of self d) → target self e ≤ max (target self d) (view_of self d)
  target_same d e a b w n v = omega (arith, quorum_same self d e w (host_count self.shape), n, v)

  entering : (d : History) (m : EnterMessage) → SameView d (Stamped (signed self d (stamped.Enter m)) ∷ d)
  unfolding current_view wish_of new_view_of evidence_of
  entering d m = record {
    view = stamped_view d (stamped.Enter m) refl;
    changing = stamped_changing d (stamped.Enter m) refl;
    target = target_same d _ 0 0 (λ h. max_none self (wish_of self d h)) (omega arith) (omega arith);
  }

  opens : (d : History) (m : OpenMessage) → m.evidence.view ≡ view_of self d → SameView d (Stamped (signed self d (stamped.Open m)) ∷ d)
  unfolding current_view wish_of new_view_of evidence_of
  opens d m there = record {
    view = stamped_view d (stamped.Open m) refl;
    changing = stamped_changing d (stamped.Open m) refl;
    target = target_same d _ 0 0 (λ h. max_none self (wish_of self d h)) (omega arith) (omega (arith, there));
  }

  joins : (d : History) (m : JoinMessage) → SameView d (Stamped (signed self d (stamped.Join m)) ∷ d)
  unfolding current_view wish_of new_view_of evidence_of
  joins d m = record {
    view = stamped_view d (stamped.Join m) refl;
    changing = stamped_changing d (stamped.Join m) refl;
    target = target_same d _ 0 0 (λ h. max_none self (wish_of self d h)) (omega arith) (omega arith);
  }

  announces : (d : History) (m : NewView) → m.view ≡ view_of self d → SameView d (Stamped (signed self d (stamped.NewView m)) ∷ d)
  unfolding current_view wish_of new_view_of evidence_of
  announces d m there = record {
    view = stamped_view d (stamped.NewView m) refl;
    changing = stamped_changing d (stamped.NewView m) refl;
    target = target_same d _ 0 0 (λ h. max_none self (wish_of self d h)) (omega (arith, there)) (omega arith);
  }

  -- ---- the potential is small

  few_ahead : IsShape self.shape → (d : History) → ahead self d ≤ plan_limit
  few_ahead k d = at_most (nat_lt (exec_of d) (low_of self d)) refl where
    at_most : (t : Bool) → nat_lt (exec_of d) (low_of self d) ≡ t → (if t then 0 else reach self d - exec_of d) ≤ plan_limit
    at_most true e = omega arith
    at_most false e = omega (arith, k.intervals.1, ltb-false (exec_of d) (low_of self d) e, reach_within self d)

  few_calls : (d : History) → calls self d ≤ 3
  few_calls d = omega (arith, one_flag (nat_lt (view_of self d) (target self d)) 2, one_flag (is_primary self d && is_changing self d) 1)

  pub bounded : IsShape self.shape → (d : History) → potential self d < rule_limit
  unfolding potential
  bounded k d = omega (arith, few_calls d, few_ahead k d, few_places self k d)

  -- ---- NEW_VIEW: one less to make

  new_view_entered : (d : History) (changes : List ViewChange) → is_changing self (Stamped (signed self d (new_view self d changes)) ∷ d) ≡ false
  unfolding origin taken_of current_view entered_in
  new_view_entered d changes = rw (eq-eqb self.host self.host refl, eq-eqb (view_of self d) (view_of self d) refl) (entered_not_changing _)

  announce_lowers : IsShape self.shape → (d : History) (changes : List ViewChange) → is_primary self d ≡ true → is_changing self d ≡ true
      → potential self (Stamped (signed self d (new_view self d changes)) ∷ d) < potential self d
  unfolding potential
  announce_lowers k d changes leads changing =
      let s : SameView d (Stamped (signed self d (new_view self d changes)) ∷ d) = announces d (record { view = view_of self d; base = (plan_from self changes).base.pos; end = plan_end (plan_from self changes); plan = plan_digest (plan_from self changes); body = Whole (record { changes = changes }); ui = no_ui }) refl in
      let c : calls self (Stamped (signed self d (new_view self d changes)) ∷ d) + 1 ≤ calls self d =
      calls_less (λ v. self.host == primary self.shape v) (view_of self d) (view_of self (Stamped (signed self d (new_view self d changes)) ∷ d))
      (target self (Stamped (signed self d (new_view self d changes)) ∷ d)) (target self d) (is_changing self (Stamped (signed self d (new_view self d changes)) ∷ d)) (is_changing self d)
      s.view s.target leads (new_view_entered d changes) changing in
      omega (arith, c, few_ahead k (Stamped (signed self d (new_view self d changes)) ∷ d), few_places self k (Stamped (signed self d (new_view self d changes)) ∷ d))

  -- ---- VIEW_CHANGE: two calls less, and one more at most

  quorum_above : (d : History) (n m : ℕ) → n < m → nat_le (quorum self.shape) (tally (λ h. nat_le (wish_of self d n) (wish_of self d h)) (host_count self.shape)) ≡ true → wish_of self d n ≤ quorum_wish self d m
  unfolding quorum_wish
  quorum_above d n zero l e = absurd (omega (arith, l))
  quorum_above d n (suc m) l e = elim (cases_Bool (eqb n m)) [
    | inl same ↦ let at : n ≡ m = eqb-true n m same in subst (λ (x : ℕ). wish_of self d n ≤ max (quorum_wish self d x) (if nat_le (quorum self.shape) (tally (λ h. nat_le (wish_of self d x) (wish_of self d h)) (host_count self.shape)) then wish_of self d x else 0)) at (rw e (omega arith))
    | inr other ↦ omega (arith, quorum_above d n m (omega (arith, l, eqb-false n m other)) e)
  ]

  -- the wishes rise to the view at most
  pub record Raised (d e : History) (v : ℕ) : Type 0 where
    pub above : (h : ℕ) → wish_of self d h ≤ wish_of self e h
    pub below : (h : ℕ) → wish_of self e h ≤ max (wish_of self d h) v

  candidate : (d e : History) (v n : ℕ) → Raised d e v → n < host_count self.shape → quorum_wish self d (host_count self.shape) ≤ v
      → (t : Bool) → nat_le (quorum self.shape) (tally (λ h. nat_le (wish_of self e n) (wish_of self e h)) (host_count self.shape)) ≡ t → (if t then wish_of self e n else 0) ≤ v
  candidate d e v n r l q false x = omega arith
  candidate d e v n r l q true x = elim (cases_Bool (nat_le (wish_of self e n) v)) [
    | inl low ↦ leb-true (wish_of self e n) v low
    | inr high ↦
        let more : v < wish_of self e n = leb-false (wish_of self e n) v high in
        let same : wish_of self d n ≡ wish_of self e n = omega (arith, more, r.above n, r.below n) in
        let tallied : tally (λ h. nat_le (wish_of self e n) (wish_of self e h)) (host_count self.shape) ≤ tally (λ h. nat_le (wish_of self d n) (wish_of self d h)) (host_count self.shape) =
        tally_more _ _ (host_count self.shape) (λ h (y : nat_le (wish_of self e n) (wish_of self e h) ≡ true). le-leb (wish_of self d n) (wish_of self d h) (omega (arith, leb-true (wish_of self e n) (wish_of self e h) y, same, more, r.below h))) in
        let met = le-leb (quorum self.shape) (tally (λ h. nat_le (wish_of self d n) (wish_of self d h)) (host_count self.shape)) (omega (arith, tallied, leb-true (quorum self.shape) _ x)) in
        absurd (omega (arith, quorum_above d n (host_count self.shape) l met, q, same, more))
  ]

  quorum_bounded : (d e : History) (v n : ℕ) → Raised d e v → n ≤ host_count self.shape → quorum_wish self d (host_count self.shape) ≤ v → quorum_wish self e n ≤ v
  unfolding quorum_wish
  quorum_bounded d e v zero r l q = omega arith
  quorum_bounded d e v (suc n) r l q = omega (arith, quorum_bounded d e v n r (omega (arith, l)) q, candidate d e v n r (omega (arith, l)) q _ refl)

  -- the VIEW_CHANGE to a view, stamped
  abbrev changed : History → ℕ → History
  changed d v = Stamped (signed self d (view_change self d v)) ∷ d

  change_raises : (d : History) (v : ℕ) → Raised d (changed d v) v
  unfolding wish_of
  change_raises d v = record { above = λ h. omega arith; below = λ h. omega (arith, one_flag (self.host == h) v) }

  change_view : (d : History) (v : ℕ) → view_of self (changed d v) ≡ v
  unfolding origin taken_of current_view
  change_view d v = rw (eq-eqb self.host self.host refl) refl

  change_holds : (d : History) (v : ℕ) → (new_view_of self (changed d v) ≡ new_view_of self d) × (evidence_of self (changed d v) ≡ evidence_of self d) × (low_of self (changed d v) ≡ low_of self d)
  unfolding new_view_of evidence_of stable_of plan_held
  change_holds d v = (refl, refl, refl)

  change_calls : (d : History) (v : ℕ) → target self d ≡ v → calls self (changed d v) ≤ 1
  change_calls d v same =
      let h = change_holds d v in
      let q : quorum_wish self (changed d v) (host_count self.shape) ≤ v = quorum_bounded d (changed d v) v (host_count self.shape) (change_raises d v) (omega arith) (omega (arith, same)) in
      let low : target self (changed d v) ≤ v = omega (arith, q, same, ap (λ x. new_view_number x) h.0, ap (λ x. evidence_view x) h.1) in
      let none : nat_lt (view_of self (changed d v)) (target self (changed d v)) ≡ false = not_above (view_of self (changed d v)) (target self (changed d v)) (omega (arith, low, change_view d v)) in
      omega (arith, ap {B = ℕ} (λ t. if t then 2 else 0) none, one_flag (is_primary self (changed d v) && is_changing self (changed d v)) 1)

  called : (d : History) → nat_lt (view_of self d) (target self d) ≡ true → 2 ≤ calls self d
  called d e = rw e (omega arith)

  change_lowers : IsShape self.shape → (d : History) (v : ℕ) → view_of self d < v → target self d ≡ v → potential self (changed d v) < potential self d
  unfolding potential
  change_lowers k d v more same =
      let above : nat_lt (view_of self d) (target self d) ≡ true = lt-ltb (view_of self d) (target self d) (omega (arith, more, same)) in
      omega (arith, change_calls d v same, called d above, few_ahead k (changed d v), few_places self k (changed d v))

  -- ---- each rule lowers the potential

  abbrev pub Lowers : Progress → Rule → Type 0
  Lowers x rule = potential self (carry_out self rule x).history < potential self x.history

  some_is : {A : Type 0} (x y : A) → Some x ≡ Some y → x ≡ y
  some_is x y e = cc

  lowers_enter : (x : Progress) (n : NewView) → has_other_room self x.history ≡ true → Lowers x (Enter n)
  unfolding carry_out reach exec_of stable_of log_floor plan_held
  lowers_enter x n room =
      let d : History = x.history in
      let v : SameView d (Stamped (signed self d (enter n)) ∷ d) = entering d (record { view = n.view; counter = n.ui.counter; plan = n.plan; ui = no_ui }) in
      lower_other d _ v refl refl refl (others_lower d (signed self d (enter n)) refl refl room)

  evidence_view_is : (d : History) (v : ℕ) (e : Evidence) → evidence_for self d v ≡ Some e → e.view ≡ v
  evidence_view_is d v e is = elim (or_some (evidence_in v (evidence_of self d)) (option_and_then (λ n. evidence_with self n (enters_for self d n)) (new_view_in_view v (new_view_of self d))) e is) [
    | inl held ↦ of_held (evidence_of self d) held
    | inr made ↦ of_made (new_view_of self d) made
  ] where
    of_held : (x : Option Evidence) → evidence_in v x ≡ Some e → e.view ≡ v
    of_held None is = absurd cc
    of_held (Some y) is = let t = if_some (y.view == v) (Some y) e is in ap (λ (z : Evidence). z.view) (sym (some_is y e t.1)) ∙ eqb-true y.view v t.0

    with_enters : (n : NewView) (enters : List EnterMessage) → evidence_with self n enters ≡ Some e → n.view ≡ e.view
    with_enters n enters is = let t = if_some (nat_le (max_faults self.shape) (length enters)) _ e is in ap (λ (z : Evidence). z.view) (some_is _ e t.1)

    of_made : (x : Option NewView) → option_and_then (λ n. evidence_with self n (enters_for self d n)) (new_view_in_view v x) ≡ Some e → e.view ≡ v
    of_made None is = absurd cc
    of_made (Some n) is = elim (cases_Bool (eqb n.view v)) [
      | inl same ↦ sym (with_enters n (enters_for self d n) (rw same at is)) ∙ eqb-true n.view v same
      | inr other ↦ let h = rw other at is in absurd cc
    ]

  lowers_open : (x : Progress) (e : Evidence) (plan : Plan) → has_other_room self x.history ≡ true → evidence_for self x.history (view_of self x.history) ≡ Some e → Lowers x (Open e plan)
  unfolding carry_out reach exec_of stable_of log_floor plan_held
  lowers_open x e plan room held =
      let d : History = x.history in
      let there : e.view ≡ view_of self d = evidence_view_is d (view_of self d) e held in
      let v : SameView d (Stamped (signed self d (opening e plan)) ∷ d) = opens d (record { evidence = e; body = Whole (record { stable = plan.base; batches = plan.batches }); ui = no_ui }) there in
      lower_other d _ v refl refl refl (others_lower d (signed self d (opening e plan)) refl refl room)

  lowers_join : (x : Progress) → has_other_room self x.history ≡ true → Lowers x Join
  unfolding carry_out reach exec_of stable_of log_floor plan_held
  lowers_join x room =
      let d : History = x.history in
      let v : SameView d (Stamped (signed self d (join self d)) ∷ d) = joins d (record { view = view_of self d; evidence = join_evidence self d; stable = stable_of self d; ui = no_ui }) in
      lower_other d _ v refl refl refl (others_lower d (signed self d (join self d)) refl refl room)

  pub lowers : IsShape self.shape → (x : Progress) (rule : Rule) → next_rule self x.history ≡ Some rule → Lowers x rule
  unfolding carry_out
  lowers k x rule e =
      let d : History = x.history in
      of_next self d (λ (r : Rule). Lowers x r) (record {
        changes = λ e more room. change_lowers k d (target self d) (ltb-true (view_of self d) (target self d) more) refl;
        announces = λ changes e leads changing room. announce_lowers k d changes leads changing;
        enters = λ n e room. lowers_enter x n room;
        opens = λ f plan e held room. lowers_open x f plan room held;
        joins = λ e room. lowers_join x room;
        commits = λ c b e room. commit_rule self x (next_position self d) c b e;
        executes = λ b e. execute_rule self k x (exec_of d + 1) b e;
        prepares = λ b e room. prepare_rule self x (next_position self d) b e;
      }) rule e

  -- after more rounds than the potential none is enabled
  pub ends : IsShape self.shape → (n : ℕ) (x : Progress) → potential self x.history < n → next_rule self (run_rules self n x).history ≡ None
  unfolding run_rules
  ends k zero x p = absurd (omega (arith, p))
  ends k (suc n) x p = elim (option_cases (next_rule self x.history)) [
    | inl none ↦ rw none none
    | inr (rule, some) ↦ rw some (ends k n (carry_out self rule x) (omega (arith, p, lowers k x rule some)))
  ]

  -- No rule is left undone.
  pub none_left : IsShape self.shape → (x : Progress) → next_rule self (run_rules self enough x).history ≡ None
  unfolding enough
  none_left k x = ends k enough x (bounded k x.history)
