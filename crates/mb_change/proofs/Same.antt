-- Searches that find the same for the hosts of a system have the same due, and the same evidence.
use Rattle.std.proofs.Common.{◌≡◌, ℕ, zero, suc, ◌+◌, ◌<◌, ◌≤◌, Bool, cond, filter, max, Option, Some, None, refl, ap, ◌∙◌, arith}
use Rattle.std.specs.Prelude.{filter_map, nat_le, option_and_then}
use Rattle.std.specs.Option.{option_or}
use Rattle.std.specs.List.{range_with_len, cons_option}
use Rattle.mb_base.specs.Shapes.{host_count, quorum, tally}
use Rattle.mb_base.specs.declared.shape.Shape.{Shape}
use Rattle.mb_parts.specs.declared.floor.Floor.{Floor}
use Rattle.mb_parts.specs.declared.certificates.Evidence.{Evidence}
use Rattle.mb_msg.specs.declared.change.Enter.{Enter}
use Rattle.mb_msg.specs.declared.change.NewView.{NewView}
use Rattle.mb_model.specs.Held.{answers, new_view_in_view, evidence_in, plan_of_view}
use Rattle.mb_change.specs.Tables.{Table, wish_at, enter_at}
use Rattle.mb_change.specs.Searches.{Searches, found_in}
use Rattle.mb_change.specs.Evidences.{enters_for, evidence_with, evidence_for, is_of_plan, has_evidence_of_plan}
use Rattle.mb_change.specs.declared.due.ChangeDue.{ChangeDue}
use Rattle.mb_change.specs.Rules.{is_wished, quorum_wish, due_with}
use Rattle.mb_change.specs.Represents.{Represents, Answers}

-- ---- wishes

tally_below : (p q : ℕ → Bool) (n : ℕ) → ((h : ℕ) → h < n → p h ≡ q h) → tally p n ≡ tally q n
tally_below p q zero same = refl
tally_below p q (suc n) same = rw (same n (omega arith)) (ap (λ k. cond (q n) 1 0 + k) (tally_below p q n (λ h lt. same h (omega (arith, lt)))))

wished_same : (shape : Shape) (f g : ℕ → ℕ) (view : ℕ) → ((h : ℕ) → h < host_count shape → f h ≡ g h) → is_wished shape f view ≡ is_wished shape g view
wished_same shape f g view same = ap (nat_le (quorum shape)) (tally_below (λ h. nat_le view (f h)) (λ h. nat_le view (g h)) (host_count shape) (λ h lt. ap (nat_le view) (same h lt)))

wish_same : (shape : Shape) (f g : ℕ → ℕ) → ((h : ℕ) → h < host_count shape → f h ≡ g h) → (n : ℕ) → n ≤ host_count shape → quorum_wish shape f n ≡ quorum_wish shape g n
unfolding quorum_wish
wish_same shape f g same zero le = refl
wish_same shape f g same (suc n) le =
    rw (same n (omega (arith, le)), wished_same shape f g (g n) same) (ap (λ k. max k (cond (is_wished shape g (g n)) (g n) 0)) (wish_same shape f g same n (omega (arith, le))))

-- ---- evidence

found_below : {A : Type 0} (f g : ℕ → Option A) (first n : ℕ) → ((h : ℕ) → h < first + n → f h ≡ g h) → filter_map f (range_with_len first n) ≡ filter_map g (range_with_len first n)
found_below f g first zero same = refl
found_below f g first (suc n) same =
    rw (same first (omega arith)) (ap (cons_option (g first)) (found_below f g (first + 1) n (λ h lt. same h (omega (arith, lt)))))

enters_same : (shape : Shape) (f g : ℕ → Option Enter) (n : NewView) → ((h : ℕ) → h < host_count shape → f h ≡ g h) → enters_for shape f n ≡ enters_for shape g n
enters_same shape f g n same = ap (filter (answers n)) (found_below f g 0 (host_count shape) (λ h lt. same h (omega (arith, lt))))

with_same : (shape : Shape) (f g : ℕ → Option Enter) (n : Option NewView) → ((h : ℕ) → h < host_count shape → f h ≡ g h)
    → option_and_then (λ m. evidence_with shape m (enters_for shape f m)) n ≡ option_and_then (λ m. evidence_with shape m (enters_for shape g m)) n
with_same shape f g None same = refl
with_same shape f g (Some n) same = ap (evidence_with shape n) (enters_same shape f g n same)

module _ (t : Table) where
  pub evidence_answers : (view : ℕ) (o : Option Evidence) → o ≡ evidence_for t.shape view (found_in t) → Answers t o (evidence_for t.shape view)
  evidence_answers view o is = λ s r.
      is
      ∙ (ap (λ n. option_or (evidence_in view t.evidence) n) (with_same t.shape (enter_at t) s.enter (new_view_in_view view t.new_view) r.enter_is)
      ∙ (ap (λ e. option_or (evidence_in view e) (option_and_then (λ m. evidence_with t.shape m (enters_for t.shape s.enter m)) (new_view_in_view view t.new_view))) r.evidence_is
      ∙ ap (λ n. option_or (evidence_in view s.evidence) (option_and_then (λ m. evidence_with t.shape m (enters_for t.shape s.enter m)) (new_view_in_view view n))) r.new_view_is))

  -- ---- what is due

  of_plan_same : (view : ℕ) (s : Searches) → Represents t s → has_evidence_of_plan t.shape view (found_in t) ≡ has_evidence_of_plan t.shape view s
  of_plan_same view s r =
      ap (λ e. is_of_plan e (plan_of_view view t.plan)) (evidence_answers view (evidence_for t.shape view (found_in t)) refl s r)
      ∙ ap (λ p. is_of_plan (evidence_for t.shape view s) (plan_of_view view p)) r.plan_is

  target_same : (s : Searches) → Represents t s → quorum_wish t.shape (wish_at t) (host_count t.shape) ≡ quorum_wish t.shape s.wish (host_count t.shape)
  target_same s r = wish_same t.shape (wish_at t) s.wish r.wish_is (host_count t.shape) (omega arith)

  pub due_answers : (at : Floor) (exec low : ℕ) (room : Bool) (x : ChangeDue) → x ≡ due_with t.shape t.host at (found_in t) exec low room → Answers t x (λ s. due_with t.shape t.host at s exec low room)
  unfolding due_with
  due_answers at exec low room x is = λ s r.
      is ∙ (rw (target_same s r, of_plan_same at.view s r, r.new_view_is, r.evidence_is, r.changes_are) refl)
