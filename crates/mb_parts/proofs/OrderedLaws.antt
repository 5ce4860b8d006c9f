-- What may stand behind an ordered list is what may stand first behind the floor to which it leads.
--
-- By kinds of messages: what is asked of the list is asked of its present view, and that is in the floor: whether the view was opened, or else
-- entered, its last position, and the last CHECKPOINT. A VIEW_CHANGE above each one before it is above the last one, since views rise (`rising`).
use Rattle.std.proofs.Common.{◌≡◌, ℕ, ◌+◌, ◌<◌, Bool, true, false, ◌&&◌, ◌||◌, not, List, [], ◌∷◌, refl, sym, ap, subst, ◌∙◌, inl, inr, arith, eqb}
use Rattle.std.specs.Prelude.{nat_lt, nat_le, ◌==◌}
use Rattle.std.specs.List.{list_all}
use Rattle.std.proofs.lemmas.Bool.{cases_Bool, and_parts, ltb-true, lt-ltb, eqb-true, eq-eqb}
use Rattle.mb_base.specs.declared.shape.Shape.{Shape}
use Rattle.mb_base.specs.Shapes.{primary}
use Rattle.mb_parts.specs.declared.floor.Floor.{Floor}
use Rattle.mb_parts.specs.Bares.{Bare}
use Rattle.mb_parts.specs.Bares as bare
use Rattle.mb_parts.specs.Ordered.{current_view, is_opened, is_entered, last_position, last_checkpoint, permits, is_ordered, floor_after, is_below, phase_from, phase_is_open, phase_is_entered, end_of}

and_true : (b : Bool) → (b && true) ≡ b
and_true true = refl
and_true false = refl

-- what is below a view is below a greater one
below_more : (v w : ℕ) (l : List Bare) → w < v → list_all (is_below w) l ≡ true → list_all (is_below v) l ≡ true
below_more v w [] lt h = refl
below_more v w (bare.ViewChange x d ∷ l) lt h =
    let parts = and_parts (nat_lt x w) (list_all (is_below w) l) h in
    let here : nat_lt x v ≡ true = lt-ltb x v (omega (arith, ltb-true x w parts.0)) in
    rw here (below_more v w l lt parts.1)
below_more v w (_ ∷ l) lt h = below_more v w l lt h

-- two tests that agree at the view agree behind the test for the view
at_view : (v w : ℕ) (f g : ℕ → Bool) → f w ≡ g w → (eqb v w && f v) ≡ (eqb v w && g v)
at_view v w f g same = elim (cases_Bool (eqb v w)) as (λ _. (eqb v w && f v) ≡ (eqb v w && g v)) [
  | inl holds ↦ let e : v ≡ w = eqb-true v w holds in subst (λ x. (eqb v w && f x) ≡ (eqb v w && g x)) (sym e) (rw same refl)
  | inr fails ↦ rw fails refl
]

both_not : (opened entered : Bool) → (not entered && not opened) ≡ (not (phase_is_entered (phase_from opened entered)) && not (phase_is_open (phase_from opened entered)))
both_not true true = refl
both_not true false = refl
both_not false true = refl
both_not false false = refl

open_is : (opened entered : Bool) → phase_is_open (phase_from opened entered) ≡ opened
open_is true e = refl
open_is false true = refl
open_is false false = refl

may_open : (opened entered backup rest : Bool) → (not opened && ((backup || entered) && rest)) ≡ (not opened && ((backup || phase_is_entered (phase_from opened entered)) && rest))
may_open true e b r = refl
may_open false true b r = refl
may_open false false b r = refl

may_join : (opened entered a : Bool) → (a || entered || opened) ≡ (a || phase_is_entered (phase_from opened entered) || opened)
may_join true true true = refl
may_join true true false = refl
may_join true false a = refl
may_join false true a = refl
may_join false false a = refl

module _ (o : Floor) (s : Shape) (host : ℕ) (inner : Bare → Bool) where
  -- in an ordered list "greater than each view before" is "greater than the last one"
  pub rising : (l : List Bare) (v : ℕ) → is_ordered o s host inner l ≡ true → (nat_lt o.view v && list_all (is_below v) l) ≡ nat_lt (current_view o l) v
  unfolding current_view permits is_ordered
  rising [] v h = and_true (nat_lt o.view v)
  rising (bare.ViewChange w d ∷ l) v h =
      let parts = and_parts (nat_lt o.view w && list_all (is_below w) l) (is_ordered o s host inner l) h in
      let first = and_parts (nat_lt o.view w) (list_all (is_below w) l) parts.0 in
      elim (cases_Bool (nat_lt w v)) as (λ _. (nat_lt o.view v && (nat_lt w v && list_all (is_below v) l)) ≡ nat_lt w v) [
        | inl more ↦
            let low : nat_lt o.view v ≡ true = lt-ltb o.view v (omega (arith, ltb-true o.view w first.0, ltb-true w v more)) in
            rw (more, low, below_more v w l (ltb-true w v more) first.1) refl
        | inr less ↦ rw less (grind arith)
      ]
  rising (m ∷ l) v h = rising l v (and_parts (permits o s host inner l m) (is_ordered o s host inner l) h).1

  -- what is opened, entered and last at the present view, read off the floor
  abbrev opened_now : List Bare → Bool
  opened_now l = is_opened o l (current_view o l)

  abbrev entered_now : List Bare → Bool
  entered_now l = is_entered o l (current_view o l)

  opened_at : (l : List Bare) → is_opened (floor_after o l) [] (current_view o l) ≡ phase_is_open (phase_from (opened_now l) (entered_now l))
  unfolding is_opened
  opened_at l = rw (eq-eqb (current_view o l) (current_view o l) refl) refl

  entered_at : (l : List Bare) → is_entered (floor_after o l) [] (current_view o l) ≡ phase_is_entered (phase_from (opened_now l) (entered_now l))
  unfolding is_entered
  entered_at l = rw (eq-eqb (current_view o l) (current_view o l) refl) refl

  last_at : (l : List Bare) → last_position (floor_after o l) [] (current_view o l) ≡ last_position o l (current_view o l)
  unfolding last_position
  last_at l = rw (eq-eqb (current_view o l) (current_view o l) refl) refl

  view_at : (l : List Bare) → current_view (floor_after o l) [] ≡ current_view o l
  unfolding current_view
  view_at l = refl

  point_at : (l : List Bare) → last_checkpoint (floor_after o l) [] ≡ last_checkpoint o l
  unfolding last_checkpoint
  point_at l = refl

  -- the list goes on as from the floor at which it stands
  pub goes_on : (l : List Bare) (m : Bare) → is_ordered o s host inner l ≡ true → permits o s host inner l m ≡ permits (floor_after o l) s host inner [] m
  unfolding permits
  goes_on l (bare.ViewChange v d) h = rising l v h ∙ sym (and_true (nat_lt (current_view o l) v))
  goes_on l (bare.NewView v b e p d) h =
      rw (view_at l) (at_view v (current_view o l) (λ x. host == primary s x && (not (is_entered o l x) && not (is_opened o l x))) (λ x. host == primary s x && (not (is_entered (floor_after o l) [] x) && not (is_opened (floor_after o l) [] x)))
      (rw (opened_at l, entered_at l) (ap (λ y. host == primary s (current_view o l) && y) (both_not (opened_now l) (entered_now l)))))
  goes_on l (bare.Enter v c p) h =
      rw (view_at l) (at_view v (current_view o l) (λ x. not (host == primary s x) && (not (is_entered o l x) && not (is_opened o l x))) (λ x. not (host == primary s x) && (not (is_entered (floor_after o l) [] x) && not (is_opened (floor_after o l) [] x)))
      (rw (opened_at l, entered_at l) (ap (λ y. not (host == primary s (current_view o l)) && y) (both_not (opened_now l) (entered_now l)))))
  goes_on l (bare.Open e d) h =
      rw (view_at l) (at_view e.view (current_view o l) (λ x. not (is_opened o l x) && ((not (host == primary s x) || is_entered o l x) && inner (bare.Open e d))) (λ x. not (is_opened (floor_after o l) [] x) && ((not (host == primary s x) || is_entered (floor_after o l) [] x) && inner (bare.Open e d)))
      (rw (opened_at l, entered_at l, open_is (opened_now l) (entered_now l)) (may_open (opened_now l) (entered_now l) (not (host == primary s (current_view o l))) (inner (bare.Open e d)))))
  goes_on l (bare.Join v e c) h =
      rw (view_at l) (at_view v (current_view o l)
      (λ x. (x == 0 || not (host == primary s x) || is_entered o l x || is_opened o l x) && (nat_le (end_of e) c.pos && ((not (is_opened o l x) || nat_le (last_position o l x) c.pos) && inner (bare.Join v e c))))
      (λ x. (x == 0 || not (host == primary s x) || is_entered (floor_after o l) [] x || is_opened (floor_after o l) [] x) && (nat_le (end_of e) c.pos && ((not (is_opened (floor_after o l) [] x) || nat_le (last_position (floor_after o l) [] x) c.pos) && inner (bare.Join v e c))))
      (rw (opened_at l, entered_at l, last_at l, open_is (opened_now l) (entered_now l))
      (ap (λ y. y && (nat_le (end_of e) c.pos && ((not (opened_now l) || nat_le (last_position o l (current_view o l)) c.pos) && inner (bare.Join v e c))))
      (may_join (opened_now l) (entered_now l) (current_view o l == 0 || not (host == primary s (current_view o l)))))))
  goes_on l (bare.Prepare v p d) h =
      rw (view_at l) (at_view v (current_view o l) (λ x. host == primary s x && (is_opened o l x && p == last_position o l x + 1)) (λ x. host == primary s x && (is_opened (floor_after o l) [] x && p == last_position (floor_after o l) [] x + 1))
      (rw (opened_at l, last_at l, open_is (opened_now l) (entered_now l)) refl))
  goes_on l (bare.Commit v p n c d) h =
      rw (view_at l) (at_view v (current_view o l) (λ x. not (host == primary s x) && (is_opened o l x && (p == last_position o l x + 1 && inner (bare.Commit v p n c d)))) (λ x. not (host == primary s x) && (is_opened (floor_after o l) [] x && (p == last_position (floor_after o l) [] x + 1 && inner (bare.Commit v p n c d))))
      (rw (opened_at l, last_at l, open_is (opened_now l) (entered_now l)) refl))
  goes_on l (bare.Checkpoint p t d) h = rw (point_at l) refl
