-- Where the last item stands that passes a test.
use Rattle.std.proofs.Common.{◌≡◌, ℕ, zero, suc, ◌+◌, ◌<◌, ◌≤◌, Bool, true, false, ◌||◌, List, [], ◌∷◌, length, get_or, drop, refl, sym, ◌∙◌, inl, inr, add-one, arith}
use Rattle.std.specs.Prelude.{nat_lt}
use Rattle.std.specs.List.{list_any}
use Rattle.std.proofs.lemmas.Bool.{cases_order, lt-ltb, le-ltb}

or_second : (a b : Bool) → b ≡ true → (a || b) ≡ true
or_second true b e = refl
or_second false b e = e

none_of_both : (a b : Bool) → (a || b) ≡ false → (a ≡ false) × (b ≡ false)
none_of_both true b e = absurd cc
none_of_both false b e = (refl, e)

module _ {A : Type 0} (p : A → Bool) where
  any_from : (l : List A) (k i : ℕ) (d : A) → i ≤ k → k < length l → p (get_or l k d) ≡ true → list_any p (drop i l) ≡ true
  any_from [] k i d le lt there = absurd (omega (arith, lt))
  any_from (x ∷ l) zero zero d le lt there = rw there refl
  any_from (x ∷ l) zero (suc i) d le lt there = absurd (omega (arith, le))
  any_from (x ∷ l) (suc k) zero d le lt there = or_second (p x) (list_any p l) (any_from l k zero d (omega arith) (omega (arith, lt)) there)
  any_from (x ∷ l) (suc k) (suc i) d le lt there = any_from l k i d (omega (arith, le)) (omega (arith, lt)) there

  pub none_behind : (l : List A) (a b : ℕ) → a ≤ b → list_any p (drop a l) ≡ false → list_any p (drop b l) ≡ false
  none_behind [] a zero le none = refl
  none_behind [] a (suc b) le none = refl
  none_behind (x ∷ l) zero zero le none = none
  none_behind (x ∷ l) zero (suc b) le none = none_behind l zero b (omega arith) (none_of_both (p x) (list_any p l) none).1
  none_behind (x ∷ l) (suc a) zero le none = absurd (omega (arith, le))
  none_behind (x ∷ l) (suc a) (suc b) le none = none_behind l a b (omega (arith, le)) none

  pub one_before : (l : List A) (i : ℕ) (d : A) → p (get_or l i d) ≡ false → list_any p (drop (suc i) l) ≡ false → list_any p (drop i l) ≡ false
  one_before [] zero d here none = refl
  one_before [] (suc i) d here none = refl
  one_before (x ∷ l) zero d here none = rw here none
  one_before (x ∷ l) (suc i) d here none = one_before l i d here none

  -- Behind an entry there is one exactly where the entry stands before the last.
  pub last_at : (l : List A) (last : ℕ) (d : A) → last < length l → p (get_or l last d) ≡ true → list_any p (drop (suc last) l) ≡ false
      → (i : ℕ) → list_any p (drop (i + 1) l) ≡ nat_lt i last
  last_at l last d within there none i = rw (add-one i) (elim (cases_order i last) [
    | inl same ↦ none_behind l (suc last) (suc i) (omega (arith, same)) none ∙ sym (le-ltb i last (omega (arith, same)))
    | inr (inl less) ↦ any_from l last (suc i) d (omega (arith, less)) within there ∙ sym (lt-ltb i last less)
    | inr (inr more) ↦ none_behind l (suc last) (suc i) (omega (arith, more)) none ∙ sym (le-ltb i last (omega (arith, more)))
  ])

  -- Where there is none, there is none behind any.
  pub none_at : (l : List A) → list_any p (drop 0 l) ≡ false → (i : ℕ) → list_any p (drop (i + 1) l) ≡ nat_lt i 0
  none_at l none i = none_behind l 0 (i + 1) (omega arith) none ∙ sym (le-ltb i 0 (omega arith))
