-- What stands at a counter of a list, newest first, stands at the place below it, oldest first.
use Rattle.std.proofs.Common.{◌≡◌, ℕ, zero, suc, ◌+◌, false, List, [], ◌∷◌, ◌++◌, length, reverse, slice_get, Some, None, refl, sym, ◌∙◌, inl, inr, arith, eqb}
use Rattle.std.proofs.lemmas.Bool.{cases_Bool, eqb-true, eqb-false, ne_eqb}
use Rattle.std.proofs.lemmas.List.{reverse-append, length-reverse}
use Rattle.mb_parts.specs.Counters.{at_counter}

module _ {A : Type 0} where
  last_is : (l : List A) (y : A) (i : ℕ) → i ≡ length l → slice_get (l ++ y ∷ []) i ≡ Some y
  last_is [] y zero e = refl
  last_is [] y (suc i) e = absurd (omega (arith, e))
  last_is (x ∷ l) y zero e = absurd (omega (arith, e))
  last_is (x ∷ l) y (suc i) e = last_is l y i (omega (arith, e))

  others_stay : (l : List A) (y : A) (i : ℕ) → (i ≡ length l → ⊥) → slice_get (l ++ y ∷ []) i ≡ slice_get l i
  others_stay [] y zero ne = absurd (ne refl)
  others_stay [] y (suc i) ne = refl
  others_stay (x ∷ l) y zero ne = refl
  others_stay (x ∷ l) y (suc i) ne = others_stay l y i (λ e. ne (omega (arith, e)))

  last_first : (y : A) (l : List A) → reverse (y ∷ l) ≡ reverse l ++ y ∷ []
  last_first y l = reverse-append (y ∷ []) l

  pub at_place : (l : List A) (i : ℕ) → at_counter l (i + 1) ≡ slice_get (reverse l) i
  at_place [] i = refl
  at_place (y ∷ l) i = rw (last_first y l) (elim (cases_Bool (eqb (i + 1) (length l + 1))) [
    | inl same ↦ rw same (sym (last_is (reverse l) y i (omega (arith, eqb-true (i + 1) (length l + 1) same, length-reverse l))))
    | inr other ↦ rw other (at_place l i ∙ sym (others_stay (reverse l) y i (λ e. eqb-false (i + 1) (length l + 1) other (omega (arith, e, length-reverse l)))))
  ])

  -- There is no counter 0.
  pub none_at_zero : (l : List A) → at_counter l 0 ≡ None
  none_at_zero [] = refl
  none_at_zero (y ∷ l) =
      let other : eqb 0 (length l + 1) ≡ false = ne_eqb 0 (length l + 1) (λ e. omega (arith, e)) in
      rw other (none_at_zero l)
