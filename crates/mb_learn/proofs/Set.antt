-- One item of a list in the place of another.
use Rattle.std.proofs.Common.{◌≡◌, ℕ, zero, suc, ◌<◌, List, [], ◌∷◌, length, set, slice_get, Some, refl, sym, ap, ◌∙◌, arith}
use Rattle.std.specs.List.{AllByRecursion}
use Rattle.std.proofs.lemmas.Option.{none-some, same_Some}

module _ {A : Type 0} where
  pub set_here : (l : List A) (i : ℕ) (x : A) → i < length l → slice_get (set l i x) i ≡ Some x
  set_here [] i x lt = absurd (omega arith)
  set_here (y ∷ l) zero x lt = refl
  set_here (y ∷ l) (suc i) x lt = set_here l i x (omega (arith, lt))

  pub set_elsewhere : (l : List A) (i j : ℕ) (x : A) → (i ≡ j → ⊥) → slice_get (set l i x) j ≡ slice_get l j
  set_elsewhere [] i j x ne = refl
  set_elsewhere (y ∷ l) zero zero x ne = absurd (ne refl)
  set_elsewhere (y ∷ l) zero (suc j) x ne = refl
  set_elsewhere (y ∷ l) (suc i) zero x ne = refl
  set_elsewhere (y ∷ l) (suc i) (suc j) x ne = set_elsewhere l i j x (λ e. ne (ap suc e))

  pub all_set : (P : A → Type 0) (l : List A) (i : ℕ) (x : A) → AllByRecursion P l → P x → AllByRecursion P (set l i x)
  all_set P [] i x all new = tt
  all_set P (y ∷ l) zero x all new = (new, all.1)
  all_set P (y ∷ l) (suc i) x all new = (all.0, all_set P l i x all.1 new)

  pub all_at : (P : A → Type 0) (l : List A) (i : ℕ) (x : A) → AllByRecursion P l → slice_get l i ≡ Some x → P x
  all_at P [] i x all at = absurd (none-some x at)
  all_at P (y ∷ l) zero x all at = by (same_Some y x at) where
    by : y ≡ x → P x
    by e = rw (← e) all.0
  all_at P (y ∷ l) (suc i) x all at = all_at P l i x all.1 at

  pub same_at : (l : List A) (i : ℕ) (x y : A) → slice_get l i ≡ Some x → slice_get l i ≡ Some y → x ≡ y
  same_at l i x y at also = same_Some x y (sym at ∙ also)
