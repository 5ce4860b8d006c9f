-- A test of all items of a list, one after the other.
use Rattle.std.proofs.Common.{◌≡◌, ℕ, zero, suc, ◌+◌, ◌<◌, ◌≤◌, Bool, true, false, ◌&&◌, List, [], ◌∷◌, length, get_or, drop, slice_get, Some, sym, ap, ◌∙◌, add-one, arith}
use Rattle.std.specs.List.{list_all, AllByRecursion}
use Rattle.std.proofs.lemmas.Option.{none-some, same_Some}
use Rattle.std.proofs.lemmas.List.{drop_all}

module _ {A : Type 0} (p : A → Bool) where
  all-next : (l : List A) (i : ℕ) (x : A) → slice_get l i ≡ Some x → list_all p (drop i l) ≡ (p x && list_all p (drop (suc i) l))
  all-next [] i x at = absurd (none-some x at)
  all-next (y ∷ l) zero x at = ap (λ z. p z && list_all p l) (same_Some y x at)
  all-next (y ∷ l) (suc i) x at = all-next l i x at

  -- those from a place on are still to be looked at
  abbrev pub AllFrom : List A → ℕ → Type 0
  AllFrom l i = list_all p (drop i l) ≡ list_all p l

  module _ (l : List A) (i : ℕ) (so_far : AllFrom l i) where
    pub all_holds : (x : A) (b : Bool) → slice_get l i ≡ Some x → b ≡ p x → b ≡ true → AllFrom l (i + 1)
    all_holds x b at is holds = rw (add-one i) (ap (λ t. t && list_all p (drop (suc i) l)) (sym holds ∙ is) ∙ sym (all-next l i x at) ∙ so_far)

    pub all_fails : (x : A) (b : Bool) → slice_get l i ≡ Some x → b ≡ p x → b ≡ false → false ≡ list_all p l
    all_fails x b at is fails = ap (λ t. t && list_all p (drop (suc i) l)) (sym fails ∙ is) ∙ sym (all-next l i x at) ∙ so_far

    pub all_hold : length l ≤ i → true ≡ list_all p l
    all_hold le = ap (list_all p) (sym (drop_all i l le)) ∙ so_far

-- What holds of each holds of the one at a place.
pub all_at : {A : Type 0} (P : A → Type 0) (l : List A) (i : ℕ) (d : A) → AllByRecursion P l → i < length l → P (get_or l i d)
all_at P [] i d each lt = absurd (omega (arith, lt))
all_at P (x ∷ l) zero d each lt = each.0
all_at P (x ∷ l) (suc i) d each lt = all_at P l i d each.1 (omega (arith, lt))
