-- What `from_fn` makes, element by element.
use Rattle.std.proofs.Common.{ℕ, zero, suc, ◌≡◌, ◌+◌, ◌≤◌, ◌<◌, List, sym, ap, subst, ◌∙◌, inl, inr, arith, Some}
use Rattle.std.specs.Prelude.{slice_get, slice_index_or}
use Rattle.std.proofs.lemmas.Bool.{cases_lt}
use Rattle.std.proofs.lemmas.Option.{get_or_from_slice_get}
use Rattle.std.specs.Fn.{Called, Mut}
use Rattle.std.specs.Array.{IsFromFnResultFrom}

-- Where each call keeps K and gives an element of which P holds at its index, P holds of each element at its index.
module _ {F B : Type 0} (g : Mut F (ℕ × Unit {0}) B) (K : F → Type 0) (P : ℕ → B → Type 0) (step : (p q : F) (i : ℕ) (y : B) → K p → Called g p (i, tt) y q → K q × P i y) where
  pub made_each : (ys : List B) (f : F) (i n : ℕ) → K f → IsFromFnResultFrom g f ys i n → (k : ℕ) → i ≤ k → k < i + n → (y : B) → slice_get ys k ≡ Some y → P k y
  made_each ys f i zero kept from k le lt y is = absurd (omega (arith, le, lt))
  made_each ys f i (suc n) kept (q, x, at, called, rest) k le lt y is =
      let next = step f q i x kept called in
      elim (cases_lt i k) [
        | inl less ↦ made_each ys q (i + 1) n next.0 rest k (omega (arith, less)) (omega (arith, lt)) y is
        | inr more ↦
            let same : i ≡ k = omega (arith, le, more) in
            let item : x ≡ y = sym (at.1 y) ∙ ap (λ j. slice_index_or ys j y) same ∙ get_or_from_slice_get ys k y y is in
            subst (λ j. P j y) same (subst (P i) item next.1)
      ]
