-- Numbers in a list.
use Rattle.std.proofs.Common.{◌≡◌, ℕ, zero, suc, Bool, true, false, eqb, inl, inr, List, [], ◌∷◌, subst, arith}
use Rattle.std.specs.Prelude.{Contains, if◌then◌else◌}
use Rattle.std.specs.List.{AllByRecursion}
use Rattle.std.proofs.lemmas.Bool.{cases_Bool, eqb-false, false≢true}

-- What holds of each of a list holds of any in it.
pub any_of : (P : ℕ → Type 0) (xs : List ℕ) (x : ℕ) → AllByRecursion P xs → Contains xs x → P x
any_of P [] x a (k, below, at) = absurd (omega (arith, below))
any_of P (y ∷ xs) x a (zero, below, at) = subst P at a.0
any_of P (y ∷ xs) x a (suc k, below, at) = any_of P xs x a.1 (k, omega (arith, below), at)

-- no number of a list is this one
abbrev pub lacks : ℕ → List ℕ → Bool
lacks n [] = true
lacks n (x ∷ xs) = if eqb x n then false else lacks n xs

all_others : (n : ℕ) (xs : List ℕ) → lacks n xs ≡ true → AllByRecursion (λ (x : ℕ). ¬ (x ≡ n)) xs
all_others n [] none = tt
all_others n (x ∷ xs) none = elim (cases_Bool (eqb x n)) [
  | inl same ↦ absurd (false≢true (rw same at none))
  | inr other ↦ (eqb-false x n other, all_others n xs (rw other at none))
]

pub none_of : (n : ℕ) (xs : List ℕ) (x : ℕ) → lacks n xs ≡ true → Contains xs x → ¬ (x ≡ n)
none_of n xs x none has = any_of (λ y. ¬ (y ≡ n)) xs x (all_others n xs none) has
