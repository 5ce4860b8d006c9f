-- What is left of a list that is gone through, and what is read in one.
use Rattle.std.proofs.Common.{◌≡◌, ℕ, ◌<◌, Bool, false, unwrap_or, get_or, ap, zero, suc, ◌+◌, List, [], ◌∷◌, ◌++◌, length, drop, Some, refl, add-one, arith, length-append}
use Rattle.std.specs.List.{slice_get}
use Rattle.std.proofs.lemmas.Option.{slice_get_read}

next_left : {A : Type 0} (xs : List A) (i : ℕ) (x : A) (rest : List A) → drop i xs ≡ x ∷ rest → (slice_get xs i ≡ Some x) × (drop (suc i) xs ≡ rest)
next_left [] zero x rest e = absurd cc
next_left [] (suc i) x rest e = absurd cc
next_left (y ∷ xs) zero x rest e = (cc, cc)
next_left (y ∷ xs) (suc i) x rest e = next_left xs i x rest e

-- The next of them stands behind those that were passed.
pub drop_one : {A : Type 0} (xs : List A) (i : ℕ) (x : A) (rest : List A) → drop i xs ≡ x ∷ rest → (slice_get xs i ≡ Some x) × (drop (i + 1) xs ≡ rest)
drop_one xs i x rest e = rw (add-one i) (next_left xs i x rest e)

-- One more was put behind it.
pub one_longer : {A : Type 0} (xs ys : List A) (x : A) (n : ℕ) → ys ≡ xs ++ x ∷ [] → length xs ≡ n → length ys ≡ n + 1
one_longer xs ys x n pushed len = rw pushed (omega (arith, length-append xs (x ∷ []), len))

-- The mark of a place is the one that was read there.
pub marked : (kept marks : List Bool) (place at : ℕ) (mark : Bool) → place < length kept → kept ≡ marks → at ≡ place → mark ≡ get_or kept at mark → unwrap_or (slice_get marks place) false ≡ mark
marked kept marks place at mark there same here read =
    rw (← same, ← here) (ap (λ o. unwrap_or o false) (slice_get_read kept (length kept) at mark refl (omega (arith, there, here)) read))
