-- Bytes may be counted piece by piece.
use Rattle.std.proofs.Common.{◌≡◌, ◌∙◌, ℕ, ◌+◌, ◌-◌, ◌^◌, ◌≤◌, ◌<◌, ◌++◌, [], length, min, arith, inl, inr, refl, ap}
use Rattle.std.proofs.lemmas.Bool.{cases_lt}
use Rattle.std.proofs.lemmas.List.{length-append}
use Rattle.std.proofs.Math.Nat.{min-eq_left, min-eq_right}
use Rattle.mb_base.specs.Shapes.{Bytes}
use Rattle.mb_parts.specs.Counted.{counted}

pub min_twice : (n a b most : ℕ) → min (n + (a + b)) most ≡ min (min (n + a) most + b) most
min_twice n a b most = elim (cases_lt (n + a) most) [
  | inl lt ↦ rw (min-eq_left {n = n + a} {m = most} (omega arith)) (ap (λ x. min x most) (omega arith))
  | inr ge ↦ rw (min-eq_right {n = most} {m = n + a} ge, min-eq_right {n = most} {m = n + (a + b)} (omega (arith, ge)), min-eq_right {n = most} {m = most + b} (omega arith)) refl
]

pub counted_behind : (n : ℕ) (xs ys : Bytes) → counted n (xs ++ ys) ≡ counted (counted n xs) ys
unfolding counted
counted_behind n xs ys = rw (length-append xs ys) (min_twice n (length xs) (length ys) (2 ^ 64 - 1))

pub counted_nothing : (n : ℕ) → n < 2 ^ 64 → counted n [] ≡ n
unfolding counted
counted_nothing n lt = min-eq_left {n = n + 0} {m = 2 ^ 64 - 1} (omega (arith, lt)) ∙ omega arith

-- Below the greatest number bytes are counted as they are.
pub counted_within : (xs : Bytes) (most : ℕ) → most < 2 ^ 64 - 1 → counted 0 xs ≤ most → length xs ≤ most
unfolding counted
counted_within xs most lt le = elim (cases_lt (length xs) (2 ^ 64 - 1)) [
  | inl short ↦ omega (arith, le, short, min-eq_left {n = 0 + length xs} {m = 2 ^ 64 - 1} (omega (arith, short)))
  | inr long ↦ absurd (omega (arith, lt, le, long, min-eq_right {n = 2 ^ 64 - 1} {m = 0 + length xs} (omega (arith, long))))
]

pub within_counted : (xs : Bytes) (most : ℕ) → length xs ≤ most → counted 0 xs ≤ most
unfolding counted
within_counted xs most le = omega (arith, le)
