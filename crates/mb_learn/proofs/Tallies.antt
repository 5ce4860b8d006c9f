-- How many hosts have a property.
use Rattle.std.proofs.Common.{◌≡◌, ℕ, zero, suc, ◌+◌, ◌<◌, ◌≤◌, ◌⊎◌, Bool, true, false, cond, refl, sym, ap, ◌∙◌, inl, inr, arith, add-one}
use Rattle.std.specs.Prelude.{if◌then◌else◌}
use Rattle.mb_base.specs.Shapes.{tally}
use Rattle.mb_learn.proofs.Tests.{true_false}

-- one host more
pub tally_more : (p : ℕ → Bool) (n : ℕ) → tally p (n + 1) ≡ (if p n then 1 else 0) + tally p n
tally_more p n = rw (add-one n) refl

pub tally_below : (p q : ℕ → Bool) (n : ℕ) → ((h : ℕ) → h < n → p h ≡ q h) → tally p n ≡ tally q n
tally_below p q zero e = refl
tally_below p q (suc n) e =
    let here : p n ≡ q n = e n (omega arith) in
    let rest : tally p n ≡ tally q n = tally_below p q n (λ h lt. e h (omega (arith, lt))) in
    ap (λ b. (if b then 1 else 0) + tally p n) here ∙ ap (λ k. (if q n then 1 else 0) + k) rest

one_up : (a b : Bool) → (a ≡ true → b ≡ true) → cond a 1 0 ≤ cond b 1 0
one_up true true f = omega arith
one_up true false f = true_false (sym (f refl))
one_up false b f = omega arith

pub tally_up : (p q : ℕ → Bool) (n : ℕ) → ((h : ℕ) → h < n → p h ≡ true → q h ≡ true) → tally p n ≤ tally q n
tally_up p q zero f = omega arith
tally_up p q (suc n) f =
    let here = one_up (p n) (q n) (f n (omega arith)) in
    let rest = tally_up p q n (λ h lt. f h (omega (arith, lt))) in
    omega (arith, here, rest)

-- all alike, or one that is so
pub tally_or : (p q : ℕ → Bool) (C : Type 0) → ((h : ℕ) → (p h ≡ q h) ⊎ C) → (n : ℕ) → (tally p n ≡ tally q n) ⊎ C
tally_or p q C f zero = inl refl
tally_or p q C f (suc n) = by (f n) (tally_or p q C f n) where
  by : (p n ≡ q n) ⊎ C → (tally p n ≡ tally q n) ⊎ C → (tally p (suc n) ≡ tally q (suc n)) ⊎ C
  by (inr c) rest = inr c
  by (inl e) (inr c) = inr c
  by (inl e) (inl rest) = inl (ap (λ b. (if b then 1 else 0) + tally p n) e ∙ ap (λ k. (if q n then 1 else 0) + k) rest)
