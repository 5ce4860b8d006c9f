-- Multiples of the interval, at most two above another.
use Rattle.std.proofs.Common.{ℕ, ◌≡◌, ◌+◌, ◌-◌, ◌*◌, ◌/◌, ◌%◌, ◌≤◌, inl, inr, ap, sym, ◌∙◌, arith}
use Rattle.std.proofs.lemmas.Bool.{cases_lt}
use Rattle.std.proofs.lemmas.Nat.{div-add-mod'}
use Rattle.std.proofs.Math.Nat.{mul-lt-mul_of_pos_right}
use Rattle.mb_base.specs.Limits.{least_interval}

at_least : (a b k : ℕ) → least_interval ≤ k → a * k ≤ b * k → a ≤ b
at_least a b k some le = elim (cases_lt b a) [
  | inl lt ↦ let h = mul-lt-mul_of_pos_right {k = k} lt (omega (arith, some)) in absurd (omega (arith, le, h))
  | inr ge ↦ ge
]

pub place_above : (k first low pos : ℕ) → least_interval ≤ k → first * k ≡ low → low ≤ pos → pos - low ≤ 2 * k → pos % k ≡ 0
    → (more : ℕ) × (more ≤ 2) × (pos ≡ (first + more) * k)
place_above k first low pos some at above near whole =
    let number = pos / k in
    let exact : number * k ≡ pos = let h = div-add-mod' pos k in omega (arith, h, whole) in
    let least : first ≤ number = at_least first number k some (omega (arith, at, above, exact)) in
    let sum : (first + 2) * k ≡ first * k + 2 * k = grind arith in
    let most : number ≤ first + 2 = at_least number (first + 2) k some (omega (arith, sum, at, near, above, exact)) in
    let same : first + (number - first) ≡ number = omega (arith, least) in
    (number - first, omega (arith, most), sym exact ∙ ap (λ n. n * k) (sym same))

pub multiple : (k low : ℕ) → low % k ≡ 0 → (number : ℕ) × (low ≡ number * k)
multiple k low whole = (low / k, (let h = div-add-mod' low k in omega (arith, h, whole)))
