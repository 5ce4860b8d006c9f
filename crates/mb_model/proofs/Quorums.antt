-- Any two quorums share a host, and each has a correct one.
--
-- Two sets of hosts below n have together at most n more members than they share (`tally_both`). Two quorums have n + 1.
use Rattle.std.proofs.Common.{◌≡◌, ℕ, zero, suc, ◌+◌, ◌≤◌, ◌<◌, Bool, true, false, ◌&&◌, not, cond, refl, inl, inr, arith}
use Rattle.std.proofs.lemmas.Bool.{cases_Bool, and_parts}
use Rattle.mb_base.specs.declared.shape.Shape.{Shape}
use Rattle.mb_base.specs.Shapes.{max_faults, tally, host_count, HasQuorum}

meet_one : (a b : Bool) → cond a 1 0 + cond b 1 0 ≤ 1 + cond (a && b) 1 0
meet_one true true = omega arith
meet_one true false = omega arith
meet_one false true = omega arith
meet_one false false = omega arith

-- two sets of hosts below n have together at most n more members than they share
pub tally_both : (p q : ℕ → Bool) (n : ℕ) → tally p n + tally q n ≤ n + tally (λ h. p h && q h) n
tally_both p q zero = omega arith
tally_both p q (suc n) = omega (arith, meet_one (p n) (q n), tally_both p q n)

-- where one of the hosts has the property, here is one
pub tally_some : (p : ℕ → Bool) (n : ℕ) → 1 ≤ tally p n → (h : ℕ) × (h < n) × (p h ≡ true)
tally_some p zero some = absurd (omega arith)
tally_some p (suc n) some =
    elim (cases_Bool (p n)) [
      | inl holds ↦ (n, omega arith, holds)
      | inr fails ↦
          let fewer : 1 ≤ tally p n = omega (arith, rw fails at some) in
          let found = tally_some p n fewer in
          (found.0, omega arith, found.2)
    ]

-- two quorums share a host
pub quorums_meet : (s : Shape) (p q : ℕ → Bool) → HasQuorum s p → HasQuorum s q → (h : ℕ) × (h < host_count s) × (p h ≡ true) × (q h ≡ true)
quorums_meet s p q a b =
    let both = tally_both p q (host_count s) in
    let shared = tally_some (λ h. p h && q h) (host_count s) (omega arith) in
    let parts = and_parts (p shared.0) (q shared.0) shared.2 in
    (shared.0, shared.1, parts.0, parts.1)

not_split : (a : Bool) → cond a 1 0 + cond (not a) 1 0 ≡ 1
not_split true = refl
not_split false = refl

-- each host has a property or not
pub tally_not : (p : ℕ → Bool) (n : ℕ) → tally p n + tally (λ h. not (p h)) n ≡ n
tally_not p zero = omega arith
tally_not p (suc n) = omega (arith, not_split (p n), tally_not p n)

-- where at most f hosts are faulty, a quorum has a correct one
pub quorum_has_correct : (s : Shape) (p faulty : ℕ → Bool) → HasQuorum s p → tally faulty (host_count s) ≤ max_faults s → (h : ℕ) × (h < host_count s) × (p h ≡ true) × (not (faulty h) ≡ true)
quorum_has_correct s p faulty many few =
    quorums_meet s p (λ h. not (faulty h)) many (omega (arith, tally_not faulty (host_count s)))
