-- What holds of all members, and which of them is the first that fails.
use Rattle.std.proofs.Common.{◌≡◌, ℕ, zero, suc, ◌+◌, ◌-◌, ◌<◌, ◌≤◌, Bool, true, false, ◌&&◌, not, List, [], ◌∷◌, length, get_or, map, Option, Some, None, slice_get, refl, sym, ap, ◌∙◌, inl, inr, arith}
use Rattle.std.specs.Prelude.{nat_lt, if◌then◌else◌}
use Rattle.std.specs.List.{list_all}
use Rattle.std.proofs.lemmas.List.{get_or-map, length-map}
use Rattle.std.proofs.Math.Nat.{eq-or-lt_of_le}
use Rattle.std.proofs.lemmas.Bool.{and_parts, eq-eqb, ne_eqb}
use Rattle.mb_parts.specs.Claims.{are_rising}
use Rattle.mb_cert.specs.declared.fault.Why.{Why}
use Rattle.mb_cert.specs.declared.fault.Why.TheVariants.{Few}
use Rattle.mb_cert.specs.declared.fault.CertFault.{CertFault}
use Rattle.mb_cert.specs.Faults.{rises_at, passes_at, IsFirstOf, IsFaultOf}

-- behind the first the host before it is asked
pub rises_behind : (hosts : List ℕ) (i : ℕ) → 0 < i → rises_at hosts i ≡ nat_lt (get_or hosts (i - 1) 0) (get_or hosts i 0)
rises_behind hosts zero above = absurd (omega (arith, above))
rises_behind hosts (suc i) above =
    let same : suc i - 1 ≡ i = omega arith in
    rw same refl

pub host_rises : {M : Type 0} (f : M → ℕ) (ms : List M) (i : ℕ) (d e : M) → 0 < i → i < length ms → nat_lt (f (get_or ms (i - 1) d)) (f (get_or ms i e)) ≡ rises_at (map f ms) i
host_rises f ms i d e above lt = rw (rises_behind (map f ms) i above, get_or-map f ms (i - 1) d 0 (omega (arith, lt)), get_or-map f ms i e 0 lt) refl

-- ---- all members

pub all_pass : {A : Type 0} (p : A → Bool) (l : List A) → ((i : ℕ) → i < length l → passes_at p l i ≡ true) → list_all p l ≡ true
all_pass p [] each = refl
all_pass p (x ∷ l) each = rw (each 0 (omega arith)) (all_pass p l (λ i lt. each (suc i) (omega (arith, lt))))

pub each_passes : {A : Type 0} (p : A → Bool) (l : List A) → list_all p l ≡ true → (i : ℕ) → passes_at p l i ≡ true
each_passes p [] all i = refl
each_passes p (x ∷ l) all zero = (and_parts _ _ all).0
each_passes p (x ∷ l) all (suc i) = each_passes p l (and_parts _ _ all).1 i

-- The hosts behind the first rise where all do.
later : (h : ℕ) (hosts : List ℕ) → ((i : ℕ) → i < length (h ∷ hosts) → rises_at (h ∷ hosts) i ≡ true) → (i : ℕ) → i < length hosts → rises_at hosts i ≡ true
later h hosts each zero lt = refl
later h hosts each (suc i) lt = each (suc (suc i)) (omega (arith, lt))

pub all_rise : (hosts : List ℕ) → ((i : ℕ) → i < length hosts → rises_at hosts i ≡ true) → are_rising hosts ≡ true
all_rise [] each = refl
all_rise (h ∷ []) each = refl
all_rise (h ∷ k ∷ hosts) each = rw (each 1 (omega arith)) (all_rise (k ∷ hosts) (later h (k ∷ hosts) each))

pub each_rises : (hosts : List ℕ) → are_rising hosts ≡ true → (i : ℕ) → i < length hosts → rises_at hosts i ≡ true
each_rises hosts rise zero lt = refl
each_rises [] rise (suc i) lt = absurd (omega (arith, lt))
each_rises (h ∷ []) rise (suc i) lt = absurd (omega (arith, lt))
each_rises (h ∷ k ∷ hosts) rise (suc zero) lt = (and_parts _ _ rise).0
each_rises (h ∷ k ∷ hosts) rise (suc (suc i)) lt = each_rises (k ∷ hosts) (and_parts _ _ rise).1 (suc i) (omega (arith, lt))

-- the same of what members are mapped to
module _ {M : Type 0} (ms : List M) where
  pub all_hosts_rise : (host_of : M → ℕ) → ((i : ℕ) → i < length ms → rises_at (map host_of ms) i ≡ true) → are_rising (map host_of ms) ≡ true
  all_hosts_rise host_of each =
      let count : length (map host_of ms) ≡ length ms = length-map ms host_of in
      all_rise (map host_of ms) (λ i lt. each i (omega (arith, lt, count)))

  pub each_host_rises : (host_of : M → ℕ) → are_rising (map host_of ms) ≡ true → (i : ℕ) → i < length ms → rises_at (map host_of ms) i ≡ true
  each_host_rises host_of rise i lt =
      let count : length (map host_of ms) ≡ length ms = length-map ms host_of in
      each_rises (map host_of ms) rise i (omega (arith, lt, count))

  pub all_mapped_pass : {B : Type 0} (f : M → B) (p : B → Bool) → ((i : ℕ) → i < length ms → passes_at p (map f ms) i ≡ true) → list_all p (map f ms) ≡ true
  all_mapped_pass f p each =
      let count : length (map f ms) ≡ length ms = length-map ms f in
      all_pass p (map f ms) (λ i lt. each i (omega (arith, lt, count)))

-- ---- the reason for which one fails, by its tests

pub where_none : (a b : Bool) (x y : Why) → (if not a then Some x else if not b then Some y else None) ≡ None → (a ≡ true) × (b ≡ true)
where_none true true x y none = (refl, refl)
where_none true false x y none = absurd cc
where_none false b x y none = absurd cc

pub where_none-three : (a b c : Bool) (x y z : Why) → (if not a then Some x else if not b then Some y else if not c then Some z else None) ≡ None
    → (a ≡ true) × (b ≡ true) × (c ≡ true)
where_none-three true true true x y z none = (refl, refl, refl)
where_none-three true true false x y z none = absurd cc
where_none-three true false c x y z none = absurd cc
where_none-three false b c x y z none = absurd cc

-- What would contradict isn't so.
pub isnt : (b : Bool) → (b ≡ true → ⊥) → b ≡ false
isnt true = λ no. absurd (no refl)
isnt false = λ no. refl

pub none-some : {A : Type 0} (x : A) → None ≡ Some x → ⊥
none-some x e = absurd cc

-- One more that is none.
pub one_more : (reason : ℕ → Option Why) (n : ℕ) → ((i : ℕ) → i < n → reason i ≡ None) → reason n ≡ None → (i : ℕ) → i < n + 1 → reason i ≡ None
one_more reason n before here i lt = elim (eq-or-lt_of_le {n = i} {m = n} (omega (arith, lt))) [ inl same ↦ ap reason same ∙ here | inr less ↦ before i less ]

-- ---- faults

-- Where the count is another, the fault tells it.
pub few : (asked count : ℕ) (reason : ℕ → Option Why) → (count ≡ asked → ⊥) → IsFaultOf asked count reason (record { index = count; why = Few })
few asked count reason other = rw (ne_eqb count asked other) refl

-- Where it is the one asked for, the fault is the first member's that fails.
pub found : (asked count : ℕ) (reason : ℕ → Option Why) (fault : CertFault) → count ≡ asked → IsFirstOf count reason fault → IsFaultOf asked count reason fault
found asked count reason fault same first = rw (eq-eqb count asked same) first
