-- Lists of places, and searches over a range of numbers.
use Rattle.std.proofs.Common.{◌≡◌, ◌≢◌, ℕ, zero, suc, ◌+◌, ◌-◌, ◌<◌, ◌≤◌, Bool, false, List, [], ◌∷◌, length, set, Option, Some, None, inl, inr, refl, sym, ap, ◌∙◌, subst, arith, slice_get, unwrap_or, map}
use Rattle.std.specs.Prelude.{find, filter_map}
use Rattle.std.specs.List.{range_with_len}
use Rattle.std.specs.Option.{option_or}
use Rattle.std.proofs.lemmas.Bool.{cases_Bool, cases_eq, cases_lt, lt-leb, le-leb}
use Rattle.mb_base.specs.Shapes.{Bytes}
use Rattle.mb_fetch.specs.Parts.{part_from}

module _ {A : Type 0} where
  pub got : (xs : List A) (i : ℕ) (d : A) → i < length xs → slice_get xs i ≡ Some (unwrap_or (slice_get xs i) d)
  got [] i d lt = absurd (omega arith)
  got (x ∷ xs) zero d lt = refl
  got (x ∷ xs) (suc i) d lt = got xs i d (omega (arith, lt))

  pub get-set_same : (xs : List A) (i : ℕ) (y : A) → i < length xs → slice_get (set xs i y) i ≡ Some y
  get-set_same [] i y lt = absurd (omega arith)
  get-set_same (x ∷ xs) zero y lt = refl
  get-set_same (x ∷ xs) (suc i) y lt = get-set_same xs i y (omega (arith, lt))

  pub get-set_other : (xs : List A) (i j : ℕ) (y : A) → j ≢ i → slice_get (set xs i y) j ≡ slice_get xs j
  get-set_other [] i j y ne = refl
  get-set_other (x ∷ xs) zero zero y ne = absurd (ne refl)
  get-set_other (x ∷ xs) zero (suc j) y ne = refl
  get-set_other (x ∷ xs) (suc i) zero y ne = refl
  get-set_other (x ∷ xs) (suc i) (suc j) y ne = get-set_other xs i j y (λ e. ne (ap suc e))

  pub or_none : (o : Option A) → option_or o None ≡ o
  or_none None = refl
  or_none (Some x) = refl

  pub or_both : (a b c : Option A) → option_or (option_or a b) c ≡ option_or a (option_or b c)
  or_both None b c = refl
  or_both (Some x) b c = refl

-- ---- the first of a range

pub find_same : (p q : ℕ → Bool) → ((i : ℕ) → p i ≡ q i) → (xs : List ℕ) → find p xs ≡ find q xs
find_same p q same [] = refl
find_same p q same (x ∷ xs) = rw (same x, find_same p q same xs) refl

pub none_in_range : (p : ℕ → Bool) (first n i : ℕ) → find p (range_with_len first n) ≡ None → first ≤ i → i < first + n → p i ≡ false
none_in_range p first zero i e low high = absurd (omega (arith, low, high))
none_in_range p first (suc n) i e low high = elim (cases_Bool (p first)) [
  | inl so ↦ let none = rw so at e in absurd cc
  | inr not_so ↦ elim (cases_eq i first) [
    | inl same ↦ subst (λ j. p j ≡ false) (sym same) not_so
    | inr other ↦ none_in_range p (first + 1) n i (rw not_so at e) (omega (arith, low, other)) (omega (arith, high))
  ]
]

-- ---- parts from a number on

pub from_nothing : (first j : ℕ) → part_from first [] j ≡ None
from_nothing first j = elim (cases_lt j first) [
  | inl lt ↦ rw (lt-leb first j lt) refl
  | inr ge ↦ rw (le-leb first j ge) refl
]

pub from_here : (first j : ℕ) (x : Bytes) (xs : List Bytes) → j ≡ first → part_from first (x ∷ xs) j ≡ Some x
from_here first j x xs same =
    let none : j - first ≡ 0 = omega (arith, same) in
    rw (le-leb first j (omega (arith, same)), none) refl

pub from_next : (first j : ℕ) (x : Bytes) (xs : List Bytes) → j ≢ first → part_from first (x ∷ xs) j ≡ part_from (first + 1) xs j
from_next first j x xs other = elim (cases_lt j first) [
  | inl lt ↦ rw (lt-leb first j lt, lt-leb (first + 1) j (omega (arith, lt))) refl
  | inr ge ↦
      let one : j - first ≡ suc (j - (first + 1)) = omega (arith, ge, other) in
      rw (le-leb first j ge, le-leb (first + 1) j (omega (arith, ge, other)), one) refl
]

pub from_elsewhere : (first j : ℕ) (x : Bytes) → j ≢ first → part_from first (x ∷ []) j ≡ None
from_elsewhere first j x other = from_next first j x [] other ∙ from_nothing (first + 1) j

pub from_below : (first j : ℕ) (xs : List Bytes) → j < first → part_from first xs j ≡ None
from_below first j xs lt = rw (lt-leb first j lt) refl

-- the first part, and those behind it
pub from_first : (first : ℕ) (x : Bytes) (xs : List Bytes) (j : ℕ) → option_or (part_from first (x ∷ []) j) (part_from (first + 1) xs j) ≡ part_from first (x ∷ xs) j
from_first first x xs j = elim (cases_eq j first) [
  | inl same ↦ rw (from_here first j x [] same, from_here first j x xs same) refl
  | inr other ↦ rw (from_elsewhere first j x other) (sym (from_next first j x xs other))
]

pub from_behind : (first j : ℕ) (x : Bytes) (xs : List Bytes) (part : Bytes) → part_from (first + 1) xs j ≡ Some part → part_from first (x ∷ xs) j ≡ Some part
from_behind first j x xs part e = elim (cases_eq j first) [
  | inl same ↦ let none = from_below (first + 1) j xs (omega (arith, same)) in absurd cc
  | inr other ↦ from_next first j x xs other ∙ e
]

-- ---- all places

pub all_listed : (xs : List Bytes) (first : ℕ) (search : ℕ → Option Bytes) → ((i : ℕ) → i < length xs → search (first + i) ≡ slice_get xs i) → xs ≡ filter_map search (range_with_len first (length xs))
all_listed [] first search h = refl
all_listed (x ∷ xs) first search h =
    let zero_more : first + 0 ≡ first = omega arith in
    let here : search first ≡ Some x = ap search (sym zero_more) ∙ h 0 (omega arith) in
    let rest : xs ≡ filter_map search (range_with_len (first + 1) (length xs)) = all_listed xs (first + 1) search (λ i lt. let more : (first + 1) + i ≡ first + suc i = omega arith in ap search more ∙ h (suc i) (omega (arith, lt))) in
    rw here (ap (λ (l : List Bytes). x ∷ l) rest)

pub all_placed : (xs : List Bytes) (first : ℕ) (f : ℕ → Bytes) → ((i : ℕ) → i < length xs → f (first + i) ≡ unwrap_or (slice_get xs i) []) → xs ≡ map f (range_with_len first (length xs))
all_placed [] first f h = refl
all_placed (x ∷ xs) first f h =
    let zero_more : first + 0 ≡ first = omega arith in
    let here : f first ≡ x = ap f (sym zero_more) ∙ h 0 (omega arith) in
    let rest : xs ≡ map f (range_with_len (first + 1) (length xs)) = all_placed xs (first + 1) f (λ i lt. let more : (first + 1) + i ≡ first + suc i = omega arith in ap f more ∙ h (suc i) (omega (arith, lt))) in
    ap (λ (y : Bytes). y ∷ xs) (sym here) ∙ ap (λ (l : List Bytes). f first ∷ l) rest
