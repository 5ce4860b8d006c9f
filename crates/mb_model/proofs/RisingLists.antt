-- Lists that are gathered by rising number: of each number from one on what is found for it. What is picked out of them still rises.
use Rattle.std.proofs.Common.{◌≡◌, ℕ, zero, suc, ◌+◌, ◌≤◌, Bool, true, List, [], ◌∷◌, refl, sym, subst, inl, inr, arith, Option, Some}
use Rattle.std.specs.Prelude.{map, take, filter, filter_map}
use Rattle.std.specs.List.{range_with_len, list_all}
use Rattle.std.proofs.lemmas.Bool.{cases_Bool, lt-ltb}
use Rattle.mb_parts.specs.Claims.{are_rising}
use Rattle.mb_model.proofs.Options.{option_cases}

module _ {A : Type 0} (key : A → ℕ) (P : A → Type 0) where
  -- Each has the property, and their numbers rise from this one on.
  abbrev pub RiseFrom : ℕ → List A → Type 0
  RiseFrom n [] = Unit {0}
  RiseFrom n (x ∷ l) = (n ≤ key x) × P x × RiseFrom (key x + 1) l

  pub rise_lower : (n m : ℕ) (l : List A) → n ≤ m → RiseFrom m l → RiseFrom n l
  rise_lower n m [] le r = tt
  rise_lower n m (x ∷ l) le r = let above : m ≤ key x = r.0 in (omega (arith, le, above), r.1, r.2)

  -- what is found for each number from one on
  pub rise_found : (f : ℕ → Option A) → ((h : ℕ) (x : A) → f h ≡ Some x → (key x ≡ h) × P x) → (n count : ℕ) → RiseFrom n (filter_map f (range_with_len n count))
  rise_found f is n zero = tt
  rise_found f is n (suc count) = elim (option_cases (f n)) [
    | inl none ↦ rw none (rise_lower n (n + 1) (filter_map f (range_with_len (n + 1) count)) (omega arith) (rise_found f is (n + 1) count))
    | inr (x, some) ↦
        let here = is n x some in
        let at : key x ≡ n = here.0 in
        rw some (omega (arith, at), here.1, subst (λ (k : ℕ). RiseFrom (k + 1) (filter_map f (range_with_len (n + 1) count))) (sym at) (rise_found f is (n + 1) count))
  ]

  pub rise_filter : (t : A → Bool) (n : ℕ) (l : List A) → RiseFrom n l → RiseFrom n (filter t l)
  rise_filter t n [] r = tt
  rise_filter t n (x ∷ l) r = elim (cases_Bool (t x)) [
    | inl stays ↦ rw stays (r.0, r.1, rise_filter t (key x + 1) l r.2)
    | inr goes ↦ let above : n ≤ key x = r.0 in rw goes (rise_lower n (key x + 1) (filter t l) (omega (arith, above)) (rise_filter t (key x + 1) l r.2))
  ]

  pub rise_take : (many n : ℕ) (l : List A) → RiseFrom n l → RiseFrom n (take many l)
  rise_take zero n l r = tt
  rise_take (suc many) n [] r = tt
  rise_take (suc many) n (x ∷ l) r = (r.0, r.1, rise_take many (key x + 1) l r.2)

  -- what follows of the property, for each
  pub rise_all : (t : A → Bool) → ((x : A) → P x → t x ≡ true) → (n : ℕ) (l : List A) → RiseFrom n l → list_all t l ≡ true
  rise_all t so n [] r = refl
  rise_all t so n (x ∷ l) r = rw (so x r.1) (rise_all t so (key x + 1) l r.2)

-- Members that are made of the list's rise.
pub rise_members : {A B : Type 0} (P : A → Type 0) (f : A → B) (g : B → ℕ) (n : ℕ) (l : List A) → RiseFrom (λ x. g (f x)) P n l → are_rising (map g (map f l)) ≡ true
rise_members P f g n [] r = refl
rise_members P f g n (x ∷ []) r = refl
rise_members P f g n (x ∷ y ∷ l) r =
    let above : g (f x) + 1 ≤ g (f y) = r.2.0 in
    rw (lt-ltb (g (f x)) (g (f y)) (omega (arith, above))) (rise_members P f g (g (f x) + 1) (y ∷ l) r.2)

-- a test of what is made of them
pub rise_tests : {A B : Type 0} (key : A → ℕ) (P : A → Type 0) (f : A → B) (t : B → Bool) → ((x : A) → P x → t (f x) ≡ true) → (n : ℕ) (l : List A) → RiseFrom key P n l → list_all t (map f l) ≡ true
rise_tests key P f t so n [] r = refl
rise_tests key P f t so n (x ∷ l) r = rw (so x r.1) (rise_tests key P f t so (key x + 1) l r.2)

-- and of what is made of those
pub rise_tests_made : {A B C : Type 0} (key : A → ℕ) (P : A → Type 0) (f : A → B) (g : B → C) (t : C → Bool) → ((x : A) → P x → t (g (f x)) ≡ true) → (n : ℕ) (l : List A) → RiseFrom key P n l → list_all t (map g (map f l)) ≡ true
rise_tests_made key P f g t so n [] r = refl
rise_tests_made key P f g t so n (x ∷ l) r = rw (so x r.1) (rise_tests_made key P f g t so (key x + 1) l r.2)

-- of those that pass a test, the property is that too
pub rise_passed : {A : Type 0} (key : A → ℕ) (P : A → Type 0) (t : A → Bool) (n : ℕ) (l : List A) → RiseFrom key P n l → RiseFrom key (λ x. P x × (t x ≡ true)) n (filter t l)
rise_passed key P t n [] r = tt
rise_passed key P t n (x ∷ l) r = elim (cases_Bool (t x)) [
  | inl stays ↦ rw stays (r.0, (r.1, stays), rise_passed key P t (key x + 1) l r.2)
  | inr goes ↦ let above : n ≤ key x = r.0 in rw goes (rise_lower key (λ y. P y × (t y ≡ true)) n (key x + 1) (filter t l) (omega (arith, above)) (rise_passed key P t (key x + 1) l r.2))
]
