-- A list of snapshots, with one more and with fewer.
use Rattle.std.proofs.Common.{◌≡◌, ℕ, ◌<◌, ◌≤◌, Bool, true, false, List, [], ◌∷◌, ◌++◌, map, Option, Some, None, option_map, inl, inr, refl, sym, ap, ◌∙◌, subst, arith}
use Rattle.std.specs.Prelude.{nat_le, find, ◌==◌}
use Rattle.std.specs.List.{filter, AllByRecursion}
use Rattle.std.proofs.lemmas.Bool.{cases_Bool, cases_eq, cases_lt, eq-eqb, ne_eqb}
use Rattle.mb_base.specs.Shapes.{Bytes}
use Rattle.mb_fetch.specs.declared.shelved.Keyed.{Keyed}
use Rattle.mb_fetch.specs.Snapshots.{Snapshot, snapshot, parts_at, AllAbove, IsRising, Represents, StandsWith, StandsFrom}
use Rattle.mb_fetch.specs.Shelves.{bytes_under, seen_one, seen}

abbrev is_at : ℕ → Snapshot → Bool
is_at pos s = s.pos == pos

abbrev is_from : ℕ → Snapshot → Bool
is_from low s = nat_le low s.pos

-- ---- none, and what a table that stands for a search answers

pub none_stands : (shelf : List Snapshot) → shelf ≡ [] → Represents shelf (λ pos. None)
none_stands shelf e = subst (λ l. Represents l (λ pos. None)) (sym e) (record { rising = tt; finds = λ pos. refl })

-- ---- one more

-- Those of a shelf are below a position, where none is kept of it or of one above.
abbrev AllBelow : ℕ → List Snapshot → Type 0
AllBelow pos shelf = AllByRecursion (λ s. s.pos < pos) shelf

found_first : (s : Snapshot) (shelf : List Snapshot) → parts_at (s ∷ shelf) s.pos ≡ Some s.parts
found_first s shelf = rw (eq-eqb s.pos s.pos refl) refl

none_behind : (pos : ℕ) (s : Snapshot) (shelf : List Snapshot) → ((other : ℕ) → pos ≤ other → parts_at (s ∷ shelf) other ≡ None) → (other : ℕ) → pos ≤ other → parts_at shelf other ≡ None
none_behind pos s shelf none other le = elim (cases_Bool (s.pos == other)) [
  | inl here ↦ let e = none other le in absurd (some_none (rw here at e))
  | inr not_so ↦ rw not_so at (none other le)
] where
  some_none : {A : Type 0} {x : A} → Some x ≡ None → ⊥
  some_none e = absurd cc

below : (pos : ℕ) (shelf : List Snapshot) → ((other : ℕ) → pos ≤ other → parts_at shelf other ≡ None) → AllBelow pos shelf
below pos [] none = tt
below pos (s ∷ shelf) none = elim (cases_lt s.pos pos) [
  | inl lt ↦ (lt, below pos shelf (none_behind pos s shelf none))
  | inr ge ↦ let e = sym (found_first s shelf) ∙ none s.pos ge in absurd cc
]

found_behind : (pos : ℕ) (shelf : List Snapshot) (s : Snapshot) → s.pos ≡ pos → AllBelow pos shelf → find (is_at pos) (shelf ++ s ∷ []) ≡ Some s
found_behind pos [] s same all = rw (eq-eqb s.pos pos same) refl
found_behind pos (x ∷ xs) s same all =
    let lower = all.0 in
    rw (ne_eqb x.pos pos (λ e. absurd (omega (arith, lower, e)))) (found_behind pos xs s same all.1)

found_before : (p : ℕ) (shelf : List Snapshot) (s : Snapshot) → (s.pos == p) ≡ false → find (is_at p) (shelf ++ s ∷ []) ≡ find (is_at p) shelf
found_before p [] s other = rw other refl
found_before p (x ∷ xs) s other = elim (cases_Bool (x.pos == p)) [
  | inl so ↦ rw so refl
  | inr not_so ↦ rw not_so (found_before p xs s other)
]

above_more : (low pos : ℕ) (shelf : List Snapshot) (parts : List Bytes) → low < pos → AllAbove low shelf → AllAbove low (shelf ++ snapshot pos parts ∷ [])
above_more low pos [] parts lt all = (lt, tt)
above_more low pos (x ∷ xs) parts lt all = (all.0, above_more low pos xs parts lt all.1)

rising_more : (pos : ℕ) (shelf : List Snapshot) (parts : List Bytes) → AllBelow pos shelf → IsRising shelf → IsRising (shelf ++ snapshot pos parts ∷ [])
rising_more pos [] parts all rising = (tt, tt)
rising_more pos (x ∷ xs) parts all rising = (above_more x.pos pos xs parts all.0 rising.0, rising_more pos xs parts all.1 rising.1)

pub more_stands : (shelf : List Snapshot) (pos : ℕ) (parts : List Bytes) → ((other : ℕ) → pos ≤ other → parts_at shelf other ≡ None) → StandsWith shelf pos parts (shelf ++ snapshot pos parts ∷ [])
more_stands shelf pos parts none = λ search st. record {
  rising = rising_more pos shelf parts (below pos shelf none) st.rising;
  finds = λ p. elim (cases_eq pos p) [
    | inl same ↦
        ap (option_map (λ (s : Snapshot). s.parts)) (found_behind p shelf (snapshot pos parts) same (subst (λ n. AllBelow n shelf) same (below pos shelf none)))
        ∙ rw (eq-eqb pos p same) refl
    | inr other ↦
        ap (option_map (λ (s : Snapshot). s.parts)) (found_before p shelf (snapshot pos parts) (ne_eqb pos p other))
        ∙ (st.finds p ∙ rw (ne_eqb pos p other) refl)
  ];
}

-- ---- fewer

module _ (low : ℕ) where
  found_kept : (p : ℕ) → nat_le low p ≡ true → (shelf : List Snapshot) → find (is_at p) (filter (is_from low) shelf) ≡ find (is_at p) shelf
  found_kept p le [] = refl
  found_kept p le (x ∷ xs) = elim (cases_eq x.pos p) [
    | inl same ↦ let here : nat_le low x.pos ≡ true = ap (nat_le low) same ∙ le in rw (here, eq-eqb x.pos p same) refl
    | inr other ↦ elim (cases_Bool (nat_le low x.pos)) [
      | inl so ↦ rw (so, ne_eqb x.pos p other) (found_kept p le xs)
      | inr not_so ↦ rw (not_so, ne_eqb x.pos p other) (found_kept p le xs)
    ]
  ]

  found_gone : (p : ℕ) → nat_le low p ≡ false → (shelf : List Snapshot) → find (is_at p) (filter (is_from low) shelf) ≡ None
  found_gone p gt [] = refl
  found_gone p gt (x ∷ xs) = elim (cases_eq x.pos p) [
    | inl same ↦ let here : nat_le low x.pos ≡ false = ap (nat_le low) same ∙ gt in rw here (found_gone p gt xs)
    | inr other ↦ elim (cases_Bool (nat_le low x.pos)) [
      | inl so ↦ rw (so, ne_eqb x.pos p other) (found_gone p gt xs)
      | inr not_so ↦ rw not_so (found_gone p gt xs)
    ]
  ]

  above_fewer : (pos : ℕ) (shelf : List Snapshot) → AllAbove pos shelf → AllAbove pos (filter (is_from low) shelf)
  above_fewer pos [] all = tt
  above_fewer pos (x ∷ xs) all = elim (cases_Bool (nat_le low x.pos)) [
    | inl so ↦ rw so (all.0, above_fewer pos xs all.1)
    | inr not_so ↦ rw not_so (above_fewer pos xs all.1)
  ]

  rising_fewer : (shelf : List Snapshot) → IsRising shelf → IsRising (filter (is_from low) shelf)
  rising_fewer [] rising = tt
  rising_fewer (x ∷ xs) rising = elim (cases_Bool (nat_le low x.pos)) [
    | inl so ↦ rw so (above_fewer x.pos xs rising.0, rising_fewer xs rising.1)
    | inr not_so ↦ rw not_so (rising_fewer xs rising.1)
  ]

  pub fewer_stands : (shelf : List Snapshot) → StandsFrom shelf low (filter (λ s. nat_le low s.pos) shelf)
  fewer_stands shelf = λ search st. record {
    rising = rising_fewer shelf st.rising;
    finds = λ p. elim (cases_Bool (nat_le low p)) [
      | inl so ↦ ap (option_map (λ (s : Snapshot). s.parts)) (found_kept p so shelf) ∙ (st.finds p ∙ rw so refl)
      | inr not_so ↦ ap (option_map (λ (s : Snapshot). s.parts)) (found_gone p not_so shelf) ∙ rw not_so refl
    ];
  }

-- ---- by keys

module _ (parts : ℕ → Option Bytes) where
  -- the snapshot of a position
  pub found_by_key : (pos : ℕ) (keyed : List Keyed) → parts_at (seen parts keyed) pos ≡ option_map (λ k. map (bytes_under parts) k.keys.items) (find (λ k. k.pos == pos) keyed)
  found_by_key pos [] = refl
  found_by_key pos (k ∷ ks) = elim (cases_Bool (k.pos == pos)) [
    | inl so ↦ rw so refl
    | inr not_so ↦ rw not_so (found_by_key pos ks)
  ]

  pub seen_fewer : (low : ℕ) (keyed : List Keyed) → seen parts (filter (λ k. nat_le low k.pos) keyed) ≡ filter (λ s. nat_le low s.pos) (seen parts keyed)
  seen_fewer low [] = refl
  seen_fewer low (k ∷ ks) = elim (cases_Bool (nat_le low k.pos)) [
    | inl so ↦ rw so (ap (λ (l : List Snapshot). seen_one parts k ∷ l) (seen_fewer low ks))
    | inr not_so ↦ rw not_so (seen_fewer low ks)
  ]
