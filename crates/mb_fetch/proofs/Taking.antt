-- Fetched parts with one more.
use Rattle.std.proofs.Common.{◌≡◌, ◌≢◌, ℕ, zero, suc, replicate, ◌<◌, true, false, List, [], ◌∷◌, length-set, set, Option, Some, None, inl, inr, refl, sym, ap, ◌∙◌, subst, arith, slice_get, get_or, unwrap_or}
use Rattle.std.specs.Option.{option_or}
use Rattle.std.proofs.lemmas.Bool.{cases_eq}
use Rattle.std.proofs.lemmas.List.{get_or-set_same, get_or-set_other}
use Rattle.mb_base.specs.Limits.{part_count}
use Rattle.mb_base.specs.Shapes.{Bytes}
use Rattle.mb_model.specs.PlainChecks.{string_at}
use Rattle.mb_fetch.specs.Fetched.{Fetched, IsFetched, IsCertified, part_at}
use Rattle.mb_fetch.specs.Parts.{part_from}
use Rattle.mb_fetch.proofs.Places.{got, get-set_same, get-set_other, or_none, from_here, from_elsewhere}

abbrev pub taken : Fetched → ℕ → Bytes → Fetched
taken t i part = record { pos = t.pos; digest = t.digest; parts = set t.parts i part; held = set t.held i true }

module _ (t : Fetched) (is : IsFetched t) (i : ℕ) (part : Bytes) where
  pub taken_here : i < part_count → (j : ℕ) → j ≡ i → part_at (taken t i part) j ≡ Some part
  taken_here lt j same =
      let width = is.width in
      let places = is.places in
      rw (same, get_or-set_same t.held i true false (omega (arith, lt, places))) (get-set_same t.parts i part (omega (arith, lt, width)))

  pub taken_elsewhere : (j : ℕ) → j ≢ i → part_at (taken t i part) j ≡ part_at t j
  taken_elsewhere j other = rw (get_or-set_other t.held i j true false other, get-set_other t.parts i j part other) refl

  pub taken_finds : i < part_count → get_or t.held i false ≡ false → (j : ℕ) → part_at (taken t i part) j ≡ option_or (part_at t j) (part_from i (part ∷ []) j)
  taken_finds lt free j = elim (cases_eq j i) [
    | inl same ↦
        let none : part_at t j ≡ None = rw (same, free) refl in
        taken_here lt j same ∙ rw (none, from_here i j part [] same) refl
    | inr other ↦ taken_elsewhere j other ∙ rw (from_elsewhere i j part other) (sym (or_none (part_at t j)))
  ]

  pub held_finds : i < part_count → get_or t.held i false ≡ true → (j : ℕ) → part_at t j ≡ option_or (part_at t j) (part_from i (part ∷ []) j)
  held_finds lt full j = elim (cases_eq j i) [
    | inl same ↦
        let width = is.width in
        let some : part_at t j ≡ Some (unwrap_or (slice_get t.parts i) []) = rw (same, full) (got t.parts i [] (omega (arith, lt, width))) in
        rw some refl
    | inr other ↦ rw (from_elsewhere i j part other) (sym (or_none (part_at t j)))
  ]

  pub taken_is : i < part_count → IsCertified t.pos t.digest i part → IsFetched (taken t i part)
  taken_is lt certified = record {
    width = length-set t.parts i part ∙ is.width;
    places = length-set t.held i true ∙ is.places;
    certified = λ j x e. elim (cases_eq j i) [
      | inl same ↦ certified_as j x same (sym (taken_here lt j same) ∙ e)
      | inr other ↦ is.certified j x (sym (taken_elsewhere j other) ∙ e)
    ];
    empty = λ j e. elim (cases_eq j i) [
      | inl same ↦ let some = sym (taken_here lt j same) ∙ e in absurd cc
      | inr other ↦ ap (λ (o : Option Bytes). unwrap_or o []) (get-set_other t.parts i j part other) ∙ is.empty j (sym (taken_elsewhere j other) ∙ e)
    ];
  } where
    certified_as : (j : ℕ) (x : Bytes) → j ≡ i → Some part ≡ Some x → IsCertified t.pos t.digest j x
    certified_as j x same e = subst (λ k. IsCertified t.pos t.digest k x) (sym same) (subst (λ y. IsCertified t.pos t.digest i y) (ap (λ (o : Option Bytes). unwrap_or o []) e) certified)

-- ---- before any came

all_free : (n i : ℕ) → get_or (replicate n false) i false ≡ false
all_free zero i = refl
all_free (suc n) zero = refl
all_free (suc n) (suc i) = all_free n i

all_empty : (n i : ℕ) → string_at (replicate n []) i ≡ []
all_empty zero i = refl
all_empty (suc n) zero = refl
all_empty (suc n) (suc i) = all_empty n i

-- with these parts, of which none is held
abbrev pub fetched_of : ℕ → Bytes → List Bytes → Fetched
fetched_of pos digest parts = record { pos = pos; digest = digest; parts = parts; held = replicate part_count false }

abbrev pub none_of : ℕ → Bytes → Fetched
none_of pos digest = fetched_of pos digest (replicate part_count [])

pub none_found : (pos : ℕ) (digest : Bytes) (i : ℕ) → part_at (none_of pos digest) i ≡ None
none_found pos digest i = rw (all_free part_count i) refl

pub none_is : (pos : ℕ) (digest : Bytes) → IsFetched (none_of pos digest)
none_is pos digest = record {
  width = refl;
  places = refl;
  certified = λ i part e. let none = none_found pos digest i in absurd cc;
  empty = λ i e. all_empty part_count i;
}
