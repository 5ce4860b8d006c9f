-- Parts under keys, with one more.
use Rattle.std.proofs.Common.{◌≡◌, ◌≢◌, ℕ, ◌≤◌, false, List, [], ◌∷◌, ◌++◌, map, length, Option, Some, None, inl, inr, refl, sym, ap, ◌∙◌, unwrap_or}
use Rattle.std.specs.Prelude.{◌==◌, option_map}
use Rattle.std.proofs.lemmas.Bool.{cases_eq, eq-eqb, or_left, or_right}
use Rattle.std.proofs.lemmas.List.{get_or_past, map_push}
use Rattle.slab.specs.Slab.{Slab, get, Updates}
use Rattle.mb_base.specs.Shapes.{Bytes}
use Rattle.mb_fetch.specs.declared.shelved.HashedPart.{HashedPart}
use Rattle.mb_fetch.specs.Shelves.{part_under, has_key, HoldsOnce, Extends, AddsOnly}
use Rattle.mb_fetch.proofs.ByKey.{has_key-append, still_hold}

-- the bytes of a part
pub bytes_there : (held : Slab HashedPart) (key : ℕ) (s : HashedPart) → get held key ≡ Some s → part_under held key ≡ Some s.bytes
bytes_there held key s e = ap (option_map (λ (x : HashedPart). x.bytes)) e

pub none_there : (held : Slab HashedPart) (key : ℕ) → get held key ≡ None → part_under held key ≡ None
none_there held key e = ap (option_map (λ (x : HashedPart). x.bytes)) e

pub part_there : (held : Slab HashedPart) (key : ℕ) (bytes : Bytes) → part_under held key ≡ Some bytes → (part : HashedPart) × (get held key ≡ Some part) × (part.bytes ≡ bytes)
part_there held key bytes e = by_slot (get held key) refl e where
  by_slot : (o : Option HashedPart) → get held key ≡ o → option_map (λ (x : HashedPart). x.bytes) o ≡ Some bytes → (part : HashedPart) × (get held key ≡ Some part) × (part.bytes ≡ bytes)
  by_slot None is e = absurd cc
  by_slot (Some part) is e = (part, is, ap (λ (o : Option Bytes). unwrap_or o []) e)

pub none_past : (held : Slab HashedPart) (key : ℕ) → length held.slots ≤ key → part_under held key ≡ None
none_past held key past = none_there held key (get_or_past held.slots key None past)

pub others_stay : (old new : Slab HashedPart) (key : ℕ) (slot : Option HashedPart) → Updates old new key slot → (other : ℕ) → other ≢ key → part_under new other ≡ part_under old other
others_stay old new key slot u other ne = ap (option_map (λ (x : HashedPart). x.bytes)) (u.others other ne)

-- ---- nothing more

pub extends_itself : (p : ℕ → Option Bytes) → Extends p p
extends_itself p key part e = e

pub adds_nothing : (p : ℕ → Option Bytes) (keys : List ℕ) → AddsOnly p p keys
adds_nothing p keys key part e = inl e

pub extends_both : (p q r : ℕ → Option Bytes) → Extends p q → Extends q r → Extends p r
extends_both p q r first second key part e = second key part (first key part e)

pub adds_both : (p q r : ℕ → Option Bytes) (xs ys : List ℕ) → AddsOnly p q xs → AddsOnly q r ys → AddsOnly p r (xs ++ ys)
adds_both p q r xs ys first second key part e = elim (second key part e) [
  | inr late ↦ inr (has_key-append key xs ys ∙ or_right (has_key key xs) (has_key key ys) late)
  | inl was ↦ elim (first key part was) [
    | inl early ↦ inl early
    | inr there ↦ inr (has_key-append key xs ys ∙ or_left (has_key key xs) (has_key key ys) there)
  ]
]

-- ---- one part more

module _ (p q : ℕ → Option Bytes) (key : ℕ) (part : Bytes) (free : p key ≡ None) (here : q key ≡ Some part) (others : (other : ℕ) → other ≢ key → q other ≡ p other) where
  pub one_extends : Extends p q
  one_extends k x e = elim (cases_eq k key) [
    | inl same ↦ let none : p k ≡ None = ap p same ∙ free in absurd cc
    | inr other ↦ others k other ∙ e
  ]

  pub one_added : AddsOnly p q (key ∷ [])
  one_added k x e = elim (cases_eq k key) [
    | inl same ↦ inr (or_left (key == k) false (eq-eqb key k (sym same)))
    | inr other ↦ inl (sym (others k other) ∙ e)
  ]

  pub one_once : HoldsOnce p → ((k : ℕ) → p k ≢ Some part) → HoldsOnce q
  one_once once new a b x ea eb = elim (cases_eq a key) [
    | inl left ↦ elim (cases_eq b key) [
      | inl right ↦ left ∙ sym right
      | inr other ↦
          let same : Some x ≡ Some part = sym ea ∙ (ap q left ∙ here) in
          absurd (new b (sym (others b other) ∙ (eb ∙ same)))
    ]
    | inr other ↦ elim (cases_eq b key) [
      | inl right ↦
          let same : Some x ≡ Some part = sym eb ∙ (ap q right ∙ here) in
          absurd (new a (sym (others a other) ∙ (ea ∙ same)))
      | inr neither ↦ once a b x (sym (others a other) ∙ ea) (sym (others b neither) ∙ eb)
    ]
  ]

-- one key more, behind those of the parts so far
pub keys_more : (p q : ℕ → Option Bytes) → Extends p q → (keys : List ℕ) (parts : List Bytes) (key : ℕ) (part : Bytes) → map p keys ≡ map (λ x. Some x) parts → q key ≡ Some part
    → map q (keys ++ key ∷ []) ≡ map (λ x. Some x) (parts ++ part ∷ [])
keys_more p q more keys parts key part e here =
    map_push q keys key
    ∙ (ap (λ (l : List (Option Bytes)). l ++ q key ∷ []) (still_hold p q more keys parts e)
    ∙ (ap (λ (o : Option Bytes). map (λ x. Some x) parts ++ o ∷ []) here
    ∙ sym (map_push (λ (x : Bytes). Some x) parts part)))
