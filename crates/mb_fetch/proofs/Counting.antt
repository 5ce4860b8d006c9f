-- How many parts are held: as many as there are different ones among the snapshots.
use Rattle.std.proofs.Common.{◌≡◌, ℕ, suc, ◌+◌, ◌<◌, ◌≤◌, Bool, true, false, ◌||◌, cond, List, [], ◌∷◌, map, length, set, get_or, Option, Some, None, is_some, inl, inr, refl, sym, ap, ◌∙◌, subst, arith, get_or-set_same, get_or-set_other}
use Rattle.std.specs.Prelude.{◌==◌, if◌then◌else◌, count_by}
use Rattle.std.proofs.lemmas.Bool.{cases_Bool, cases_eq, cases_lt, eq-eqb, ne_eqb, or_left, or_right, false_from_ne_true}
use Rattle.std.proofs.lemmas.List.{get_or_past}
use Rattle.std.proofs.lemmas.List.Sums.{sum_by-cons, sum_by-set}
use Rattle.slab.specs.Slab.{Slab, get, slab_len}
use Rattle.mb_base.specs.Shapes.{Bytes}
use Rattle.mb_usig.specs.Tags.{same_bytes}
use Rattle.mb_usig.proofs.Laws.{same_bytes-true, true-same_bytes}
use Rattle.mb_fetch.specs.declared.shelved.HashedPart.{HashedPart}
use Rattle.mb_fetch.specs.declared.shelved.Keyed.{Keyed}
use Rattle.mb_fetch.specs.Snapshots.{comes_in, different, all_parts}
use Rattle.mb_fetch.specs.Shelves.{part_under, has_key, all_keys, bytes_under, seen, HoldsOnce, IsShelf}
use Rattle.mb_fetch.proofs.ByKey.{there, same_some, length_all_keys, all_parts_seen}

-- how many different keys there are: each is counted where it does not come again
abbrev pub different_keys : List ℕ → ℕ
different_keys [] = 0
different_keys (k ∷ ks) = (if has_key k ks then 0 else 1) + different_keys ks

few_different : (keys : List ℕ) → different_keys keys ≤ length keys
few_different [] = omega arith
few_different (k ∷ ks) = let rest = few_different ks in elim (cases_Bool (has_key k ks)) [
  | inl again ↦ rw again (omega (arith, rest))
  | inr new ↦ rw new (omega (arith, rest))
]

-- ---- slots with a value

module _ {T : Type 0} where
  abbrev has_value : Option T → ℕ
  has_value o = cond (is_some o) 1 0

  no_values : (slots : List (Option T)) → ((key : ℕ) → is_some (get_or slots key None) ≡ false) → count_by is_some slots ≡ 0
  no_values [] none = refl
  no_values (o ∷ os) none =
      let first : has_value o ≡ 0 = ap (λ (b : Bool). cond b 1 0) (none 0) in
      let rest = no_values os (λ key. none (suc key)) in
      let both = sum_by-cons has_value o os in
      omega (arith, first, rest, both)

  within : (slots : List (Option T)) (key : ℕ) → is_some (get_or slots key None) ≡ true → key < length slots
  within slots key there = elim (cases_lt key (length slots)) [
    | inl lt ↦ lt
    | inr past ↦ let none = ap (λ (o : Option T). is_some o) (get_or_past slots key None past) in absurd cc
  ]

  without : (slots : List (Option T)) (key : ℕ) → is_some (get_or slots key None) ≡ true → count_by is_some slots ≡ 1 + count_by is_some (set slots key None)
  without slots key there =
      let both = sum_by-set has_value slots key None None (within slots key there) in
      let one : has_value (get_or slots key None) ≡ 1 = ap (λ (b : Bool). cond b 1 0) there in
      omega (arith, both, one)

  -- as many slots have a value as there are different keys, where these are the keys of the values
  pub count_keys : (keys : List ℕ) (slots : List (Option T)) → ((key : ℕ) → is_some (get_or slots key None) ≡ has_key key keys) → count_by is_some slots ≡ different_keys keys
  count_keys [] slots are = no_values slots are
  count_keys (k ∷ ks) slots are = elim (cases_Bool (has_key k ks)) [
    | inl again ↦ let rest = count_keys ks slots (λ key. are key ∙ known key again) in rw again (omega (arith, rest))
    | inr new ↦ rw new (without slots k there ∙ ap (λ (n : ℕ). 1 + n) (count_keys ks (set slots k None) (λ key. others key new)))
  ] where
    there : is_some (get_or slots k None) ≡ true
    there = are k ∙ or_left (k == k) (has_key k ks) (eq-eqb k k refl)

    known : (key : ℕ) → has_key k ks ≡ true → (k == key || has_key key ks) ≡ has_key key ks
    known key again = elim (cases_eq k key) [
      | inl same ↦
          let here : has_key key ks ≡ true = subst (λ n. has_key n ks ≡ true) same again in
          rw here (or_right (k == key) true refl)
      | inr other ↦ rw (ne_eqb k key other) refl
    ]

    others : (key : ℕ) → has_key k ks ≡ false → is_some (get_or (set slots k None) key None) ≡ has_key key ks
    others key new = elim (cases_eq key k) [
      | inl same ↦
          let gone : get_or (set slots k None) k None ≡ None = get_or-set_same slots k None None (within slots k there) in
          subst (λ n. is_some (get_or (set slots k None) n None) ≡ has_key n ks) (sym same) (ap (λ (o : Option T). is_some o) gone ∙ sym new)
      | inr other ↦
          let kept : get_or (set slots k None) key None ≡ get_or slots key None = get_or-set_other slots k key None None other in
          let apart : (k == key) ≡ false = ne_eqb k key (λ e. other (sym e)) in
          ap (λ (o : Option T). is_some o) kept ∙ (are key ∙ rw apart refl)
    ]

-- ---- different parts

module _ (p : ℕ → Option Bytes) (once : HoldsOnce p) where
  same_key : (x k : ℕ) → is_some (p x) ≡ true → is_some (p k) ≡ true → same_bytes (bytes_under p x) (bytes_under p k) ≡ (x == k)
  same_key x k ex ek = elim (cases_eq x k) [
    | inl same ↦ true-same_bytes (bytes_under p x) (bytes_under p k) (ap (bytes_under p) same) ∙ sym (eq-eqb x k same)
    | inr other ↦
        false_from_ne_true (same_bytes (bytes_under p x) (bytes_under p k)) (λ e.
        let equal : bytes_under p x ≡ bytes_under p k = same_bytes-true (bytes_under p x) (bytes_under p k) e in
        other (once x k (bytes_under p k) (there (p x) ex ∙ ap (λ (l : Bytes). Some l) equal) (there (p k) ek)))
        ∙ sym (ne_eqb x k other)
  ]

  comes_by_key : (k : ℕ) → is_some (p k) ≡ true → (xs : List ℕ) → ((key : ℕ) → has_key key xs ≡ true → is_some (p key) ≡ true) → comes_in (bytes_under p k) (map (bytes_under p) xs) ≡ has_key k xs
  comes_by_key k ek [] held = refl
  comes_by_key k ek (x ∷ xs) held =
      ap (λ (b : Bool). b || comes_in (bytes_under p k) (map (bytes_under p) xs)) (same_key x k (held x (or_left (x == x) (has_key x xs) (eq-eqb x x refl))) ek)
      ∙ ap (λ (b : Bool). x == k || b) (comes_by_key k ek xs (λ key e. held key (or_right (x == key) (has_key key xs) e)))

  different_by_key : (keys : List ℕ) → ((key : ℕ) → has_key key keys ≡ true → is_some (p key) ≡ true) → different (map (bytes_under p) keys) ≡ different_keys keys
  different_by_key [] held = refl
  different_by_key (k ∷ ks) held =
      ap (λ (b : Bool). (if b then 0 else 1) + different (map (bytes_under p) ks)) (comes_by_key k (held k (or_left (k == k) (has_key k ks) (eq-eqb k k refl))) ks (λ key e. held key (or_right (k == key) (has_key key ks) e)))
      ∙ ap (λ (n : ℕ). (if has_key k ks then 0 else 1) + n) (different_by_key ks (λ key e. held key (or_right (k == key) (has_key key ks) e)))

-- ---- of a shelf

module _ (keyed : List Keyed) (held : Slab HashedPart) (is : IsShelf keyed (part_under held)) where
  held_by_key : slab_len held ≡ different_keys (all_keys keyed)
  held_by_key = count_keys (all_keys keyed) held.slots (λ key. same_some (λ (s : HashedPart). s.bytes) (get held key) ∙ is.used key)

  -- As many are held as there are different ones.
  pub held_once : slab_len held ≡ different (all_parts (seen (part_under held) keyed))
  held_once =
      held_by_key
      ∙ (sym (different_by_key (part_under held) is.once (all_keys keyed) (λ key e. is.used key ∙ e))
      ∙ ap different (sym (all_parts_seen (part_under held) keyed)))

  pub few_held : slab_len held ≤ 195
  few_held =
      let few = is.few in
      let all = length_all_keys keyed is.whole in
      let keys = few_different (all_keys keyed) in
      let same = held_by_key in
      omega (arith, few, all, keys, same)
