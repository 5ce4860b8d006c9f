-- Keys of snapshots, and what parts under them are to the snapshots.
use Rattle.std.proofs.Common.{◌≡◌, ℕ, ◌+◌, ◌*◌, ◌<◌, Bool, true, false, ◌||◌, List, [], ◌∷◌, ◌++◌, map, length, drop, get_or, Option, Some, None, is_some, option_map, inl, inr, refl, sym, ap, ◌∙◌, arith, append-nil, unwrap_or}
use Rattle.std.specs.Prelude.{◌==◌}
use Rattle.std.specs.List.{filter, AllByRecursion}
use Rattle.std.proofs.lemmas.Bool.{cases_Bool, eq-eqb, eqb-true, or_left, or_right}
use Rattle.std.proofs.lemmas.List.{length-append, drop_more, map-append}
use Rattle.std.proofs.lemmas.List.Concat.{flat_map-append}
use Rattle.mb_base.specs.Limits.{part_count}
use Rattle.mb_base.specs.Shapes.{Bytes}
use Rattle.mb_fetch.specs.declared.shelved.Keyed.{Keyed}
use Rattle.mb_fetch.specs.Snapshots.{Snapshot, snapshot, all_parts}
use Rattle.mb_fetch.specs.Shelves.{has_key, all_keys, bytes_under, seen_one, seen, Extends}

-- ---- what is there

pub there : (o : Option Bytes) → is_some o ≡ true → o ≡ Some (unwrap_or o [])
there None e = absurd cc
there (Some x) e = refl

pub same_some : {A B : Type 0} (f : A → B) (o : Option A) → is_some o ≡ is_some (option_map f o)
same_some f None = refl
same_some f (Some x) = refl

-- ---- keys

pub has_key-append : (key : ℕ) (xs ys : List ℕ) → has_key key (xs ++ ys) ≡ (has_key key xs || has_key key ys)
has_key-append key [] ys = refl
has_key-append key (x ∷ xs) ys = elim (cases_Bool (x == key)) [
  | inl so ↦ rw so refl
  | inr not_so ↦ rw not_so (has_key-append key xs ys)
]

pub in_front : (key : ℕ) (xs ys : List ℕ) → has_key key xs ≡ true → has_key key (xs ++ ys) ≡ true
in_front key xs ys there = has_key-append key xs ys ∙ or_left (has_key key xs) (has_key key ys) there

pub behind : (key : ℕ) (xs ys : List ℕ) → has_key key ys ≡ true → has_key key (xs ++ ys) ≡ true
behind key xs ys there = has_key-append key xs ys ∙ or_right (has_key key xs) (has_key key ys) there

pub all_keys_more : (keyed : List Keyed) (k : Keyed) → all_keys (keyed ++ k ∷ []) ≡ all_keys keyed ++ k.keys.items
all_keys_more keyed k = flat_map-append (λ (x : Keyed). x.keys.items) keyed (k ∷ []) ∙ ap (λ (l : List ℕ). all_keys keyed ++ l) (append-nil k.keys.items)

in_either : (key : ℕ) (k : Keyed) (ks : List Keyed) (l : List ℕ) → (has_key key l ≡ true → has_key key (all_keys ks) ≡ true) → has_key key (k.keys.items ++ l) ≡ true → has_key key (all_keys (k ∷ ks)) ≡ true
in_either key k ks l rest there = by_place (has_key key k.keys.items) (sym (has_key-append key k.keys.items l) ∙ there) refl where
  by_place : (b : Bool) → (has_key key k.keys.items || has_key key l) ≡ true → has_key key k.keys.items ≡ b → has_key key (all_keys (k ∷ ks)) ≡ true
  by_place true either here = in_front key k.keys.items (all_keys ks) here
  by_place false either elsewhere = behind key k.keys.items (all_keys ks) (rest (rw elsewhere at either))

-- the keys of some of the snapshots are keys of all
pub keys_of_filtered : (p : Keyed → Bool) (key : ℕ) (keyed : List Keyed) → has_key key (all_keys (filter p keyed)) ≡ true → has_key key (all_keys keyed) ≡ true
keys_of_filtered p key [] there = there
keys_of_filtered p key (k ∷ ks) there = elim (cases_Bool (p k)) [
  | inl so ↦ in_either key k ks (all_keys (filter p ks)) (λ e. keys_of_filtered p key ks e) (rw so at there)
  | inr not_so ↦ behind key k.keys.items (all_keys ks) (keys_of_filtered p key ks (rw not_so at there))
]

-- the keys from the snapshot at an index on
pub first_used : (l : List Keyed) (i key : ℕ) (k : Keyed) → i < length l → k ≡ get_or l i k → has_key key (all_keys (drop i l)) ≡ (has_key key k.keys.items || has_key key (all_keys (drop (i + 1) l)))
first_used l i key k lt is =
    ap (λ (x : List Keyed). has_key key (all_keys x)) (drop_more l i k lt)
    ∙ (ap (λ (x : Keyed). has_key key (all_keys (x ∷ drop (i + 1) l))) (sym is)
    ∙ has_key-append key k.keys.items (all_keys (drop (i + 1) l)))

pub length_all_keys : (keyed : List Keyed) → AllByRecursion (λ k. length k.keys.items ≡ part_count) keyed → length (all_keys keyed) ≡ length keyed * part_count
length_all_keys [] all = refl
length_all_keys (k ∷ ks) all =
    let here = all.0 in
    let rest = length_all_keys ks all.1 in
    let both = length-append k.keys.items (all_keys ks) in
    omega (arith, here, rest, both)

-- ---- parts under keys

-- parts that are the same under these keys
module _ (p q : ℕ → Option Bytes) where
  abbrev pub AreSame : List ℕ → Type 0
  AreSame keys = (key : ℕ) → has_key key keys ≡ true → q key ≡ p key

  same_bytes_of : (keys : List ℕ) → AreSame keys → map (bytes_under q) keys ≡ map (bytes_under p) keys
  same_bytes_of [] same = refl
  same_bytes_of (k ∷ ks) same =
      ap (λ (o : Option Bytes). unwrap_or o [] ∷ map (bytes_under q) ks) (same k (or_left (k == k) (has_key k ks) (eq-eqb k k refl)))
      ∙ ap (λ (l : List Bytes). bytes_under p k ∷ l) (same_bytes_of ks (λ key there. same key (or_right (k == key) (has_key key ks) there)))

  pub same_seen : (keyed : List Keyed) → AreSame (all_keys keyed) → seen q keyed ≡ seen p keyed
  same_seen [] same = refl
  same_seen (k ∷ ks) same =
      ap (λ (l : List Bytes). snapshot k.pos l ∷ seen q ks) (same_bytes_of k.keys.items (λ key there. same key (in_front key k.keys.items (all_keys ks) there)))
      ∙ ap (λ (l : List Snapshot). seen_one p k ∷ l) (same_seen ks (λ key there. same key (behind key k.keys.items (all_keys ks) there)))

module _ (q : ℕ → Option Bytes) where
  first_of : (key : ℕ) (keys : List ℕ) (part : Bytes) (parts : List Bytes) → map q (key ∷ keys) ≡ map (λ p. Some p) (part ∷ parts) → q key ≡ Some part
  first_of key keys part parts e = ap (λ (l : List (Option Bytes)). get_or l 0 None) e

  others_of : (key : ℕ) (keys : List ℕ) (part : Bytes) (parts : List Bytes) → map q (key ∷ keys) ≡ map (λ p. Some p) (part ∷ parts) → map q keys ≡ map (λ p. Some p) parts
  others_of key keys part parts e = ap (λ (l : List (Option Bytes)). drop 1 l) e

  -- The parts under these keys are these.
  pub keys_hold : (keys : List ℕ) (parts : List Bytes) → map q keys ≡ map (λ p. Some p) parts → map (bytes_under q) keys ≡ parts
  keys_hold [] [] e = refl
  keys_hold [] (part ∷ parts) e = absurd cc
  keys_hold (k ∷ ks) [] e = absurd cc
  keys_hold (k ∷ ks) (part ∷ parts) e =
      ap (λ (o : Option Bytes). unwrap_or o [] ∷ map (bytes_under q) ks) (first_of k ks part parts e)
      ∙ ap (λ (l : List Bytes). part ∷ l) (keys_hold ks parts (others_of k ks part parts e))

  -- There is a part under each.
  pub key_holds : (keys : List ℕ) (parts : List Bytes) → map q keys ≡ map (λ p. Some p) parts → (key : ℕ) → has_key key keys ≡ true → is_some (q key) ≡ true
  key_holds [] parts e key there = absurd cc
  key_holds (k ∷ ks) [] e key there = absurd cc
  key_holds (k ∷ ks) (part ∷ parts) e key there = elim (cases_Bool (k == key)) [
    | inl here ↦ ap (λ (n : ℕ). is_some (q n)) (sym (eqb-true k key here)) ∙ ap (λ (o : Option Bytes). is_some o) (first_of k ks part parts e)
    | inr other ↦ key_holds ks parts (others_of k ks part parts e) key (rw other at there)
  ]

-- The parts under keys stay as more are held.
pub still_hold : (p q : ℕ → Option Bytes) → Extends p q → (keys : List ℕ) (parts : List Bytes) → map p keys ≡ map (λ x. Some x) parts → map q keys ≡ map (λ x. Some x) parts
still_hold p q more [] parts e = e
still_hold p q more (k ∷ ks) [] e = absurd cc
still_hold p q more (k ∷ ks) (part ∷ parts) e =
    ap (λ (o : Option Bytes). o ∷ map q ks) (more k part (first_of p k ks part parts e))
    ∙ ap (λ (l : List (Option Bytes)). Some part ∷ l) (still_hold p q more ks parts (others_of p k ks part parts e))

-- all parts of the snapshots, by their keys
pub all_parts_seen : (p : ℕ → Option Bytes) (keyed : List Keyed) → all_parts (seen p keyed) ≡ map (bytes_under p) (all_keys keyed)
all_parts_seen p [] = refl
all_parts_seen p (k ∷ ks) =
    ap (λ (l : List Bytes). map (bytes_under p) k.keys.items ++ l) (all_parts_seen p ks)
    ∙ sym (map-append (bytes_under p) k.keys.items (all_keys ks))
