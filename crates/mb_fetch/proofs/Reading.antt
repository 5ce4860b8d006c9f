-- A part of the snapshot of a position, by its key.
use Rattle.std.proofs.Common.{◌≡◌, ℕ, zero, suc, ◌<◌, ◌≤◌, Bool, true, List, [], ◌∷◌, map, length, get_or, slice_get, Option, Some, None, option_map, inl, inr, refl, sym, ap, ◌∙◌, arith, Bor}
use Rattle.std.specs.Prelude.{find, ◌==◌, if◌then◌else◌}
use Rattle.std.specs.Option.{option_copied}
use Rattle.std.proofs.lemmas.Bool.{cases_Bool, eq-eqb, or_left, or_right}
use Rattle.std.proofs.lemmas.List.{length-map}
use Rattle.std.proofs.lemmas.Option.{slice_get-map, slice_get_read, slice_get_past}
use Rattle.mb_base.specs.Shapes.{Bytes}
use Rattle.mb_fetch.specs.declared.shelved.HashedPart.{HashedPart}
use Rattle.mb_fetch.specs.declared.shelved.Keyed.{Keyed}
use Rattle.mb_fetch.specs.Snapshots.{Snapshot, parts_at, part_in}
use Rattle.mb_fetch.specs.Shelves.{has_key, all_keys, bytes_under, seen, IsShelf}
use Rattle.mb_fetch.proofs.ByKey.{there, in_front, behind}
use Rattle.mb_fetch.proofs.Snapshots.{found_by_key}

abbrev pub at_pos : ℕ → List Keyed → Option Keyed
at_pos pos keyed = find (λ k. k.pos == pos) keyed

-- the bytes behind a reference
pub bytes_copied : (o : Option (Bor HashedPart)) → option_map (λ (s : Bor HashedPart). s.now.bytes) o ≡ option_map (λ (s : HashedPart). s.bytes) (option_copied o)
bytes_copied None = refl
bytes_copied (Some s) = refl

key_at : (keys : List ℕ) (n key : ℕ) → n < length keys → key ≡ get_or keys n key → has_key key keys ≡ true
key_at [] n key lt is = absurd (omega (arith, lt))
key_at (k ∷ ks) zero key lt is = or_left (k == key) (has_key key ks) (eq-eqb k key (sym is))
key_at (k ∷ ks) (suc n) key lt is = or_right (k == key) (has_key key ks) (key_at ks n key (omega (arith, lt)) is)

found_first : (x k : Keyed) (o : Option Keyed) (b : Bool) → b ≡ true → (if b then Some x else o) ≡ Some k → x ≡ k
found_first x k o b passed e = let same : Some x ≡ Some k = rw passed at e in cc

found_keys : (pos : ℕ) (keyed : List Keyed) (k : Keyed) → at_pos pos keyed ≡ Some k → (key : ℕ) → has_key key k.keys.items ≡ true → has_key key (all_keys keyed) ≡ true
found_keys pos [] k e key there = absurd cc
found_keys pos (x ∷ xs) k e key there = elim (cases_Bool (x.pos == pos)) [
  | inl so ↦
      let same : x ≡ k = found_first x k (at_pos pos xs) (x.pos == pos) so e in
      in_front key x.keys.items (all_keys xs) (ap (λ (y : Keyed). has_key key y.keys.items) same ∙ there)
  | inr not_so ↦ behind key x.keys.items (all_keys xs) (found_keys pos xs k (rw not_so at e) key there)
]

module _ (keyed : List Keyed) (p : ℕ → Option Bytes) (shelf : List Snapshot) (seen_is : seen p keyed ≡ shelf) (pos number : ℕ) where
  abbrev snapshot_parts : Keyed → List Bytes
  snapshot_parts k = map (bytes_under p) k.keys.items

  parts_are : (o : Option Keyed) → at_pos pos keyed ≡ o → parts_at shelf pos ≡ option_map snapshot_parts o
  parts_are o e = ap (λ (l : List Snapshot). parts_at l pos) (sym seen_is) ∙ (found_by_key p pos keyed ∙ ap (option_map snapshot_parts) e)

  -- No snapshot is kept of the position.
  pub no_snapshot : at_pos pos keyed ≡ None → None ≡ part_in (parts_at shelf pos) number
  no_snapshot e = sym (ap (λ (o : Option (List Bytes)). part_in o number) (parts_are None e))

  module _ (k : Keyed) (found : at_pos pos keyed ≡ Some k) where
    in_snapshot : part_in (parts_at shelf pos) number ≡ slice_get (snapshot_parts k) number
    in_snapshot = ap (λ (o : Option (List Bytes)). part_in o number) (parts_are (Some k) found)

    -- The snapshot has no part of this number.
    pub past_all : length k.keys.items ≤ number → None ≡ part_in (parts_at shelf pos) number
    past_all past =
        let long = length-map k.keys.items (bytes_under p) in
        sym (in_snapshot ∙ slice_get_past (snapshot_parts k) number (omega (arith, past, long)))

    -- The part of this number is the one under its key.
    pub under_key : IsShelf keyed p → (key : ℕ) → number < length k.keys.items → key ≡ get_or k.keys.items number key → p key ≡ part_in (parts_at shelf pos) number
    under_key is key lt at =
        there (p key) (is.used key ∙ found_keys pos keyed k found key (key_at k.keys.items number key lt at))
        ∙ sym (in_snapshot ∙ (slice_get-map (bytes_under p) k.keys.items number ∙ ap (option_map (bytes_under p)) (slice_get_read k.keys.items (length k.keys.items) number key refl lt at)))
