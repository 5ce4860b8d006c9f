-- What the fields of a shelf are: snapshots, each by the keys of its parts, and the parts, by key.
use Rattle.std.specs.Prelude.{ℕ, ◌≡◌, ◌≤◌, ◌⊎◌, ◌==◌, Bool, true, false, ◌||◌, List, [], ◌∷◌, length, map, Option, Some, option_map, unwrap_or, is_some}
use Rattle.std.specs.List.{flat_map, AllByRecursion}
use Rattle.slab.specs.Slab.{Slab, get}
use Rattle.mb_base.specs.Limits.{part_count, snapshot_limit}
use Rattle.mb_base.specs.Shapes.{Bytes}
use Rattle.mb_fetch.specs.declared.shelved.HashedPart.{HashedPart}
use Rattle.mb_fetch.specs.declared.shelved.Keyed.{Keyed}
use Rattle.mb_fetch.specs.Snapshots.{Snapshot, snapshot}

-- the bytes of the part under a key
abbrev pub part_under : Slab HashedPart → ℕ → Option Bytes
part_under held key = option_map (λ s. s.bytes) (get held key)

-- the bytes of parts
abbrev pub bytes_of : List HashedPart → List Bytes
bytes_of parts = map (λ p. p.bytes) parts

-- whether a key is among these
abbrev pub has_key : ℕ → List ℕ → Bool
has_key key [] = false
has_key key (k ∷ ks) = k == key || has_key key ks

-- the keys of all snapshots
abbrev pub all_keys : List Keyed → List ℕ
all_keys keyed = flat_map (λ k. k.keys.items) keyed

-- ---- what parts under keys are to snapshots

-- the bytes under a key; those of no part are empty
abbrev pub bytes_under : (ℕ → Option Bytes) → ℕ → Bytes
bytes_under parts key = unwrap_or (parts key) []

abbrev pub seen_one : (ℕ → Option Bytes) → Keyed → Snapshot
seen_one parts k = snapshot k.pos (map (bytes_under parts) k.keys.items)

-- the snapshots with the bytes of their parts
abbrev pub seen : (ℕ → Option Bytes) → List Keyed → List Snapshot
seen parts keyed = map (seen_one parts) keyed

-- No two keys have equal parts.
abbrev pub HoldsOnce : (ℕ → Option Bytes) → Type 0
HoldsOnce parts = (a b : ℕ) (part : Bytes) → parts a ≡ Some part → parts b ≡ Some part → a ≡ b

-- at most so many snapshots of all parts; a part is held exactly where a snapshot has its key, and under one key
pub record IsShelf (keyed : List Keyed) (parts : ℕ → Option Bytes) : Type 0 where
  pub few : length keyed ≤ snapshot_limit
  pub whole : AllByRecursion (λ k. length k.keys.items ≡ part_count) keyed
  pub used : (key : ℕ) → is_some (parts key) ≡ has_key key (all_keys keyed)
  pub once : HoldsOnce parts

-- ---- what holding more makes of parts under keys

-- Each key keeps its part.
abbrev pub Extends : (ℕ → Option Bytes) → (ℕ → Option Bytes) → Type 0
Extends old new = (key : ℕ) (part : Bytes) → old key ≡ Some part → new key ≡ Some part

-- What is there that was not there is under one of these keys.
abbrev pub AddsOnly : (ℕ → Option Bytes) → (ℕ → Option Bytes) → List ℕ → Type 0
AddsOnly old new keys = (key : ℕ) (part : Bytes) → new key ≡ Some part → (old key ≡ Some part) ⊎ (has_key key keys ≡ true)
