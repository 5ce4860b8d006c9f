-- The snapshots that a host keeps for others, by position.
use Rattle.std.specs.Prelude.{ℕ, ◌≡◌, ◌+◌, ◌<◌, ◌==◌, Bool, false, ◌||◌, nat_le, List, [], ◌∷◌, Option, Some, None, option_map, find, slice_get, if◌then◌else◌}
use Rattle.std.specs.List.{flat_map, AllByRecursion}
use Rattle.mb_base.specs.Shapes.{Bytes}
use Rattle.mb_usig.specs.Tags.{same_bytes}

-- the position of a state and its parts
pub record Snapshot : Type 0 where
  pub pos : ℕ
  pub parts : List Bytes

abbrev pub snapshot : ℕ → List Bytes → Snapshot
snapshot pos parts = record { pos = pos; parts = parts }

-- the parts of the snapshot of a position
abbrev pub parts_at : List Snapshot → ℕ → Option (List Bytes)
parts_at shelf pos = option_map (λ s. s.parts) (find (λ s. s.pos == pos) shelf)

-- one of them
abbrev pub part_in : Option (List Bytes) → ℕ → Option Bytes
part_in None number = None
part_in (Some parts) number = slice_get parts number

-- whether a part is among these
abbrev pub comes_in : Bytes → List Bytes → Bool
comes_in part [] = false
comes_in part (x ∷ xs) = same_bytes x part || comes_in part xs

-- how many different parts there are: each is counted where it does not come again
abbrev pub different : List Bytes → ℕ
different [] = 0
different (x ∷ xs) = (if comes_in x xs then 0 else 1) + different xs

-- all parts of all snapshots
abbrev pub all_parts : List Snapshot → List Bytes
all_parts shelf = flat_map (λ s. s.parts) shelf

-- ---- A shelf stands for a search by position: the lowest position comes first, each once, and the snapshot of each is what the search finds.

-- each is of a position above this one
abbrev pub AllAbove : ℕ → List Snapshot → Type 0
AllAbove pos shelf = AllByRecursion (λ s. pos < s.pos) shelf

abbrev pub IsRising : List Snapshot → Type 0
IsRising [] = Unit {0}
IsRising (s ∷ shelf) = AllAbove s.pos shelf × IsRising shelf

pub record Represents (shelf : List Snapshot) (search : ℕ → Option (List Bytes)) : Type 0 where
  pub rising : IsRising shelf
  pub finds : (pos : ℕ) → parts_at shelf pos ≡ search pos

-- one snapshot more
abbrev pub with_snapshot : (ℕ → Option (List Bytes)) → ℕ → List Bytes → ℕ → Option (List Bytes)
with_snapshot search pos parts p = if pos == p then Some parts else search p

-- none below a position
abbrev pub from_position : ℕ → (ℕ → Option (List Bytes)) → ℕ → Option (List Bytes)
from_position low search p = if nat_le low p then search p else None

abbrev pub StandsWith : List Snapshot → ℕ → List Bytes → List Snapshot → Type 0
StandsWith old pos parts new = (search : ℕ → Option (List Bytes)) → Represents old search → Represents new (with_snapshot search pos parts)

abbrev pub StandsFrom : List Snapshot → ℕ → List Snapshot → Type 0
StandsFrom old low new = (search : ℕ → Option (List Bytes)) → Represents old search → Represents new (from_position low search)
