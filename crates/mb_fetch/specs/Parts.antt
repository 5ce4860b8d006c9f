-- Fetched parts stand for a search by number: they are those of this position, under this state digest, and each part that is held is what the
-- search finds.
use Rattle.std.specs.Prelude.{ℕ, ◌≡◌, ◌-◌, nat_le, slice_get, if◌then◌else◌, List, Option, None, map, find, filter_map, is_none, unwrap_or, []}
use Rattle.std.specs.List.{range_with_len}
use Rattle.std.specs.Option.{option_or}
use Rattle.mb_base.specs.Limits.{part_count}
use Rattle.mb_base.specs.Shapes.{Bytes}
use Rattle.mb_msg.specs.declared.transfer.StateMsg.{StateMsg}
use Rattle.mb_model.specs.Execution.{part_in}
use Rattle.mb_fetch.specs.Fetched.{Fetched, part_at}

pub record Represents (t : Fetched) (pos : ℕ) (digest : Bytes) (search : ℕ → Option Bytes) : Type 0 where
  pub pos_is : t.pos ≡ pos
  pub digest_is : t.digest ≡ digest
  pub finds : (i : ℕ) → part_at t i ≡ search i

-- of parts from a number on the one with a number
abbrev pub part_from : ℕ → List Bytes → ℕ → Option Bytes
part_from first parts i = if nat_le first i then slice_get parts (i - first) else None

-- those of a STATE, too, where there was none
abbrev pub joined : (ℕ → Option Bytes) → StateMsg → ℕ → Option Bytes
joined search m i = option_or (search i) (part_in m i)

abbrev pub StandsWith : Fetched → StateMsg → Fetched → Type 0
StandsWith old m new = (pos : ℕ) (digest : Bytes) (search : ℕ → Option Bytes) → Represents old pos digest search → Represents new pos digest (joined search m)

-- the first part that a search does not find
abbrev pub first_missing : (ℕ → Option Bytes) → Option ℕ
first_missing search = find (λ i. is_none (search i)) (range_with_len 0 part_count)

-- all parts that a search finds, in order
abbrev pub all_found : (ℕ → Option Bytes) → List Bytes
all_found search = filter_map search (range_with_len 0 part_count)

-- the parts by number, the empty one where none is found
abbrev pub in_places : (ℕ → Option Bytes) → List Bytes
in_places search = map (λ i. unwrap_or (search i) []) (range_with_len 0 part_count)
