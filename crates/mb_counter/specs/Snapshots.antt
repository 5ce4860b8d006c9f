-- The count as the parts of a state, and back: part 0 has its eight bytes, and the others have none.
use Rattle.std.specs.Prelude.{◌≡◌, ℕ, ◌+◌, List, [], ◌∷◌, length, nat_lt, ◌==◌, Result, Ok, Err, if◌then◌else◌}
use Rattle.std.specs.Int.{w64, from_be_bytes}
use Rattle.mb_base.specs.Shapes.{Bytes}
use Rattle.mb_base.specs.Spelling.{number}
use Rattle.mb_service.specs.declared.restore.Restore.{Restore}
use Rattle.mb_service.specs.declared.restore.Restore.TheVariants as why

abbrev pub part_of : ℕ → ℕ → Bytes
part_of count part = if part == 0 then number w64 count else []

-- ---- reading

-- eight bytes as a count; fewer are at fault at the first, and more behind the eighth
abbrev pub count_in : Bytes → Result ℕ ℕ
count_in part = if nat_lt (length part) 8 then Err 0 else (if length part == 8 then Ok (from_be_bytes w64 part) else Err 8)

-- the count behind the part of this number
abbrev pub count_behind : ℕ → ℕ → Bytes → Result ℕ ℕ
count_behind before part bytes = if part == 0 then count_in bytes else (if length bytes == 0 then Ok before else Err 0)

-- goes on with what a part gave, or ends there with the part's number
abbrev pub or_bad_part : ℕ → Result ℕ ℕ → (ℕ → Result ℕ (ℕ × ℕ)) → Result ℕ (ℕ × ℕ)
or_bad_part part (Ok count) go = go count
or_bad_part part (Err at) go = Err (part, at)

-- the count behind the parts from this number on
abbrev pub counted : ℕ → ℕ → List Bytes → Result ℕ (ℕ × ℕ)
counted before part [] = Ok before
counted before part (bytes ∷ parts) = or_bad_part part (count_behind before part bytes) (λ count. counted count (part + 1) parts)

-- the count of all parts, or the first bad part and the offset of its fault
abbrev pub restored : List Bytes → Result ℕ (ℕ × ℕ)
restored parts = counted 0 0 parts

-- what a call gives that reads all parts
abbrev pub Yields : Result ℕ Restore → List Bytes → Type 0
Yields (Ok count) parts = restored parts ≡ Ok count
Yields (Err (why.BadSnapshot part at)) parts = restored parts ≡ Err (part, at)
Yields (Err why.NoMemory) parts = Unit {0}
