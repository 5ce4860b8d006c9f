-- What putting fetched parts together answers.
use Rattle.std.specs.Prelude.{ℕ, ◌≡◌, List, length, Option, Some, None, Result, Ok, Err, slice_get}
use Rattle.std.specs.Global.{Vec}
use Rattle.mb_base.specs.Limits.{part_count}
use Rattle.mb_base.specs.Shapes.{Bytes}
use Rattle.mb_fetch.specs.Fetched.{Fetched, part_at, IsCertified}
use Rattle.mb_fetch.specs.Parts.{Represents, first_missing, all_found}
use Rattle.mb_fetch.specs.declared.parts.Missing.{Missing}

-- All parts, of which each is certified.
pub record IsWhole (t : Fetched) (parts : List Bytes) : Type 0 where
  pub count : length parts ≡ part_count
  pub certified : (i : ℕ) (part : Bytes) → slice_get parts i ≡ Some part → IsCertified t.pos t.digest i part
  pub stands : (pos : ℕ) (digest : Bytes) (search : ℕ → Option Bytes) → Represents t pos digest search → parts ≡ all_found search

-- Each answer comes exactly there.
abbrev pub Assembles : Fetched → Result (Vec Bytes) Missing → Type 0
Assembles t (Ok v) = (first_missing (part_at t) ≡ None) × IsWhole t v.items
Assembles t (Err m) = (first_missing (part_at t) ≡ Some m.part) × (m.parts ≡ t)
