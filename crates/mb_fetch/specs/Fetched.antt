-- The parts of a state that is fetched, as far as they came.
use Rattle.std.specs.Prelude.{ℕ, ◌≡◌, Bool, false, List, [], length, Option, Some, None, slice_get, slice_index_or, if◌then◌else◌}
use Rattle.sha2.specs.Sha256.{sha256}
use Rattle.mb_base.specs.Limits.{part_count}
use Rattle.mb_base.specs.Shapes.{Bytes}
use Rattle.mb_model.specs.States.{digest_string}
use Rattle.mb_model.specs.PlainChecks.{string_at}

-- The position of the state and its certified digest. Of each part its bytes and whether it is held.
pub record Fetched : Type 0 where
  pub pos : ℕ
  pub digest : Bytes
  pub parts : List Bytes
  pub held : List Bool

-- a part, where it is held
abbrev pub part_at : Fetched → ℕ → Option Bytes
part_at t i = if slice_index_or t.held i false then slice_get t.parts i else None

-- A list of digests that gives the certified state digest has the part's at its place.
abbrev pub IsCertified : ℕ → Bytes → ℕ → Bytes → Type 0
IsCertified pos digest i part = (digests : List Bytes) × (sha256 (digest_string digests pos) ≡ digest) × (slice_get digests i ≡ Some (sha256 part))

-- There are places for all parts. Each part that is held is certified, and each that is not is empty.
pub record IsFetched (t : Fetched) : Type 0 where
  pub width : length t.parts ≡ part_count
  pub places : length t.held ≡ part_count
  pub certified : (i : ℕ) (part : Bytes) → part_at t i ≡ Some part → IsCertified t.pos t.digest i part
  pub empty : (i : ℕ) → part_at t i ≡ None → string_at t.parts i ≡ []
