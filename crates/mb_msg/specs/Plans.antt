-- The digest of what a view carries on.
use Rattle.std.specs.Prelude.{ℕ, ◌+◌, ◌≤◌, ◌++◌, length, map, List}
use Rattle.std.specs.List.{flat_map, AllByRecursion}
use Rattle.std.specs.Int.{w8, w64}
use Rattle.sha2.specs.Sha256.{sha256}
use Rattle.mb_base.specs.Limits.{plan_limit}
use Rattle.mb_base.specs.Shapes.{Bytes}
use Rattle.mb_base.specs.Spelling.{number}
use Rattle.mb_parts.specs.Fits.{IsPlace, CanDigest}
use Rattle.mb_parts.specs.Bares.{batch_digest}
use Rattle.mb_msg.specs.declared.change.Plan.{Plan}

-- the letter P, the base, the state digest there, and the digests of the batches behind it
unfoldable pub plan_string : ℕ → Bytes → List Bytes → Bytes
plan_string base state digests = number w8 80 ++ (number w64 base ++ (state ++ flat_map (λ d. d) digests))

abbrev pub plan_text : Plan → Bytes
plan_text p = plan_string p.base.pos p.base.state (map batch_digest p.batches)

abbrev pub plan_digest : Plan → Bytes
plan_digest p = sha256 (plan_text p)

-- short enough to be hashed and counted
abbrev pub CanHash : Plan → Type 0
CanHash p = IsPlace p.base.pos × ((length p.batches ≤ plan_limit) × AllByRecursion CanDigest p.batches)

-- the last position that it carries on
abbrev pub plan_end : Plan → ℕ
plan_end p = p.base.pos + length p.batches
