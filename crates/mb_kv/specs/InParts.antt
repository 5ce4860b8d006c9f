-- The pairs of a state as they are kept: in the parts of their keys' buckets.
use Rattle.std.specs.Prelude.{◌≡◌, ℕ, ◌≤◌, List, length}
use Rattle.mb_base.specs.Limits.{service_parts}
use Rattle.mb_kv.specs.declared.limits.TheConstants.{MAX_KEYS}
use Rattle.mb_kv.specs.Pairs.{Pairs}
use Rattle.mb_kv.specs.Snapshots.{collected}
use Rattle.mb_kv.specs.Laws.SnapshotLaws.{AreBuckets, joined}

-- the state of these parts
abbrev pub state_of : List Pairs → Pairs
state_of parts = collected (joined parts)

-- The pairs of each part are of its bucket, rise, and have allowed lengths. There are not too many, and they are counted.
pub record AreKept (parts : List Pairs) (count : ℕ) : Type 0 where
  pub long : length parts ≡ service_parts
  pub own : AreBuckets 0 parts
  pub count_is : count ≡ length (state_of parts)
  pub few : count ≤ MAX_KEYS
