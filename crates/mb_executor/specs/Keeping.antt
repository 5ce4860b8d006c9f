-- What a host executes with, as a value: its state with the client table, the snapshots that it keeps for others, and the parts of a state that
-- it fetched.
use Rattle.std.specs.Prelude.{ℕ, ◌≡◌, ◌≤◌, List, [], ◌∷◌, ◌++◌, length, Option, Some, None, nat_lt, nat_le, if◌then◌else◌}
use Rattle.std.specs.List.{filter, AllByRecursion}
use Rattle.mb_base.specs.Limits.{part_count, part_limit}
use Rattle.mb_base.specs.Shapes.{Bytes}
use Rattle.mb_parts.specs.declared.request.Request.{Request}
use Rattle.mb_model.specs.declared.known.LastReply.{LastReply}
use Rattle.mb_model.specs.Service.{Machine, Served, served}
use Rattle.mb_fetch.specs.Fetched.{Fetched, part_at}
use Rattle.mb_fetch.specs.Snapshots.{Snapshot, snapshot}

pub record Keeping (S : Type 0) : Type 0 where
  pub served : Served S
  pub snapshots : List Snapshot
  pub fetched : Option Fetched

-- parts that can be sent
abbrev pub AreShort : List Bytes → Type 0
AreShort parts = AllByRecursion (λ p. length p ≤ part_limit) parts

-- a table of so many clients, and snapshots of all parts
pub record IsKept (clients : ℕ) (table : List LastReply) (snapshots : List Snapshot) : Type 0 where
  pub clients_are : length table ≡ clients
  pub whole : AllByRecursion (λ s. length s.parts ≡ part_count) snapshots
  pub short : AllByRecursion (λ s. AreShort s.parts) snapshots

-- ---- the parts that were fetched

-- the one with a number, where it is held
abbrev pub found : Option Fetched → ℕ → Option Bytes
found None i = None
found (Some t) i = part_at t i

-- Where some are held, they are those of the state at this position, under this state digest.
abbrev pub AreOf : Option Fetched → ℕ → Bytes → Type 0
AreOf None pos digest = Unit {0}
AreOf (Some t) pos digest = (t.pos ≡ pos) × (t.digest ≡ digest)

-- none of a position below this one
abbrev pub fetched_from : ℕ → Option Fetched → Option Fetched
fetched_from low None = None
fetched_from low (Some t) = if nat_lt t.pos low then None else Some t

-- ---- what changes

module _ {S : Type 0} where
  -- another state and table
  abbrev pub with_served : Keeping S → Served S → Keeping S
  with_served k x = record { served = x; snapshots = k.snapshots; fetched = k.fetched }

  -- a request is served
  abbrev pub executed : Machine S → Keeping S → ℕ → Request → Keeping S
  executed m k pos r = with_served k (served m k.served pos r)

  -- one snapshot more
  abbrev pub with_snapshot : Keeping S → ℕ → List Bytes → Keeping S
  with_snapshot k pos parts = record { served = k.served; snapshots = k.snapshots ++ snapshot pos parts ∷ []; fetched = k.fetched }

  -- no snapshot and no part of a position below this one
  abbrev pub raised : ℕ → Keeping S → Keeping S
  raised low k = record { served = k.served; snapshots = filter (λ s. nat_le low s.pos) k.snapshots; fetched = fetched_from low k.fetched }

  -- other fetched parts
  abbrev pub with_fetched : Keeping S → Option Fetched → Keeping S
  with_fetched k fetched = record { served = k.served; snapshots = k.snapshots; fetched = fetched }
