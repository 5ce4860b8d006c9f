-- What contracts see of a device of the outside at a moment: what it tells, where it does, and how often it has failed. A count stops at 2^64 - 1.
use Rattle.std.specs.Prelude.{ℕ, List, Option}
use Rattle.mb_base.specs.Shapes.{Bytes}
use Rattle.mb_edge.specs.declared.spawner.Start.{Start}
use Rattle.mb_edge.specs.Disks.{Moments}

-- a source or a sink: the bytes that are left, or that were written
pub record Device : Type 0 where
  pub bytes : Option Bytes
  pub faults : ℕ

abbrev pub device : Option Bytes → ℕ → Device
device bytes faults = record { bytes = bytes; faults = faults }

-- a link: the receives that did not fail, each a datagram, or none where it was quiet; the datagrams that were sent, each with its peer; the opens that did
-- not fail, each a port and an own number
pub record LinkState : Type 0 where
  pub received : Option (List (Option Bytes))
  pub sent : Option (List (ℕ × Bytes))
  pub opens : Option (List (ℕ × ℕ))
  pub faults : ℕ

abbrev pub link_state : Option (List (Option Bytes)) → Option (List (ℕ × Bytes)) → Option (List (ℕ × ℕ)) → ℕ → LinkState
link_state received sent opens faults = record { received = received; sent = sent; opens = opens; faults = faults }

-- a spawner: the starts that did not fail, each with its child; the waits that did not fail, each a child and its status; and how often a child ended with
-- a status other than 0
pub record SpawnerState : Type 0 where
  pub starts : Option (List (ℕ × Start))
  pub waits : Option (List (ℕ × ℕ))
  pub faults : ℕ
  pub bad_ends : ℕ

abbrev pub spawner_state : Option (List (ℕ × Start)) → Option (List (ℕ × ℕ)) → ℕ → ℕ → SpawnerState
spawner_state starts waits faults bad_ends = record { starts = starts; waits = waits; faults = faults; bad_ends = bad_ends }

-- a disk: what stands on it, and what stood there at each earlier moment
pub record DiskState : Type 0 where
  pub moments : Option Moments
  pub faults : ℕ

abbrev pub disk_state : Option Moments → ℕ → DiskState
disk_state moments faults = record { moments = moments; faults = faults }
