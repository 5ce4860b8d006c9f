-- The STATE of a snapshot.
use Rattle.std.specs.Prelude.{ℕ, List, [], drop, unwrap_or}
use Rattle.mb_base.specs.Shapes.{Bytes}
use Rattle.mb_msg.specs.declared.transfer.StateMsg.{StateMsg}
use Rattle.mb_model.specs.States.{part_digests}
use Rattle.mb_model.specs.Making.{first_fitting}
use Rattle.mb_fetch.specs.Snapshots.{Snapshot, parts_at}

-- the parts of the snapshot of a position; none where there is no snapshot
abbrev pub kept_at : List Snapshot → ℕ → List Bytes
kept_at snapshots pos = unwrap_or (parts_at snapshots pos) []

-- the digests of all parts, and the parts from a number on, as many as fit
abbrev pub state_of_parts : ℕ → ℕ → ℕ → List Bytes → StateMsg
state_of_parts host pos first parts = record { host = host; pos = pos; digests = part_digests parts; first = first; parts = first_fitting (drop first parts) }
