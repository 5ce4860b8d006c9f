use Rattle.std.proofs.Common.{◌≡◌, drop}
use Rattle.std.specs.Prelude.{◌==◌, find}
use Rattle.mb_fetch.proofs.shelf.snapshot_at.Given as goal

abbrev pub invariant-loop-snapshot : goal.invariant-loop-snapshot
invariant-loop-snapshot l = find (λ s. s.pos == l.pos) (drop l.snapshot-index l.snapshots) ≡ find (λ s. s.pos == l.pos) l.snapshots
