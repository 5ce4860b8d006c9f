use Rattle.std.proofs.Common.{◌≡◌, drop}
use Rattle.mb_counter.specs.Snapshots.{counted}
use Rattle.mb_counter.proofs.snapshot.read_parts.Given as goal

abbrev pub invariant-loop-part : goal.invariant-loop-part
invariant-loop-part l = counted l.total l.part (drop l.part l.parts) ≡ counted 0 0 l.parts
