use Rattle.std.proofs.Common.{◌≡◌, map, take}
use Rattle.sha2.specs.Sha256.{sha256}
use Rattle.mb_executor.specs.Sent.{kept_at}
use Rattle.mb_executor.proofs.snapshots.digests_of.Given as goal

abbrev pub invariant-loop-part : goal.invariant-loop-part
invariant-loop-part l = l.digests ≡ map sha256 (take l.part (kept_at l.shelf l.pos))
