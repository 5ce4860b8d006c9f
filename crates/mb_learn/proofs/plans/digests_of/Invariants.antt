use Rattle.std.proofs.Common.{◌≡◌, map, take}
use Rattle.mb_parts.specs.Bares.{batch_digest}
use Rattle.mb_learn.proofs.plans.digests_of.Given as goal

abbrev pub invariant-loop-batch : goal.invariant-loop-batch
invariant-loop-batch l = l.digests ≡ map batch_digest (take l.batch-index l.batches)
