use Rattle.std.proofs.Common.{◌++◌, take, List, ℕ}
use Rattle.std.specs.List.{flat_map}
use Rattle.mb_parts.specs.Bares.{batch_digest}
use Rattle.mb_msg.proofs.plan.feed.Given as goal

abbrev pub invariant-loop-batch : goal.invariant-loop-batch
invariant-loop-batch g l = (m : List ℕ) → g.H.Digest.holds l.initial.hasher m → g.H.Digest.holds l.hasher (m ++ flat_map batch_digest (take l.batch-index l.batches))
