use Rattle.std.proofs.Common.{◌++◌, take, List, ℕ}
use Rattle.std.specs.List.{flat_map}
use Rattle.mb_parts.specs.Bares.{batch_digest}
use Rattle.mb_plan.proofs.plan_digests.feed.Given as goal

abbrev pub invariant-loop-index : goal.invariant-loop-index
invariant-loop-index g l = (m : List ℕ) → g.H.Digest.holds l.initial.hasher m → g.H.Digest.holds l.hasher (m ++ flat_map batch_digest (take l.index l.batches))
