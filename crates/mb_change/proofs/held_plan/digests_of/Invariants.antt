use Rattle.std.proofs.Common.{◌≡◌, length, map, take}
use Rattle.mb_base.specs.Limits.{plan_limit}
use Rattle.mb_parts.specs.Bares.{batch_digest}
use Rattle.mb_change.proofs.held_plan.digests_of.Given as goal

abbrev pub invariant-loop-index : goal.invariant-loop-index
invariant-loop-index l = (length l.digests ≡ plan_limit) × (take l.index l.digests ≡ map batch_digest (take l.index l.batches))
