use Rattle.std.specs.List.{flat_map}
use Rattle.mb_forgery.proofs.Walks.{TagsLeft}
use Rattle.mb_forgery.proofs.checker.Checker.forged_in_batches.Given as goal

abbrev pub invariant-loop-batch : goal.invariant-loop-batch
invariant-loop-batch l = TagsLeft l.self (flat_map (λ x. x.requests)) l.batches l.batch-index
