use Rattle.std.proofs.Common.{take, IsSome}
use Rattle.std.specs.List.{AllByRecursion}
use Rattle.mb_parts.specs.Bares.{batch_digest}
use Rattle.mb_learn.specs.Tables.{batch_at}
use Rattle.mb_learn.proofs.batches.Batches.has_all.Given as goal

abbrev pub invariant-loop-batch : goal.invariant-loop-batch
invariant-loop-batch l = AllByRecursion (λ b. IsSome (batch_at l.self (batch_digest b))) (take l.batch-index l.batches)
