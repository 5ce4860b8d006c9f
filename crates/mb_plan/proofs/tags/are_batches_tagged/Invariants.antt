use Rattle.mb_model.specs.Verified.{are_rightly_tagged}
use Rattle.mb_plan.proofs.TestLists.{AllFrom}
use Rattle.mb_plan.proofs.tags.are_batches_tagged.Given as goal

abbrev pub invariant-loop-batch : goal.invariant-loop-batch
invariant-loop-batch l = AllFrom (are_rightly_tagged l.usig.secret) l.batches l.batch-index
