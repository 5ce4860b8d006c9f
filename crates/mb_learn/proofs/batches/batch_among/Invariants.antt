use Rattle.std.proofs.Common.{◌≡◌, drop}
use Rattle.mb_learn.specs.Tables.{batch_among}
use Rattle.mb_learn.proofs.batches.batch_among.Given as goal

abbrev pub invariant-loop-one : goal.invariant-loop-one
invariant-loop-one l = batch_among (drop l.one-index l.held) l.digest ≡ batch_among l.held l.digest
