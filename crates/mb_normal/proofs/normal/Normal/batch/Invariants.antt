use Rattle.mb_normal.proofs.Unordered.{FilledSoFar}
use Rattle.mb_normal.proofs.normal.Normal.batch.Given as goal

abbrev pub invariant-loop-client : goal.invariant-loop-client
invariant-loop-client l = FilledSoFar l.self l.client l.filling
