use Rattle.mb_normal.proofs.Unordered.{NoneSoFar}
use Rattle.mb_normal.proofs.normal.Normal.has_unordered.Given as goal

abbrev pub invariant-loop-client : goal.invariant-loop-client
invariant-loop-client l = NoneSoFar l.self l.client
