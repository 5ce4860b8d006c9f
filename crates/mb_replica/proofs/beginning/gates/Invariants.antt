use Rattle.mb_replica.specs.Beginning.{AreNewGates}
use Rattle.mb_replica.proofs.beginning.gates.Given as goal

abbrev pub invariant-loop-host : goal.invariant-loop-host
invariant-loop-host l = AreNewGates l.shape l.all.items l.host
