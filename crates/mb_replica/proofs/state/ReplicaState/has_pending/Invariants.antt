use Rattle.mb_replica.proofs.Pending.{NoneSoFar}
use Rattle.mb_replica.proofs.state.ReplicaState.has_pending.Given as goal

abbrev pub invariant-loop-client : goal.invariant-loop-client
invariant-loop-client g l = NoneSoFar l.self l.client
