use Rattle.mb_model.specs.Sending.{next_of}
use Rattle.mb_replica.proofs.Gathered.{Gathered}
use Rattle.mb_replica.proofs.state.ReplicaState.nexts.Given as goal

abbrev pub invariant-loop-gate : goal.invariant-loop-gate
invariant-loop-gate g l = Gathered l.self (λ me d h. next_of d h) l.nexts l.gate-index
