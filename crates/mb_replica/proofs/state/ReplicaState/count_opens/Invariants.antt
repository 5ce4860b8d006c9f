use Rattle.mb_replica.proofs.OpenVotes.{HostsCounted}
use Rattle.mb_replica.proofs.state.ReplicaState.count_opens.Given as goal

abbrev pub invariant-loop-host : goal.invariant-loop-host
invariant-loop-host g l = HostsCounted l.fn.self l.self l.host l.here
