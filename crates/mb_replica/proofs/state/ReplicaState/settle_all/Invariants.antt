use Rattle.mb_cache.specs.Tables.{last_of}
use Rattle.mb_replica.specs.Between.{WritesNormal}
use Rattle.mb_replica.specs.Installing.{Settles}
use Rattle.mb_replica.proofs.state.ReplicaState.settle_all.Given as goal

abbrev pub invariant-loop-client : goal.invariant-loop-client
invariant-loop-client g l = record {
  writes : WritesNormal l.fn.self l.self;
  settles : Settles l.fn.self.protocol.normal l.self.protocol.normal (λ c. (last_of l.fn.self.keeper.served.table c).seq) l.client;
}
