use Rattle.std.proofs.Common.{◌+◌}
use Rattle.mb_model.specs.Held.{plan_of_view}
use Rattle.mb_replica.specs.Holding.{base_in}
use Rattle.mb_replica.proofs.OpenVotes.{PositionsCounted}
use Rattle.mb_replica.proofs.state.ReplicaState.count_open.Given as goal

abbrev pub invariant-loop-index : goal.invariant-loop-index
invariant-loop-index g l = PositionsCounted l.fn.self l.self l.host (base_in (plan_of_view l.here l.fn.self.protocol.change.plan) + l.index) l.here
