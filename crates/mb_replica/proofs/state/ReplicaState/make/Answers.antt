use Rattle.mb_replica.proofs.NewHosts.{begins, at_rest}
use Rattle.mb_replica.proofs.state.ReplicaState.make.Goals as goal

-- src/state.rt
pub returns-clause-stands : goal.returns-clause-stands
returns-clause-stands g c = λ me serves first who.
    begins _ c.args.shape c.args.host c.args.secret.now c.args.service _ c.in_ok-make.ensures c.in_ok-make-2.ensures me who serves first

pub returns-clause-rests : goal.returns-clause-rests
returns-clause-rests g c = at_rest _ c.args.shape c.args.host c.args.secret.now c.args.service _ c.in_ok-make.ensures c.in_ok-make-2.ensures c.known.ensures
