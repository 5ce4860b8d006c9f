use Rattle.std.proofs.Common.{sym}
use Rattle.mb_replica.proofs.Making.{log_made}
use Rattle.mb_replica.proofs.state.ReplicaState.log_for.Goals as goal

-- src/resends.rt
pub returns : goal.returns
returns g c = λ me d r.
    log_made me c.args.self.now d r c.args.m.now c.expected-expected.result _ _ _ _ _ (c.expected-expected.ensures me d r) (sym r.who.host)
    (c.in_ok-floor_for.ensures me d r) c.in_ok-duplicate.ensures (c.in_ok-evidence_here.ensures me d r) c.in_ok-since.ensures.given
