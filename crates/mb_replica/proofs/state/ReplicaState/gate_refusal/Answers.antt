use Rattle.std.proofs.Common.{rules, ◌∙◌}
use Rattle.mb_replica.proofs.SenderGates.{refuses, refuses_early}
use Rattle.mb_replica.proofs.state.ReplicaState.gate_refusal.Goals as goal

-- src/identifiers.rt
pub returns-then-ne : goal.returns-then-ne
returns-then-ne g c = λ me d r.
    c.refusal_of.ensures
    ∙ refuses_early me c.args.self.now d r c.args.arrival.now c.requires c.from.result c.index-gate.result.now c.from.ensures c.index-gate.ensures c.judge-offer.result c.judge-offer.ensures
    (λ e. let other = c.if-ne.ensures in let told = c.ne.ensures in search rules)

pub returns : goal.returns
returns g c = λ me d r.
    c.refusal_of-2.ensures
    ∙ refuses me c.args.self.now d r c.args.arrival.now c.requires c.from.result c.index-gate.result.now c.from.ensures c.index-gate.ensures c.in_ok-inner.inner c.judge.result (c.in_ok-inner.ensures me d r) c.judge.ensures
