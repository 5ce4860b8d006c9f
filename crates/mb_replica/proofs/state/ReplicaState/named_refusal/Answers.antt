use Rattle.std.proofs.Common.{◌∙◌, sym}
use Rattle.mb_replica.proofs.CountedVotes.{future_refused, gate_answers}
use Rattle.mb_replica.proofs.state.ReplicaState.named_refusal.Goals as goal

-- src/commits.rt
pub returns-then-is_own_future : goal.returns-then-is_own_future
returns-then-is_own_future g c = λ me d m r behind is. future_refused me c.args.self.now d r m behind c.args.prepare.now is (sym (c.if-is_own_future.ensures me d r))

pub returns : goal.returns
returns g c = λ me d m r behind is.
    c.refusal_of.ensures ∙ gate_answers me c.args.self.now d r m behind c.args.prepare.now c.args.mark.now is (sym (c.if-is_own_future.ensures me d r)) c.requires.fits c.requires.mark c.from.result c.index.result.now c.judge.result
    c.from.ensures c.index.ensures c.judge.ensures
