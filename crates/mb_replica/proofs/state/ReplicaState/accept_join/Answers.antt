use Rattle.std.proofs.Common.{Some}
use Rattle.mb_change.specs.Written.{with_shown}
use Rattle.mb_replica.proofs.Held.{join_taken, wrote_then_held, learnt_alone}
use Rattle.mb_replica.proofs.state.ReplicaState.accept_join.Goals as goal

-- src/joins.rt
pub returns : goal.returns
returns g c = λ me d r passed.
    let old = c.args.self.now in
    let m = c.args.m in
    join_taken me old d r m passed c.learn.new.self
    (wrote_then_held old c.hold_shown.new.self c.learn.new.self (with_shown me d m.evidence) (λ s. s) (Some m.stable) c.hold_shown.ensures.writes (c.hold_shown.ensures.holds me d r)
    (learnt_alone c.hold_shown.new.self c.learn.new.self m.stable c.learn.ensures))
