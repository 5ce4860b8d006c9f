use Rattle.mb_replica.proofs.Held.{open_taken}
use Rattle.mb_replica.proofs.state.ReplicaState.accept_open.Goals as goal

-- src/opens.rt
pub returns : goal.returns
returns g c = λ me d r passed.
    open_taken me c.args.self.now d r c.args.m c.requires passed c.hold_opened.new.self c.count_opens.new.self c.view-here.result (c.in_ok-hold_opened.ensures me d r) c.count_opens.ensures.writes c.count_opens.ensures.counts (c.view-here.ensures me d r)
