use Rattle.mb_replica.proofs.Held.{new_view_taken}
use Rattle.mb_replica.proofs.state.ReplicaState.accept_new_view.Goals as goal

-- src/new_views.rt
pub returns : goal.returns
returns g c = λ me d r passed.
    new_view_taken me c.args.self.now d r c.args.m passed c.hold_announced.new.self c.count_opens.new.self c.view-here.result (c.in_ok-hold_announced.ensures me d r) c.count_opens.ensures.writes c.count_opens.ensures.counts (c.view-here.ensures me d r)
