use Rattle.std.proofs.Common.{Some, refl}
use Rattle.mb_change.specs.Searches.{with_plan}
use Rattle.mb_replica.proofs.Held.{wrote_then_held, learnt_same}
use Rattle.mb_replica.proofs.state.ReplicaState.hold_plan.Goals as goal

-- src/holding.rt
pub returns : goal.returns
returns g c =
    wrote_then_held c.args.self.now _ c.learn.new.self (with_plan c.args.view c.args.plan) (λ s. s) (Some c.args.plan.base) (record { same = record { shape = refl; host = refl; secret = refl }; tables = refl })
    c.hold_plan.ensures.stands
    (learnt_same _ c.learn.new.self c.args.plan.base c.in_ok-base.base c.in_ok-base.ensures c.learn.ensures)
