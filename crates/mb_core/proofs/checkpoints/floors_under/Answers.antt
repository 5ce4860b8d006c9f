use Rattle.std.proofs.Common.{◌≡◌, ◌∙◌, arith}
use Rattle.mb_base.specs.Shapes.{host_count}
use Rattle.mb_model.specs.Histories.{floor_below}
use Rattle.mb_model.specs.Making.{if_covered}
use Rattle.mb_replica.proofs.Gathered.{none_gathered, one_gathered, all_gathered}
use Rattle.mb_core.proofs.checkpoints.floors_under.Goals as goal

-- src/checkpoints.rt
pub loop-host-init : goal.loop-host-init
loop-host-init g c = none_gathered c.args.replica.now (λ me d h. if_covered c.args.pos (floor_below d h c.args.pos)) c.new-floors.result c.new-floors.ensures

pub loop-host-preserved : goal.loop-host-preserved
loop-host-preserved g c = λ me d r.
    c.in_ok-push.ensures.ok
    ∙ one_gathered c.args.replica.now (λ me d h. if_covered c.args.pos (floor_below d h c.args.pos)) c.loop-host.floors c.loop-host.host c.floor_under.result c.floor_under.ensures c.loop-host.invariant me d r

pub returns : goal.returns
returns g c =
    let all : c.loop-host.host ≡ host_count c.args.replica.now.protocol.shape = omega (arith, c.loop-host-test.false, c.loop-host.auto.host-end, c.n-host-end.ensures) in
    all_gathered c.args.replica.now (λ me d h. if_covered c.args.pos (floor_below d h c.args.pos)) c.loop-host.floors c.loop-host.host all c.loop-host.invariant
