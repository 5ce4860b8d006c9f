use Rattle.std.proofs.Common.{◌≡◌, subst, arith, ℕ}
use Rattle.mb_base.specs.Shapes.{host_count}
use Rattle.mb_replica.specs.Beginning.{AreNewGates}
use Rattle.mb_replica.proofs.NewGates.{no_gates, one_gate_more}
use Rattle.mb_replica.proofs.beginning.gates.Goals as goal

-- src/beginning.rt
pub loop-host-init : goal.loop-host-init
loop-host-init c = no_gates c.args.shape c.in_ok-all.all.items c.in_ok-all.ensures.items

pub loop-host-preserved : goal.loop-host-preserved
loop-host-preserved c = one_gate_more c.args.shape c.loop-host.all.items c.push.new.self.items c.loop-host.host c.new.result c.in_ok-push.ensures.items c.loop-host.invariant c.new.ensures

pub returns : goal.returns
returns c =
    let all : c.loop-host.host ≡ host_count c.args.shape = omega (arith, c.loop-host-test.false, c.loop-host.auto.host-end, c.n-host-end.ensures) in
    subst (λ (n : ℕ). AreNewGates c.args.shape c.loop-host.all.items n) all c.loop-host.invariant
