use Rattle.std.proofs.Common.{◌≡◌, ℕ, ap, subst, arith}
use Rattle.mb_base.specs.declared.shape.Shape.{Shape}
use Rattle.mb_base.specs.Shapes.{host_count}
use Rattle.mb_replica.specs.Holding.{CountsBelow}
use Rattle.mb_replica.proofs.OpenVotes.{none_written, written_again, no_host_counted, next_host_counted}
use Rattle.mb_replica.proofs.state.ReplicaState.count_opens.Goals as goal

-- src/open_votes.rt
pub loop-host-init : goal.loop-host-init
loop-host-init g c = record { writes = none_written c.args.self.now; counts = no_host_counted c.args.self.now c.args.here }

pub count_open-requires : goal.count_open-requires
count_open-requires g c =
    let same : host_count c.loop-host.self.protocol.shape ≡ host_count c.args.self.now.protocol.shape = ap (λ (s : Shape). host_count s) c.loop-host.invariant.writes.same.shape in
    omega (arith, same, c.loop-host-test.true, c.n-host-end.ensures)

pub loop-host-preserved : goal.loop-host-preserved
loop-host-preserved g c = record {
  writes = written_again c.args.self.now c.loop-host.self c.count_open.new.self c.loop-host.invariant.writes c.count_open.ensures.writes;
  counts = next_host_counted c.args.self.now c.loop-host.self c.count_open.new.self c.args.here c.loop-host.host c.loop-host.invariant.writes c.loop-host.invariant.counts c.count_open.ensures.counts;
}

pub returns-clause-counts : goal.returns-clause-counts
returns-clause-counts g c =
    let all : c.loop-host.host ≡ host_count c.args.self.now.protocol.shape = omega (arith, c.loop-host-test.false, c.n-host-end.ensures, c.loop-host.auto.host-end) in
    subst (λ (n : ℕ). CountsBelow n c.args.here c.args.self.now c.loop-host.self) all c.loop-host.invariant.counts
