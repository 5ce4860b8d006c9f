use Rattle.std.proofs.Common.{◌≡◌, ◌≤◌}
use Rattle.std.specs.Prelude.{vec_capacity}
use Rattle.mb_base.specs.Shapes.{host_count}
use Rattle.mb_edge.specs.Faults.{TellsFaults}
use Rattle.mb_cluster.specs.Nodes.{AreStarted}
use Rattle.mb_cluster.proofs.nodes.start_nodes.Given as goal

abbrev pub invariant-loop-host : goal.invariant-loop-host
invariant-loop-host g l =
    let spawner = g.P.Spawner in
    record {
      started : AreStarted l.config l.host l.children.items (spawner.seen l.fn.spawner).starts (spawner.seen l.spawner).starts;
      room : host_count l.config.shape ≤ vec_capacity l.children;
      waits : (spawner.seen l.spawner).waits ≡ (spawner.seen l.fn.spawner).waits;
      bad_ends : (spawner.seen l.spawner).bad_ends ≡ (spawner.seen l.fn.spawner).bad_ends;
      well : spawner.all_end_well l.fn.spawner → spawner.all_end_well l.spawner;
      faults : TellsFaults (spawner.never_fails l.fn.spawner) (spawner.never_fails l.spawner) (spawner.seen l.fn.spawner).faults (spawner.seen l.spawner).faults ⊥;
    }
