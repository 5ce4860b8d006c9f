use Rattle.std.proofs.Common.{◌≡◌, take}
use Rattle.std.specs.Result.{IsErrOf}
use Rattle.mb_cluster.specs.declared.stop.ClusterStop.TheVariants.{SpawnFault}
use Rattle.mb_edge.specs.Faults.{TellsFaults}
use Rattle.mb_cluster.specs.Ends.{EndsWell}
use Rattle.mb_cluster.specs.Nodes.{AwaitsSome}
use Rattle.mb_cluster.specs.Missing.{AwaitsBut}
use Rattle.mb_cluster.proofs.EndLemmas.{Waited}
use Rattle.mb_cluster.proofs.nodes.await_nodes.Given as goal

abbrev pub invariant-loop-child : goal.invariant-loop-child
invariant-loop-child g l =
    let spawner = g.P.Spawner in
    record {
      host : l.host ≡ l.child-index;
      waited : Waited (take l.child-index l.children) l.ended (spawner.seen l.fn.spawner).waits (spawner.seen l.spawner).waits (spawner.seen l.fn.spawner).bad_ends (spawner.seen l.spawner).bad_ends;
      some : AwaitsSome (take l.child-index l.children) (spawner.seen l.fn.spawner).waits (spawner.seen l.spawner).waits;
      few : spawner.waits_without_memory → AwaitsBut (take l.child-index l.children) (spawner.seen l.fn.spawner).faults (spawner.seen l.spawner).faults (spawner.seen l.fn.spawner).waits (spawner.seen l.spawner).waits;
      starts : (spawner.seen l.spawner).starts ≡ (spawner.seen l.fn.spawner).starts;
      well : spawner.all_end_well l.fn.spawner → spawner.all_end_well l.spawner × EndsWell l.ended;
      faults : TellsFaults (spawner.never_fails l.fn.spawner) (spawner.never_fails l.spawner) (spawner.seen l.fn.spawner).faults (spawner.seen l.spawner).faults (IsErrOf l.ended SpawnFault);
    }
