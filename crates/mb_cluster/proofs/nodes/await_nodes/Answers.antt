use Rattle.std.proofs.Common.{◌≡◌, ◌∷◌, ◌++◌, [], ◌<◌, length, take, get_or, refl, sym, ◌∙◌, arith}
use Rattle.std.proofs.lemmas.List.{take_more, length-take-le}
use Rattle.mb_cluster.specs.Ends.{after_wait}
use Rattle.mb_edge.proofs.FaultLemmas.{tells_both, tells_none, tells_call}
use Rattle.mb_cluster.proofs.WireLemmas.{more_none}
use Rattle.mb_cluster.proofs.FewLemmas.{awaits_none, awaits_more}
use Rattle.mb_cluster.proofs.EndLemmas.{Waited, waited_more, some_none, some_waited, fault_of, well_more}
use Rattle.mb_cluster.proofs.nodes.await_nodes.Goals as goal

pub loop-child-init : goal.loop-child-init
loop-child-init g c =
    let spawner = g.P.Spawner in
    record {
      host = refl;
      waited = record { awaits = record { statuses = []; each = refl; waits = more_none (spawner.seen c.args.spawner.now).waits; ended = refl }; bad_ends = refl };
      some = some_none (spawner.seen c.args.spawner.now).waits;
      few = λ never. awaits_none (spawner.seen c.args.spawner.now).faults (spawner.seen c.args.spawner.now).faults (spawner.seen c.args.spawner.now).waits (omega arith);
      starts = refl;
      well = λ well. (well, tt);
      faults = tells_none (spawner.seen c.args.spawner.now).faults (λ is. absurd cc);
    }

pub loop-child-preserved : goal.loop-child-preserved
loop-child-preserved g c =
    let spawner = g.P.Spawner in
    let now = c.loop-child.invariant in
    let children = c.args.children.now in
    let i = c.loop-child.child-index in
    let lt : i < length children = c.loop-child-test.true in
    let len : length (take i children) ≡ c.loop-child.host = omega (arith, length-take-le i children, now.host) in
    let more : Waited (take i children ++ get_or children i 0 ∷ []) (after_wait (length (take i children)) c.wait.result c.loop-child.ended) (spawner.seen c.args.spawner.now).waits (spawner.seen c.wait.new.self).waits (spawner.seen c.args.spawner.now).bad_ends (spawner.seen c.wait.new.self).bad_ends =
    waited_more (take i children) (get_or children i 0) c.wait.result c.loop-child.ended (spawner.seen c.args.spawner.now).waits (spawner.seen c.loop-child.spawner).waits (spawner.seen c.wait.new.self).waits
    (spawner.seen c.args.spawner.now).bad_ends (spawner.seen c.loop-child.spawner).bad_ends (spawner.seen c.wait.new.self).bad_ends now.waited c.wait.ensures.waits c.wait.ensures.bad_ends in
    record {
      host = omega (arith, now.host);
      waited = rw (take_more children i 0, c.after_wait-ended.ensures) (rw len at more);
      some = rw (take_more children i 0) (some_waited (take i children) (get_or children i 0) c.wait.result (spawner.seen c.args.spawner.now).waits (spawner.seen c.loop-child.spawner).waits (spawner.seen c.wait.new.self).waits now.some c.wait.ensures.waits);
      few = λ never. rw (take_more children i 0)
          (awaits_more (take i children) (get_or children i 0) c.wait.result (spawner.seen c.args.spawner.now).faults (spawner.seen c.loop-child.spawner).faults (spawner.seen c.wait.new.self).faults (spawner.seen c.args.spawner.now).waits (spawner.seen c.loop-child.spawner).waits (spawner.seen c.wait.new.self).waits
          (now.few never) c.wait.ensures.waits c.wait.ensures.cause (c.wait.ensures.ample never));
      starts = c.wait.ensures.starts ∙ now.starts;
      well = λ well. (c.wait.ensures.well (now.well well).0, rw c.after_wait-ended.ensures (well_more c.loop-child.host c.wait.result c.loop-child.ended (now.well well).1 (c.wait.ensures.zero (now.well well).0)));
      faults = tells_both (spawner.seen c.args.spawner.now).faults (spawner.seen c.loop-child.spawner).faults (spawner.seen c.wait.new.self).faults now.faults
          (tells_call (spawner.seen c.loop-child.spawner).faults (spawner.seen c.wait.new.self).faults c.wait.result c.wait.ensures.cause c.wait.ensures.sound c.wait.ensures.quiet)
          (λ is. fault_of c.loop-child.host c.wait.result c.loop-child.ended (sym c.after_wait-ended.ensures ∙ is));
    }
