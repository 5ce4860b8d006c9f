use Rattle.std.proofs.Common.{◌≡◌, ◌≤◌, false}
use Rattle.mb_core.specs.Represents.{IsAtRest}
use Rattle.mb_node.proofs.Faults.{Calm}
use Rattle.mb_node.proofs.Runs.{SoFar}
use Rattle.mb_node.proofs.serving.serve.Given as goal

abbrev pub invariant-loop : goal.invariant-loop
invariant-loop g l =
    let v = g.V.Service in
    let link = g.L.Link in
    let sink = g.K.Sink in
    record {
      so_far : SoFar v.machine l.fn.replica (link.seen l.fn.link).received (record { written = (sink.seen l.fn.out).bytes; sent = (link.seen l.fn.link).sent })
          l.replica (link.seen l.link).received (record { written = (sink.seen l.out).bytes; sent = (link.seen l.link).sent }) l.node l.counter;
      few : l.node.patience.quiets ≤ l.counter;
      runs : l.replica.halted ≡ false;
      rests : IsAtRest v.machine l.replica;
      opens : (link.seen l.link).opens ≡ (link.seen l.fn.link).opens;
      links : Calm (link.seen l.fn.link).faults (link.seen l.link).faults (link.never_fails l.fn.link) (link.never_fails l.link);
      sinks : Calm (sink.seen l.fn.out).faults (sink.seen l.out).faults (sink.never_fails l.fn.out) (sink.never_fails l.out);
    }
