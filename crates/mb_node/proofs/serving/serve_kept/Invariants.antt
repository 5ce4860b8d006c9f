use Rattle.std.proofs.Common.{◌≡◌, ◌≤◌, false}
use Rattle.mb_core.specs.Represents.{IsAtRest}
use Rattle.mb_node.proofs.Faults.{Calm}
use Rattle.mb_node.proofs.KeptRounds.{KeptSoFar}
use Rattle.mb_node.proofs.serving.serve_kept.Given as goal

abbrev pub invariant-loop : goal.invariant-loop
invariant-loop g l =
    let v = g.V.Service in
    let link = g.L.Link in
    let sink = g.K.Sink in
    let disk = g.D.Disk in
    record {
      so_far : KeptSoFar v.machine l.fn.replica l.fn.journal (disk.seen l.fn.disk).moments (link.seen l.fn.link).received (record { written = (sink.seen l.fn.out).bytes; sent = (link.seen l.fn.link).sent })
          l.replica l.journal (disk.seen l.disk).moments (link.seen l.link).received (record { written = (sink.seen l.out).bytes; sent = (link.seen l.link).sent }) l.node l.counter;
      few : l.node.patience.quiets ≤ l.counter;
      runs : l.replica.halted ≡ false;
      rests : IsAtRest v.machine l.replica;
      keeps : l.journal.halted ≡ false;
      opens : (link.seen l.link).opens ≡ (link.seen l.fn.link).opens;
      links : Calm (link.seen l.fn.link).faults (link.seen l.link).faults (link.never_fails l.fn.link) (link.never_fails l.link);
      sinks : Calm (sink.seen l.fn.out).faults (sink.seen l.out).faults (sink.never_fails l.fn.out) (sink.never_fails l.out);
      disks : Calm (disk.seen l.fn.disk).faults (disk.seen l.disk).faults (disk.never_fails l.fn.disk) (disk.never_fails l.disk);
    }
