use Rattle.std.proofs.Common.{take}
use Rattle.std.specs.List.{flat_map}
use Rattle.std.specs.Io.KnownBytes.{Appends}
use Rattle.mb_sched.specs.Records.{entry_text}
use Rattle.mb_node.proofs.Faults.{Calm}
use Rattle.mb_serving.proofs.journals.write_entries.Given as goal

abbrev pub invariant-loop-entry : goal.invariant-loop-entry
invariant-loop-entry g l =
    let sink = g.K.Sink in
    record {
      written : Appends (sink.seen l.fn.sink).bytes (sink.seen l.sink).bytes (flat_map entry_text (take l.entry-index l.entries));
      sinks : Calm (sink.seen l.fn.sink).faults (sink.seen l.sink).faults (sink.never_fails l.fn.sink) (sink.never_fails l.sink);
    }
