use Rattle.std.proofs.Common.{List, ◌∙◌, sym, subst, arith}
use Rattle.std.specs.List.{flat_map}
use Rattle.std.specs.Io.KnownBytes.{Appends}
use Rattle.std.proofs.lemmas.List.{take_all}
use Rattle.std.proofs.lemmas.Result.{err_from_is_err_and}
use Rattle.mb_base.specs.Shapes.{Bytes}
use Rattle.mb_edge.proofs.PieceLemmas.{appended_both}
use Rattle.mb_answer.proofs.Statuses.{tells_read}
use Rattle.mb_sched.specs.declared.records.Entry.{Entry}
use Rattle.mb_sched.specs.Records.{entry_text}
use Rattle.mb_node.proofs.Faults.{calm_none, calm_both, counts_none, counts_after, sink_told}
use Rattle.mb_node.proofs.Runs.{appends_none}
use Rattle.mb_serving.proofs.JournalLaws.{entries_more, entries_cut, entry_cut, writing_of}
use Rattle.mb_serving.proofs.journals.write_entries.Goals as goal

pub loop-entry-init : goal.loop-entry-init
loop-entry-init g c = record { written = appends_none (g.K.Sink.seen c.args.sink.now).bytes; sinks = calm_none _ _ }

pub loop-entry-preserved : goal.loop-entry-preserved
loop-entry-preserved g c =
    let so_far = c.loop-entry.invariant in
    let w = c.in_ok-write_all.ensures in
    record {
      written = subst (λ (l : Bytes). Appends (g.K.Sink.seen c.args.sink.now).bytes (g.K.Sink.seen c.write_all.new.sink).bytes l) (sym (entries_more c.args.entries.now c.loop-entry.entry-index c.entry-item.result c.loop-entry-test.true c.entry-item.is))
          (appended_both (g.K.Sink.seen c.args.sink.now).bytes (g.K.Sink.seen c.loop-entry.sink).bytes (g.K.Sink.seen c.write_all.new.sink).bytes _ (entry_text c.entry-item.result) so_far.written
          (subst (λ (l : Bytes). Appends (g.K.Sink.seen c.loop-entry.sink).bytes (g.K.Sink.seen c.write_all.new.sink).bytes l) (c.as_slice.ensures.value ∙ c.in_ok-text.ensures) w.all));
      sinks = calm_both _ _ _ _ _ _ so_far.sinks (record { later = w.later; sound = w.sound; kept = λ safe. (w.quiet safe).kept });
    }

pub returns-in_err-text-clause-part : goal.returns-in_err-text-clause-part
returns-in_err-text-clause-part g c =
    let p = err_from_is_err_and c.from_residual.result c.from_residual.ensures.1 in
    rw p.1 (entries_cut c.args.entries.now c.loop-entry.entry-index c.entry-item.result c.loop-entry-test.true c.entry-item.is (g.K.Sink.seen c.args.sink.now).bytes (g.K.Sink.seen c.loop-entry.sink).bytes c.loop-entry.invariant.written)

pub returns-in_err-text-clause-sink : goal.returns-in_err-text-clause-sink
returns-in_err-text-clause-sink g c =
    let p = err_from_is_err_and c.from_residual.result c.from_residual.ensures.1 in
    counts_none _ _ _ _ _ c.loop-entry.invariant.sinks (λ told. absurd (cc (p.1, p.2, told)))

pub returns-in_err-text-clause-causes : goal.returns-in_err-text-clause-causes
returns-in_err-text-clause-causes g c =
    let p = err_from_is_err_and c.from_residual.result c.from_residual.ensures.1 in
    rw (p.1, p.2) tt

pub returns-in_err-write_all-clause-part : goal.returns-in_err-write_all-clause-part
returns-in_err-write_all-clause-part g c =
    let p = err_from_is_err_and c.from_residual-in_err-write_all.result c.from_residual-in_err-write_all.ensures.1 in
    rw p.1 (entry_cut c.args.entries.now c.loop-entry.entry-index c.entry-item.result c.loop-entry-test.true c.entry-item.is (g.K.Sink.seen c.args.sink.now).bytes (g.K.Sink.seen c.loop-entry.sink).bytes (g.K.Sink.seen c.write_all.new.sink).bytes
    c.as_slice.result.now (c.as_slice.ensures.value ∙ c.in_ok-text.ensures) c.loop-entry.invariant.written c.in_err-write_all.ensures.part)

pub returns-in_err-write_all-clause-sink : goal.returns-in_err-write_all-clause-sink
returns-in_err-write_all-clause-sink g c =
    let p = err_from_is_err_and c.from_residual-in_err-write_all.result c.from_residual-in_err-write_all.ensures.1 in
    let w = c.in_err-write_all.ensures in
    counts_after _ _ _ _ _ _ _ c.loop-entry.invariant.sinks (tells_read _ _ w.fault w.later w.sound w.quiet (λ told. sink_told c.in_err-write_all.field-0.0 p.0 c.from_residual-in_err-write_all.result p.1 p.2 told))

pub returns-in_err-write_all-clause-causes : goal.returns-in_err-write_all-clause-causes
returns-in_err-write_all-clause-causes g c =
    let p = err_from_is_err_and c.from_residual-in_err-write_all.result c.from_residual-in_err-write_all.ensures.1 in
    rw (p.1, p.2) (writing_of c.in_err-write_all.field-0.0)

pub returns-clause-all : goal.returns-clause-all
returns-clause-all g c =
    subst (λ (l : List Entry). Appends (g.K.Sink.seen c.args.sink.now).bytes (g.K.Sink.seen c.loop-entry.sink).bytes (flat_map entry_text l)) (take_all c.loop-entry.entry-index c.args.entries.now (omega (arith, c.loop-entry-test.false))) c.loop-entry.invariant.written

pub returns-clause-sink : goal.returns-clause-sink
returns-clause-sink g c = counts_none _ _ _ _ _ c.loop-entry.invariant.sinks (λ told. absurd cc)
