use Rattle.std.proofs.Common.{inr}
use Rattle.std.specs.List.{flat_map}
use Rattle.std.proofs.lemmas.Result.{err_from_is_err_and}
use Rattle.mb_edge.proofs.FaultLemmas.{tells_both, tells_as}
use Rattle.mb_sched.specs.Records.{entry_text, record_head}
use Rattle.mb_node.proofs.Faults.{calm_of, counts_none}
use Rattle.mb_serving.proofs.JournalLaws.{begins_longer, begins_behind, written_alone, written_unlinked}
use Rattle.mb_serving.proofs.journals.begin_behind.Goals as goal

pub returns-in_err-begin-clause-begins : goal.returns-in_err-begin-clause-begins
returns-in_err-begin-clause-begins g c =
    let p = err_from_is_err_and c.from_residual.result c.from_residual.ensures.1 in
    begins_longer c.args.config.now c.args.host (record_head c.args.config.now c.args.host) (flat_map entry_text c.args.entries.now) c.from_residual.result p.0 c.in_err-begin.field-0.0 p.1 p.2 _ _ _ _ c.in_err-begin.ensures.begins

pub returns-in_err-begin-clause-alone : goal.returns-in_err-begin-clause-alone
returns-in_err-begin-clause-alone g c =
    let p = err_from_is_err_and c.from_residual.result c.from_residual.ensures.1 in
    rw (p.1, p.2) (c.in_err-begin.ensures.alone)

pub returns-in_err-begin-clause-sink : goal.returns-in_err-begin-clause-sink
returns-in_err-begin-clause-sink g c =
    let p = err_from_is_err_and c.from_residual.result c.from_residual.ensures.1 in
    tells_as _ _ c.begin.ensures.sink (λ told. cc (p.1, p.2, c.in_err-begin.was, told))

pub returns-in_err-begin-clause-link : goal.returns-in_err-begin-clause-link
returns-in_err-begin-clause-link g c =
    let p = err_from_is_err_and c.from_residual.result c.from_residual.ensures.1 in
    tells_as _ _ c.begin.ensures.link (λ told. cc (p.1, p.2, c.in_err-begin.was, told))

pub returns-clause-begins : goal.returns-clause-begins
returns-clause-begins g c =
    let written = c.write_entries.ensures in
    begins_behind c.args.config.now c.args.host (record_head c.args.config.now c.args.host) (flat_map entry_text c.args.entries.now) c.write_entries.result
    (g.K.Sink.seen c.args.sink.now) (g.K.Sink.seen c.begin.new.sink) (g.K.Sink.seen c.write_entries.new.sink)
    (g.L.Link.seen c.args.link.now)
    (g.L.Link.seen c.begin.new.link)
    c.in_ok-begin.ensures.begins written.all written.part written.causes (λ is. (tells_both _ _ _ c.in_ok-begin.ensures.sink written.sink (λ told. inr told)).rose is)

pub returns-clause-alone : goal.returns-clause-alone
returns-clause-alone g c = written_alone c.write_entries.result c.write_entries.ensures.causes

pub returns-clause-sink : goal.returns-clause-sink
returns-clause-sink g c = tells_both _ _ _ c.in_ok-begin.ensures.sink c.write_entries.ensures.sink (λ told. inr told)

pub returns-clause-link : goal.returns-clause-link
returns-clause-link g c = counts_none _ _ _ _ _ (calm_of _ _ _ _ _ c.in_ok-begin.ensures.link) (λ told. written_unlinked c.write_entries.result c.write_entries.ensures.causes told)
