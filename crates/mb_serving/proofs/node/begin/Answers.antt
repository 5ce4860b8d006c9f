use Rattle.std.proofs.Common.{Err, sym, ap, ◌∙◌}
use Rattle.mb_answer.proofs.Statuses.{tells_read}
use Rattle.std.proofs.lemmas.Result.{err_from_is_err_and}
use Rattle.mb_edge.proofs.FaultLemmas.{tells_none, tells_as, tells_call}
use Rattle.mb_edge.proofs.ToldLemmas.{with_more-nil}
use Rattle.mb_node.proofs.Faults.{link_alone, sink_alone, link_told, sink_told, link_no_sink, sink_no_link, counts_none, call_calm}
use Rattle.mb_serving.proofs.NodeLaws.{begins_starved, begins_unopened, begins_headless, part_of_head, whole_head}
use Rattle.mb_serving.proofs.node.begin.Goals as goal

pub returns-in_err-head-clause-begins : goal.returns-in_err-head-clause-begins
returns-in_err-head-clause-begins g c =
    let p = err_from_is_err_and c.from_residual.result c.from_residual.ensures.1 in
    begins_starved c.args.config.now c.args.host c.from_residual.result p.0 p.1 p.2 _ _

pub returns-in_err-open-clause-begins : goal.returns-in_err-open-clause-begins
returns-in_err-open-clause-begins g c =
    let p = err_from_is_err_and c.from_residual-in_err-open.result c.from_residual-in_err-open.ensures.1 in
    begins_unopened c.args.config.now c.args.host c.from_residual-in_err-open.result p.0 p.1 c.in_err-open.field-0.0 p.2 _ _ _ (λ e. c.in_err-open.ensures.cause.rose (ap Err e)) (c.in_err-open.ensures.opens ∙ with_more-nil _)
    c.in_err-open.ensures.received c.in_err-open.ensures.sent

pub returns-in_err-open-clause-link : goal.returns-in_err-open-clause-link
returns-in_err-open-clause-link g c =
    let p = err_from_is_err_and c.from_residual-in_err-open.result c.from_residual-in_err-open.ensures.1 in
    tells_as _ _ (tells_call _ _ _ c.in_err-open.ensures.cause c.in_err-open.ensures.sound c.in_err-open.ensures.quiet) (λ told. link_told c.in_err-open.field-0.0 p.0 c.from_residual-in_err-open.result p.1 p.2 told)

pub returns-in_err-open-clause-sink : goal.returns-in_err-open-clause-sink
returns-in_err-open-clause-sink g c =
    let p = err_from_is_err_and c.from_residual-in_err-open.result c.from_residual-in_err-open.ensures.1 in
    tells_none _ (λ told. link_no_sink c.in_err-open.field-0.0 p.0 c.from_residual-in_err-open.result p.1 p.2 told)

pub returns-in_err-write_all-clause-begins : goal.returns-in_err-write_all-clause-begins
returns-in_err-write_all-clause-begins g c =
    let p = err_from_is_err_and c.from_residual-in_err-write_all.result c.from_residual-in_err-write_all.ensures.1 in
    begins_headless c.args.config.now c.args.host c.from_residual-in_err-write_all.result p.0 p.1 c.in_err-write_all.field-0.0 p.2 (g.K.Sink.seen c.args.sink.now) (g.K.Sink.seen c.write_all.new.sink) _ _ (λ e. c.in_err-write_all.ensures.fault (ap Err e))
    (record { opens = c.in_ok-open.ensures.opens; received = c.in_ok-open.ensures.received ∙ sym (with_more-nil _); of_bytes = tt }) c.in_ok-open.ensures.sent (part_of_head c.args.config.now c.args.host _ _ _ (c.deref.ensures.value ∙ c.in_ok-head.ensures) c.in_err-write_all.ensures.part)

pub returns-in_err-write_all-clause-link : goal.returns-in_err-write_all-clause-link
returns-in_err-write_all-clause-link g c =
    let p = err_from_is_err_and c.from_residual-in_err-write_all.result c.from_residual-in_err-write_all.ensures.1 in
    counts_none _ _ _ _ _ (call_calm _ _ _ _ _ c.in_ok-open.ensures.cause c.in_ok-open.ensures.sound c.in_ok-open.ensures.quiet) (λ told. sink_no_link c.in_err-write_all.field-0.0 p.0 c.from_residual-in_err-write_all.result p.1 p.2 told)

pub returns-in_err-write_all-clause-sink : goal.returns-in_err-write_all-clause-sink
returns-in_err-write_all-clause-sink g c =
    let p = err_from_is_err_and c.from_residual-in_err-write_all.result c.from_residual-in_err-write_all.ensures.1 in
    let w = c.in_err-write_all.ensures in
    tells_read _ _ w.fault w.later w.sound w.quiet (λ told. sink_told c.in_err-write_all.field-0.0 p.0 c.from_residual-in_err-write_all.result p.1 p.2 told)

pub returns-clause-begins : goal.returns-clause-begins
returns-clause-begins g c = (
  record { opens = c.in_ok-open.ensures.opens; received = c.in_ok-open.ensures.received ∙ sym (with_more-nil _); of_bytes = tt },
  c.in_ok-open.ensures.sent,
  whole_head c.args.config.now c.args.host _ _ _ (c.deref.ensures.value ∙ c.in_ok-head.ensures) c.in_ok-write_all.ensures.all,
)

pub returns-in_err-head-clause-alone : goal.returns-in_err-head-clause-alone
returns-in_err-head-clause-alone g c =
    let p = err_from_is_err_and c.from_residual.result c.from_residual.ensures.1 in
    rw (p.1, p.2) (λ of. of)

pub returns-in_err-open-clause-alone : goal.returns-in_err-open-clause-alone
returns-in_err-open-clause-alone g c =
    let p = err_from_is_err_and c.from_residual-in_err-open.result c.from_residual-in_err-open.ensures.1 in
    rw (p.1, p.2) (link_alone c.in_err-open.field-0.0)

pub returns-in_err-write_all-clause-alone : goal.returns-in_err-write_all-clause-alone
returns-in_err-write_all-clause-alone g c =
    let p = err_from_is_err_and c.from_residual-in_err-write_all.result c.from_residual-in_err-write_all.ensures.1 in
    rw (p.1, p.2) (sink_alone c.in_err-write_all.field-0.0)
