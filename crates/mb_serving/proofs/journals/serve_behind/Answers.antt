use Rattle.std.proofs.Common.{inr}
use Rattle.std.proofs.lemmas.Result.{err_from_is_err_and}
use Rattle.mb_edge.proofs.FaultLemmas.{tells_both, tells_none, tells_as}
use Rattle.mb_serving.specs.Records.{host_of}
use Rattle.mb_serving.specs.Journals.{start_of}
use Rattle.mb_serving.proofs.NodeLaws.{heard_behind, kv_serves}
use Rattle.mb_serving.proofs.JournalLaws.{fails_behind, kept_begun, begun_undisked, serves_behind}
use Rattle.mb_serving.proofs.journals.serve_behind.Goals as goal

pub returns-in_err-begin_behind-clause-serves : goal.returns-in_err-begin_behind-clause-serves
returns-in_err-begin_behind-clause-serves g c = λ kept replayed.
    let p = err_from_is_err_and c.from_residual.result c.from_residual.ensures.1 in
    fails_behind c.args.config.now c.args.host kept c.args.entries.now replayed.entries_are c.args.journal.now c.args.events c.from_residual.result p.0 c.in_err-begin_behind.field-0.0 p.1 p.2 _ _ _ _ _
    c.in_err-begin_behind.ensures.begins

pub returns-clause-serves : goal.returns-clause-serves
returns-clause-serves g c = λ kept replayed.
    let config = c.args.config.now in
    let host = c.args.host in
    let begun = c.in_ok-begin_behind.ensures.begins in
    let is = c.serve_kept.ensures.serves in
    serves_behind config host kept c.args.journal.now c.serve_kept.new.journal c.args.events c.serve_kept.result
    (g.K.Sink.seen c.args.sink.now) (g.K.Sink.seen c.serve_kept.new.out)
    (g.L.Link.seen c.args.link.now)
    (g.L.Link.seen c.serve_kept.new.link)
    (g.D.Disk.seen c.args.disk.now) (g.D.Disk.seen c.serve_kept.new.disk)
    is.receives (heard_behind config host _ _ _ is.receives begun.0 c.serve_kept.ensures.opens is.told_is is.of_bytes) (g.K.Sink.seen c.begin_behind.new.sink).bytes
    (kept_begun config host kept c.args.entries.now replayed.entries_are _ _ begun.2)
    c.serve_kept.new.replica (g.L.Link.seen c.begin_behind.new.link).sent begun.1
    (is.ends (host_of config host) (start_of config host kept) (kv_serves config host) replayed.represents replayed.whole)
    (λ told. (tells_both _ _ _ c.in_ok-begin_behind.ensures.link c.serve_kept.ensures.link (λ t. inr t)).rose told)
    (λ told. (tells_both _ _ _ c.in_ok-begin_behind.ensures.sink c.serve_kept.ensures.sink (λ t. inr t)).rose told)
    (λ told. c.serve_kept.ensures.disk.rose told)

-- ---- faults

pub returns-in_err-begin_behind-clause-sink : goal.returns-in_err-begin_behind-clause-sink
returns-in_err-begin_behind-clause-sink g c =
    let p = err_from_is_err_and c.from_residual.result c.from_residual.ensures.1 in
    tells_as _ _ c.begin_behind.ensures.sink (λ told. cc (p.1, p.2, c.in_err-begin_behind.was, told))

pub returns-in_err-begin_behind-clause-link : goal.returns-in_err-begin_behind-clause-link
returns-in_err-begin_behind-clause-link g c =
    let p = err_from_is_err_and c.from_residual.result c.from_residual.ensures.1 in
    tells_as _ _ c.begin_behind.ensures.link (λ told. cc (p.1, p.2, c.in_err-begin_behind.was, told))

pub returns-in_err-begin_behind-clause-disk : goal.returns-in_err-begin_behind-clause-disk
returns-in_err-begin_behind-clause-disk g c =
    let p = err_from_is_err_and c.from_residual.result c.from_residual.ensures.1 in
    tells_none _ (λ told. begun_undisked c.in_err-begin_behind.field-0.0 c.in_err-begin_behind.ensures.alone (cc (p.1, p.2, told)))

pub returns-clause-sink : goal.returns-clause-sink
returns-clause-sink g c = tells_both _ _ _ c.in_ok-begin_behind.ensures.sink c.serve_kept.ensures.sink (λ told. inr told)

pub returns-clause-link : goal.returns-clause-link
returns-clause-link g c = tells_both _ _ _ c.in_ok-begin_behind.ensures.link c.serve_kept.ensures.link (λ told. inr told)

pub returns-clause-disk : goal.returns-clause-disk
returns-clause-disk g c = c.serve_kept.ensures.disk
