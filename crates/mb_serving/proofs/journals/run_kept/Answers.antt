use Rattle.std.proofs.lemmas.Result.{err_from_is_err_and}
use Rattle.mb_serving.proofs.JournalLaws.{starved_kept}
use Rattle.mb_serving.proofs.journals.run_kept.Goals as goal

pub returns-in_err-replica-clause-serves : goal.returns-in_err-replica-clause-serves
returns-in_err-replica-clause-serves g c =
    let p = err_from_is_err_and c.from_residual.result c.from_residual.ensures.1 in
    starved_kept c.args.config.now c.args.host c.args.opened.events.items c.args.opened.journal c.args.events c.from_residual.result p.0 p.1 p.2 _ _ _

pub returns-clause-serves : goal.returns-clause-serves
returns-clause-serves g c = c.serve_behind-ended.ensures.serves c.args.opened.events.items (rw c.deref.ensures.value c.in_ok-replica.ensures.stands)

pub returns-clause-sink : goal.returns-clause-sink
returns-clause-sink g c = c.serve_behind-ended.ensures.sink

pub returns-clause-link : goal.returns-clause-link
returns-clause-link g c = c.serve_behind-ended.ensures.link

pub returns-clause-disk : goal.returns-clause-disk
returns-clause-disk g c = c.serve_behind-ended.ensures.disk
