use Rattle.std.proofs.Common.{refl, sym, inr}
use Rattle.std.proofs.lemmas.Option.{IfSome_then}
use Rattle.mb_edge.proofs.FaultLemmas.{tells_both, tells_none, tells_as}
use Rattle.mb_answer.specs.Configs.{used, unused}
use Rattle.mb_answer.proofs.Statuses.{low_no_disk, low_no_link}
use Rattle.mb_serving.proofs.JournalLaws.{kept_from, kept_node_completes, lack_kept}
use Rattle.mb_serving.proofs.journals.kept_node.Goals as goal

pub returns-in-Ok-clause-told : goal.returns-in-Ok-clause-told
returns-in-Ok-clause-told g c =
    IfSome_then (g.S.Source.seen c.args.source.now).bytes c.in-Ok.ensures.told
    (λ text found. used c.in-Ok.config found.0 (kept_from c.in-Ok.config c.args.host c.args.events c.serve_as.result _ _ _ _ _ _ _ (sym found.1) c.serve_as.ensures.serves))

pub returns-in-Ok-clause-complete : goal.returns-in-Ok-clause-complete
returns-in-Ok-clause-complete g c =
    IfSome_then (g.S.Source.seen c.args.source.now).bytes c.in-Ok.ensures.told
    (λ text found. kept_node_completes text c.args.host c.args.events c.serve_as.result
    (g.S.Source.seen c.args.source.now) (g.S.Source.seen c.config_from.new.source)
    (g.K.Sink.seen c.args.sink.now) (g.K.Sink.seen c.serve_as.new.sink)
    (g.L.Link.seen c.args.link.now)
    (g.L.Link.seen c.serve_as.new.link)
    (g.D.Disk.seen c.args.disk.now) (g.D.Disk.seen c.serve_as.new.disk)
    (used c.in-Ok.config found.0 (kept_from c.in-Ok.config c.args.host c.args.events c.serve_as.result _ _ _ _ _ _ _ (sym found.1) c.serve_as.ensures.serves)))

pub returns-in-Ok-clause-source : goal.returns-in-Ok-clause-source
returns-in-Ok-clause-source g c = tells_as _ _ c.in-Ok.ensures.source (λ five. absurd (c.serve_as.ensures.unread five))

pub returns-in-Ok-clause-sink : goal.returns-in-Ok-clause-sink
returns-in-Ok-clause-sink g c = tells_both _ _ _ c.in-Ok.ensures.sink c.serve_as.ensures.sink (λ six. inr six)

pub returns-in-Err-clause-told : goal.returns-in-Err-clause-told
returns-in-Err-clause-told g c = IfSome_then (g.S.Source.seen c.args.source.now).bytes c.in-Err.ensures.told (λ text lacks. unused lacks (refl, refl))

pub returns-in-Err-clause-complete : goal.returns-in-Err-clause-complete
returns-in-Err-clause-complete g c =
    let l = g.L.Link.seen c.args.link.now in
    let disk = g.D.Disk.seen c.args.disk.now in
    IfSome_then (g.S.Source.seen c.args.source.now).bytes c.in-Err.ensures.told
    (λ text lacks. kept_node_completes text c.args.host c.args.events c.in-Err.status
    (g.S.Source.seen c.args.source.now) (g.S.Source.seen c.config_from.new.source)
    (g.K.Sink.seen c.args.sink.now) (g.K.Sink.seen c.config_from.new.sink)
    l l disk disk (unused lacks (refl, refl)))

pub returns-in-Err-clause-ended : goal.returns-in-Err-clause-ended
returns-in-Err-clause-ended g c = λ zero. absurd (c.in-Err.ensures.low.1 zero)

pub returns-in-Err-clause-statuses : goal.returns-in-Err-clause-statuses
returns-in-Err-clause-statuses g c = lack_kept c.in-Err.status c.in-Err.ensures.statuses

pub returns-in-Err-clause-link : goal.returns-in-Err-clause-link
returns-in-Err-clause-link g c = tells_none _ (low_no_link c.in-Err.status c.in-Err.ensures.low.0)

pub returns-in-Err-clause-disk : goal.returns-in-Err-clause-disk
returns-in-Err-clause-disk g c = tells_none _ (low_no_disk c.in-Err.status c.in-Err.ensures.low.0)
