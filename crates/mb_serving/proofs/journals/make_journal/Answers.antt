use Rattle.std.proofs.Common.{refl, sym, inr}
use Rattle.std.proofs.lemmas.Option.{IfSome_then}
use Rattle.mb_edge.proofs.FaultLemmas.{tells_both, tells_none, tells_as}
use Rattle.mb_answer.specs.Configs.{used, unused}
use Rattle.mb_answer.proofs.Statuses.{low_no_disk}
use Rattle.mb_serving.proofs.JournalLaws.{made_from, lack_made}
use Rattle.mb_serving.proofs.journals.make_journal.Goals as goal

pub returns-in-Ok-clause-told : goal.returns-in-Ok-clause-told
returns-in-Ok-clause-told g c =
    IfSome_then (g.S.Source.seen c.args.source.now).bytes c.in-Ok.ensures.told
    (λ text found. used c.in-Ok.config found.0 (made_from c.in-Ok.config c.args.host c.make_as.result _ _ _ _ _ (sym found.1) c.make_as.ensures.makes))

pub returns-in-Ok-clause-source : goal.returns-in-Ok-clause-source
returns-in-Ok-clause-source g c = tells_as _ _ c.in-Ok.ensures.source (λ five. absurd (c.make_as.ensures.unread five))

pub returns-in-Ok-clause-sink : goal.returns-in-Ok-clause-sink
returns-in-Ok-clause-sink g c = tells_both _ _ _ c.in-Ok.ensures.sink c.make_as.ensures.sink (λ six. inr six)

pub returns-in-Err-clause-told : goal.returns-in-Err-clause-told
returns-in-Err-clause-told g c = IfSome_then (g.S.Source.seen c.args.source.now).bytes c.in-Err.ensures.told (λ text lacks. unused lacks refl)

pub returns-in-Err-clause-ended : goal.returns-in-Err-clause-ended
returns-in-Err-clause-ended g c = λ zero. absurd (c.in-Err.ensures.low.1 zero)

pub returns-in-Err-clause-statuses : goal.returns-in-Err-clause-statuses
returns-in-Err-clause-statuses g c = lack_made c.in-Err.status c.in-Err.ensures.statuses

pub returns-in-Err-clause-disk : goal.returns-in-Err-clause-disk
returns-in-Err-clause-disk g c = tells_none _ (low_no_disk c.in-Err.status c.in-Err.ensures.low.0)
