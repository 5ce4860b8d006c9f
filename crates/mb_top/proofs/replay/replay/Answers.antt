use Rattle.std.proofs.Common.{Err, refl, ap, subst, arith}
use Rattle.std.specs.Prelude.{Contains}
use Rattle.std.proofs.lemmas.Option.{IfSome_then}
use Rattle.std.proofs.lemmas.Result.{IfOk-weaker}
use Rattle.mb_base.specs.Shapes.{Bytes}
use Rattle.mb_schedule.specs.Limits.{max_text}
use Rattle.mb_top.specs.Answers.{Answers, too_long}
use Rattle.mb_top.proofs.Answered.{answers_told, answers_known}
use Rattle.mb_top.specs.Doings.{replay_statuses}
use Rattle.mb_answer.proofs.Statuses.{responded, responded_is, unread_told, unread_is, tells_read}
use Rattle.mb_top.proofs.replay.replay.Goals as goal

pub respond-requires : goal.respond-requires
respond-requires g c = IfOk-weaker c.answer_to.result _ _ (λ a h. answers_told _ a.status a.text.items h) c.answer_to.ensures

pub returns-in-Ok-clause-told : goal.returns-in-Ok-clause-told
returns-in-Ok-clause-told g c =
    IfSome_then (g.S.Source.seen c.args.source.now).bytes c.in-Ok.ensures.all (λ text is.
    responded (Answers text) c.answer_to.result _ _ _ _ _ (IfOk-weaker c.answer_to.result _ _ (λ a h. subst (λ (t : Bytes). Answers t a.status a.text.items) is h) c.answer_to.ensures)
    c.respond.ensures.says c.respond.ensures.lacks)

pub returns-in-Ok-clause-source : goal.returns-in-Ok-clause-source
returns-in-Ok-clause-source g c = tells_read _ _ c.in-Ok.ensures.fault c.in-Ok.ensures.later c.in-Ok.ensures.sound c.in-Ok.ensures.quiet (λ five. absurd (c.respond.ensures.unread five))

pub returns-in-Err-clause-told : goal.returns-in-Err-clause-told
returns-in-Err-clause-told g c =
    unread_told Answers max_text (g.S.Source.seen c.args.source.now).bytes c.in-Err.stop _ _ _ _ _ (λ text long. too_long long refl refl) (λ e. c.in-Err.ensures.long (ap Err e)) (λ e. c.in-Err.ensures.fault (ap Err e)) c.tell_unread.ensures.told

pub returns-in-Err-clause-source : goal.returns-in-Err-clause-source
returns-in-Err-clause-source g c = tells_read _ _ c.in-Err.ensures.fault c.in-Err.ensures.later c.in-Err.ensures.sound c.in-Err.ensures.quiet (λ told. ap Err (c.tell_unread.ensures.source told))

pub returns-in-Ok-clause-statuses : goal.returns-in-Ok-clause-statuses
returns-in-Ok-clause-statuses g c =
    responded_is (Contains replay_statuses) (3, omega arith, refl) (5, omega arith, refl) c.answer_to.result _ _ _
    (IfOk-weaker c.answer_to.result _ _ (λ a h. answers_known _ a.status a.text.items h) c.answer_to.ensures) c.respond.ensures.says c.respond.ensures.lacks

pub returns-in-Err-clause-statuses : goal.returns-in-Err-clause-statuses
returns-in-Err-clause-statuses g c = unread_is (Contains replay_statuses) (3, omega arith, refl) (5, omega arith, refl) c.in-Err.stop _ _ _ (1, omega arith, refl) (4, omega arith, refl) c.tell_unread.ensures.told
