use Rattle.std.proofs.Common.{Err, refl, ap, ◌∙◌, arith}
use Rattle.std.specs.Prelude.{Contains}
use Rattle.std.proofs.lemmas.Option.{IfSome_then}
use Rattle.mb_sched.specs.Configs.{max_config}
use Rattle.mb_answer.specs.Configs.{RefusesConfig, too_long, lack_statuses}
use Rattle.mb_answer.proofs.ConfigLaws.{found_there}
use Rattle.mb_answer.proofs.Statuses.{is_err_of, unread_not_zero, unread_told, unread_is, tells_read}
use Rattle.mb_answer.proofs.configs.config_from.Goals as goal

pub returns-in-Ok-clause-told : goal.returns-in-Ok-clause-told
returns-in-Ok-clause-told g c =
    IfSome_then (g.S.Source.seen c.args.source.now).bytes c.in-Ok.ensures.all
    (λ text is. found_there _ text c.config_in.result _ _ _ _ (c.deref.ensures.value ∙ is) c.config_in.ensures.told)

pub returns-in-Ok-clause-source : goal.returns-in-Ok-clause-source
returns-in-Ok-clause-source g c = tells_read _ _ c.in-Ok.ensures.fault c.in-Ok.ensures.later c.in-Ok.ensures.sound c.in-Ok.ensures.quiet (λ told. absurd (c.config_in.ensures.unread told))

pub returns-in-Err-clause-told : goal.returns-in-Err-clause-told
returns-in-Err-clause-told g c =
    unread_told RefusesConfig max_config (g.S.Source.seen c.args.source.now).bytes c.in-Err.stop _ _ _ _ _ (λ text long. too_long long refl refl) (λ e. c.in-Err.ensures.long (ap Err e)) (λ e. c.in-Err.ensures.fault (ap Err e)) c.tell_unread.ensures.told

pub returns-in-Err-clause-low : goal.returns-in-Err-clause-low
returns-in-Err-clause-low g c = (c.tell_unread.ensures.low, unread_not_zero c.in-Err.stop _ _ _ c.tell_unread.ensures.told)

pub returns-in-Err-clause-source : goal.returns-in-Err-clause-source
returns-in-Err-clause-source g c = tells_read _ _ c.in-Err.ensures.fault c.in-Err.ensures.later c.in-Err.ensures.sound c.in-Err.ensures.quiet (λ told. ap Err (c.tell_unread.ensures.source (is_err_of _ _ told)))

pub returns-in-Err-clause-statuses : goal.returns-in-Err-clause-statuses
returns-in-Err-clause-statuses g c = unread_is (Contains lack_statuses) (1, omega arith, refl) (3, omega arith, refl) c.in-Err.stop _ _ _ (0, omega arith, refl) (2, omega arith, refl) c.tell_unread.ensures.told
