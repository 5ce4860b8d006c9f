use Rattle.std.proofs.Common.{refl, arith}
use Rattle.std.specs.Prelude.{Contains}
use Rattle.std.proofs.lemmas.Result.{IfOk-weaker}
use Rattle.mb_answer.specs.Configs.{RefusesConfig, lack_statuses}
use Rattle.mb_answer.proofs.ConfigLaws.{ops_fit}
use Rattle.mb_answer.proofs.Statuses.{refusal_told, refusal_not_zero, refuses_config, responded, responded_not_zero, responded_is, refusal_two, is_lack}
use Rattle.mb_answer.proofs.configs.config_in.Goals as goal

pub respond-requires : goal.respond-requires
respond-requires g c = IfOk-weaker c.refusal.result _ _ (λ a h. refusal_told c.in-Err.fault a.status a.text.items h) c.refusal.ensures

pub returns-in-Ok-clause-ops : goal.returns-in-Ok-clause-ops
returns-in-Ok-clause-ops g c = ops_fit c.args.text.now c.in-Ok.config c.in-Ok.ensures

pub returns-in-Err-clause-told : goal.returns-in-Err-clause-told
returns-in-Err-clause-told g c = λ source source'.
    responded (RefusesConfig c.args.text.now) c.refusal.result _ source source' _ _
    (IfOk-weaker c.refusal.result _ _ (λ a h. refuses_config c.args.text.now c.in-Err.fault a.status a.text.items c.in-Err.ensures h) c.refusal.ensures) c.respond.ensures.says c.respond.ensures.lacks

pub returns-in-Err-clause-low : goal.returns-in-Err-clause-low
returns-in-Err-clause-low g c =
    (c.respond.ensures.low, responded_not_zero c.refusal.result _ _ _ (IfOk-weaker c.refusal.result _ _ (λ a h. refusal_not_zero c.in-Err.fault a.status a.text.items h) c.refusal.ensures) c.respond.ensures.says c.respond.ensures.lacks)

pub returns-in-Err-clause-statuses : goal.returns-in-Err-clause-statuses
returns-in-Err-clause-statuses g c =
    responded_is (Contains lack_statuses) (1, omega arith, refl) (3, omega arith, refl) c.refusal.result _ _ _
    (IfOk-weaker c.refusal.result _ _ (λ a h. is_lack a.status (refusal_two c.in-Err.fault a.status a.text.items h)) c.refusal.ensures) c.respond.ensures.says c.respond.ensures.lacks
