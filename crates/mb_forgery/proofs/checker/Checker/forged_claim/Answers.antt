use Rattle.std.proofs.Common.{◌≡◌, subst}
use Rattle.std.specs.Prelude.{IfOk}
use Rattle.mb_model.specs.Inside.{stamped_claims, claims_in}
use Rattle.mb_world_model.specs.Forged.{forged_claim}
use Rattle.mb_forgery.specs.Checks.{first_forged}
use Rattle.mb_forgery.proofs.InMessages.{own_behind}
use Rattle.mb_forgery.proofs.checker.Checker.forged_claim.Goals as goal

pub returns-in-Log : goal.returns-in-Log
unfolding forged_claim
returns-in-Log c s w a = rw c.in-Log.is (c.in_log.ensures s w a)

pub returns-in-Commit : goal.returns-in-Commit
unfolding forged_claim claims_in stamped_claims
returns-in-Commit c s w a = rw c.in-Commit.is (c.in_commit.ensures s w a)

pub returns-in_default : goal.returns-in_default
unfolding forged_claim
returns-in_default c s w a = subst (λ l. IfOk c.in_other.result (λ o. o ≡ first_forged s w l)) (own_behind s.shape c.args.message.now c.in_default.not-Log) (c.in_other.ensures s w a)
