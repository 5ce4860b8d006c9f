use Rattle.std.proofs.Common.{sym, ◌∙◌}
use Rattle.mb_msg.specs.Stamps.{as_stamped}
use Rattle.mb_model.specs.Compared.{inside_some}
use Rattle.mb_model.specs.Inside.{claims_in_stamped}
use Rattle.mb_forgery.specs.Checks.{own_claim}
use Rattle.mb_forgery.proofs.Walks.{front_found, then_clean}
use Rattle.mb_forgery.proofs.checker.Checker.in_other.Goals as goal

pub returns-in-Some : goal.returns-in-Some
returns-in-Some c s w a =
    front_found s w (inside_some (claims_in_stamped s.shape) (as_stamped c.args.message.now)) (own_claim c.args.message.now) c.in-Some.found (sym c.in-Some.is ∙ c.in_ok-found.ensures s w a)

pub returns : goal.returns
returns c s w a =
    then_clean s w (inside_some (claims_in_stamped s.shape) (as_stamped c.args.message.now)) (own_claim c.args.message.now) c.in_own.result (sym c.in_default.is ∙ c.in_ok-found.ensures s w a) (c.in_own.ensures s w a)
