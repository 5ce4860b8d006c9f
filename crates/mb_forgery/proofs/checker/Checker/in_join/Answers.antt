use Rattle.std.proofs.Common.{sym, ◌∙◌}
use Rattle.mb_forgery.proofs.Walks.{front_found, then_clean}
use Rattle.mb_parts.specs.Claims.{stable_claims, evidence_claims}
use Rattle.mb_model.specs.Compared.{inside_some}
use Rattle.mb_forgery.proofs.checker.Checker.in_join.Goals as goal

pub returns-in-Some : goal.returns-in-Some
returns-in-Some c s w a = front_found s w (inside_some (evidence_claims s.shape) c.args.m.now.evidence) ((stable_claims c.args.m.now.stable)) c.in-Some.found (sym c.in-Some.is ∙ c.in_ok-found.ensures s w a)

pub returns : goal.returns
returns c s w a = then_clean s w (inside_some (evidence_claims s.shape) c.args.m.now.evidence) ((stable_claims c.args.m.now.stable)) c.in_stable.result (sym c.in_default.is ∙ c.in_ok-found.ensures s w a) (c.in_stable.ensures s w a)
