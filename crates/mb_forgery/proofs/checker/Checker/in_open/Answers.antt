use Rattle.std.proofs.Common.{sym, ◌∙◌}
use Rattle.mb_parts.specs.Claims.{stable_claims, evidence_claims}
use Rattle.mb_msg.specs.Bodies.{inside_whole}
use Rattle.mb_model.specs.Inside.{open_body_claims}
use Rattle.mb_forgery.proofs.Walks.{front_found, then_clean}
use Rattle.mb_forgery.proofs.checker.Checker.in_open.Goals as goal

pub returns-in-Some : goal.returns-in-Some
returns-in-Some c s w a = front_found s w (evidence_claims s.shape c.args.m.now.evidence) (inside_whole open_body_claims c.args.m.now.body) c.in-Some.found (sym c.in-Some.is ∙ c.in_ok-found.ensures s w a)

pub returns-in-Whole : goal.returns-in-Whole
returns-in-Whole c s w a = rw c.in-Whole.is (then_clean s w (evidence_claims s.shape c.args.m.now.evidence) (stable_claims c.in-Whole.body.stable) c.in_stable.result (sym c.in_default.is ∙ c.in_ok-found.ensures s w a) (c.in_stable.ensures s w a))
