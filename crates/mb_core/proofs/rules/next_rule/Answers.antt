use Rattle.mb_core.proofs.NextRules.{change_is_next, normal_is_next}
use Rattle.mb_core.proofs.rules.next_rule.Goals as goal

-- src/rules.rt
pub returns-in-Some : goal.returns-in-Some
returns-in-Some g c = λ me d r. change_is_next me d c.in-Some.rule (c.in-Some.ensures me d r)

pub returns-in-None : goal.returns-in-None
returns-in-None g c = λ me d r. normal_is_next me d c.normal_rule.result (c.in-None.ensures me d r) (c.normal_rule.ensures me d r)
