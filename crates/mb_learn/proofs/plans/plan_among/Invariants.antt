use Rattle.std.proofs.Common.{◌≡◌, drop}
use Rattle.mb_learn.specs.Tables.{plan_among}
use Rattle.mb_learn.proofs.plans.plan_among.Given as goal

abbrev pub invariant-loop-plan : goal.invariant-loop-plan
invariant-loop-plan l = plan_among (drop l.plan-index l.plans) l.digest ≡ plan_among l.plans l.digest
