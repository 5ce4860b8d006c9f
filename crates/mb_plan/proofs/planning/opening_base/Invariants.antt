use Rattle.std.proofs.Common.{◌≡◌, ◌∷◌, map, drop}
use Rattle.mb_model.specs.Plans.{opening_bases}
use Rattle.mb_plan.specs.Lent.{shown}
use Rattle.mb_plan.specs.Planned.{first_greatest}
use Rattle.mb_plan.proofs.planning.opening_base.Given as goal

abbrev pub invariant-loop-log : goal.invariant-loop-log
invariant-loop-log l = first_greatest (l.base ∷ opening_bases (map shown (drop l.log-index l.voters))) ≡ first_greatest (l.stable ∷ opening_bases (map shown l.voters))
