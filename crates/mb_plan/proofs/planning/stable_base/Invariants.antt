use Rattle.std.proofs.Common.{◌≡◌, ◌++◌, ◌∷◌, List, map, drop}
use Rattle.mb_parts.specs.declared.certificates.StableCert.{StableCert}
use Rattle.mb_model.specs.Plans.{stable_of}
use Rattle.mb_plan.specs.Lent.{shown}
use Rattle.mb_plan.specs.Planned.{first_greatest}
use Rattle.mb_plan.proofs.planning.stable_base.Given as goal

abbrev pub invariant-loop-log : goal.invariant-loop-log
invariant-loop-log l = (more : List StableCert) → first_greatest (l.base ∷ (map stable_of (map shown (drop l.log-index l.logs)) ++ more)) ≡ first_greatest (map stable_of (map shown l.logs) ++ more)
