use Rattle.std.proofs.Common.{◌≡◌, ◌++◌, map, drop}
use Rattle.mb_model.specs.Plans.{of_view}
use Rattle.mb_plan.specs.Lent.{shown}
use Rattle.mb_plan.proofs.logs.of_view.Given as goal

abbrev pub invariant-loop-log : goal.invariant-loop-log
invariant-loop-log l = map shown l.found.items ++ of_view l.view (map shown (drop l.log-index l.logs)) ≡ of_view l.view (map shown l.logs)
