use Rattle.std.proofs.Common.{◌≡◌, map, drop}
use Rattle.mb_model.specs.Plans.{greater, highest_view}
use Rattle.mb_plan.specs.Lent.{shown}
use Rattle.mb_plan.proofs.logs.highest_view.Given as goal

abbrev pub invariant-loop-log : goal.invariant-loop-log
invariant-loop-log l = greater l.highest (highest_view (map shown (drop l.log-index l.logs))) ≡ highest_view (map shown l.logs)
