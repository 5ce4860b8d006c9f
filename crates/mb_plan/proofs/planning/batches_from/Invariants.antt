use Rattle.std.proofs.Common.{◌≡◌, ◌+◌, ◌++◌, map}
use Rattle.mb_model.specs.Plans.{batches_from}
use Rattle.mb_plan.specs.Lent.{shown}
use Rattle.mb_plan.proofs.Consecutive.{batches_at}
use Rattle.mb_plan.proofs.planning.batches_from.Given as goal

abbrev pub invariant-loop-step : goal.invariant-loop-step
invariant-loop-step l = l.batches ++ batches_at (map shown l.voters) (l.base + 1) l.most l.step ≡ batches_from (map shown l.voters) (l.base + 1) l.most
