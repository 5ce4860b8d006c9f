use Rattle.std.proofs.Common.{◌≡◌, drop}
use Rattle.mb_model.specs.Plans.{log_of}
use Rattle.mb_model.specs.Held.{logs_of}
use Rattle.mb_plan.proofs.logs.log_of.Given as goal

abbrev pub invariant-loop-change : goal.invariant-loop-change
invariant-loop-change l = log_of (logs_of (drop l.change-index l.changes)) l.host ≡ log_of (logs_of l.changes) l.host
