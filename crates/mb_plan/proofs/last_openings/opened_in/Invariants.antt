use Rattle.std.proofs.Common.{◌≡◌, [], take}
use Rattle.mb_model.specs.UsableLogs.{newest_first}
use Rattle.mb_model.specs.Plans.{opened_from}
use Rattle.mb_plan.proofs.last_openings.opened_in.Given as goal

abbrev pub invariant-loop-entry : goal.invariant-loop-entry
invariant-loop-entry l = l.opened ≡ opened_from l.fn.floor (newest_first [] (take l.entry-index l.entries))
