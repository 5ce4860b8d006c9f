use Rattle.std.proofs.Common.{◌≡◌, ◌-◌, false, length, drop}
use Rattle.std.specs.List.{list_any}
use Rattle.mb_model.specs.UsableLogs.{is_opening_entry}
use Rattle.mb_plan.proofs.entries.opened_from.Given as goal

abbrev pub invariant-loop-back : goal.invariant-loop-back
invariant-loop-back l = list_any is_opening_entry (drop (length l.entries - l.back) l.entries) ≡ false
