use Rattle.std.proofs.Common.{◌≡◌, ◌≤◌, take}
use Rattle.std.specs.Prelude.{count_by}
use Rattle.mb_model.specs.UsableLogs.{is_normal_kind}
use Rattle.mb_plan.proofs.shown.count_normal.Given as goal

abbrev pub invariant-loop-entry : goal.invariant-loop-entry
invariant-loop-entry l = record { value : l.count ≡ count_by is_normal_kind (take l.entry-index l.entries); most : l.count ≤ l.entry-index }
