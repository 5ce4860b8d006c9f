use Rattle.std.proofs.Common.{◌≡◌, [], take}
use Rattle.std.specs.Prelude.{option_map}
use Rattle.mb_model.specs.UsableLogs.{newest_first}
use Rattle.mb_model.specs.Plans.{base_shown}
use Rattle.mb_plan.proofs.last_openings.base_in.Given as goal

abbrev pub invariant-loop-entry : goal.invariant-loop-entry
invariant-loop-entry l = option_map (λ c. c.now) l.base ≡ base_shown (newest_first [] (take l.entry-index l.entries))
