use Rattle.std.proofs.Common.{◌≡◌, ◌+◌, ◌≤◌, drop}
use Rattle.std.specs.Prelude.{count_by}
use Rattle.mb_checkpoints.specs.Agreement.{alike}
use Rattle.mb_checkpoints.proofs.agreement.count_like.Given as goal

abbrev pub invariant-loop-other : goal.invariant-loop-other
invariant-loop-other l = (l.count ≤ l.other-index) × (l.count + count_by (alike l.said) (drop l.other-index l.all) ≡ count_by (alike l.said) l.all)
