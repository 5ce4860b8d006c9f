use Rattle.std.proofs.Common.{◌≡◌, ◌≤◌}
use Rattle.std.specs.Prelude.{nat_le}
use Rattle.mb_base.specs.Shapes.{tally}
use Rattle.mb_change.specs.Tables.{wish_at}
use Rattle.mb_change.proofs.change.Change.is_wished.Given as goal

abbrev pub invariant-loop-host : goal.invariant-loop-host
invariant-loop-host l = (l.count ≤ l.host) × (l.count ≡ tally (λ h. nat_le l.view (wish_at l.self h)) l.host)
