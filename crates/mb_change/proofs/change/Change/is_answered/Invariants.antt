use Rattle.std.proofs.Common.{◌≡◌, ◌≤◌, length}
use Rattle.mb_change.proofs.Answering.{answers_below}
use Rattle.mb_change.specs.Tables.{enter_at}
use Rattle.mb_change.proofs.change.Change.is_answered.Given as goal

abbrev pub invariant-loop-host : goal.invariant-loop-host
invariant-loop-host l = (l.count ≤ l.host) × (l.count ≡ length (answers_below (enter_at l.self) l.new_view l.host))
