use Rattle.std.proofs.Common.{◌≡◌}
use Rattle.mb_change.specs.Tables.{wish_at}
use Rattle.mb_change.specs.Rules.{quorum_wish}
use Rattle.mb_change.proofs.change.Change.quorum_wish.Given as goal

abbrev pub invariant-loop-host : goal.invariant-loop-host
invariant-loop-host l = l.greatest ≡ quorum_wish l.self.shape (wish_at l.self) l.host
