use Rattle.std.proofs.Common.{◌≡◌, map, take}
use Rattle.mb_base.specs.Shapes.{max_faults}
use Rattle.mb_model.specs.Held.{as_member}
use Rattle.mb_change.proofs.Answering.{answers_below}
use Rattle.mb_change.specs.Tables.{enter_at}
use Rattle.mb_change.proofs.change.Change.members_for.Given as goal

abbrev pub invariant-loop-host : goal.invariant-loop-host
invariant-loop-host l = l.members ≡ map as_member (take (max_faults l.self.shape) (answers_below (enter_at l.self) l.new_view l.host))
