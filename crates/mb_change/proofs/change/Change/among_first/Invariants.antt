use Rattle.std.proofs.Common.{◌≡◌, take}
use Rattle.mb_base.specs.Shapes.{quorum}
use Rattle.mb_change.specs.Evidences.{changes_to, change_of}
use Rattle.mb_change.proofs.change.Change.among_first.Given as goal

abbrev pub invariant-loop-change : goal.invariant-loop-change
invariant-loop-change l = change_of l.host (take l.left (changes_to l.view l.change-iterator)) ≡ change_of l.host (take (quorum l.self.shape) (changes_to l.view l.self.changes))
