use Rattle.std.proofs.Common.{◌≡◌, ◌+◌, ◌<◌, ◌^◌, length}
use Rattle.mb_change.specs.Evidences.{changes_to}
use Rattle.mb_change.proofs.change.Change.has_quorum.Given as goal

abbrev pub invariant-loop-change : goal.invariant-loop-change
invariant-loop-change l = (l.count + length l.change-iterator < 2 ^ 63) × (l.count + length (changes_to l.view l.change-iterator) ≡ length (changes_to l.view l.self.changes))
