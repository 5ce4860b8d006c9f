use Rattle.std.proofs.Common.{◌≡◌, take}
use Rattle.std.specs.Prelude.{filter_map}
use Rattle.std.specs.List.{range_with_len}
use Rattle.mb_base.specs.Shapes.{quorum}
use Rattle.mb_change.specs.Evidences.{changes_to, change_of}
use Rattle.mb_change.proofs.change.Change.first_quorum.Given as goal

abbrev pub invariant-loop-host : goal.invariant-loop-host
invariant-loop-host l = l.chosen.items ≡ filter_map (λ h. change_of h (take (quorum l.self.shape) (changes_to l.view l.self.changes))) (range_with_len 0 l.host)
