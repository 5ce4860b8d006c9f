use Rattle.std.proofs.Common.{◌≡◌, ◌≤◌, false, take}
use Rattle.std.specs.List.{AllByRecursion}
use Rattle.mb_base.specs.Shapes.{host_count, quorum, tally}
use Rattle.mb_usig.specs.Tags.{same_bytes}
use Rattle.mb_learn.specs.Tables.{says}
use Rattle.mb_learn.proofs.checkpoints.Checkpoints.other_than.Given as goal

abbrev pub invariant-loop-said : goal.invariant-loop-said
invariant-loop-said l = AllByRecursion (λ x. quorum l.shape ≤ tally (λ h. says l.all h x.state) (host_count l.shape) → same_bytes x.state l.found ≡ false → ⊥) (take l.said-index l.all)
