use Rattle.std.proofs.Common.{◌∙◌, List, ap, arith}
use Rattle.mb_fetch.specs.Snapshots.{Snapshot, different, all_parts}
use Rattle.mb_fetch.proofs.Counting.{held_once, few_held}
use Rattle.mb_fetch.proofs.shelf.Shelf.parts_held.Goals as goal

pub overflow_cast-result : goal.overflow_cast-result
overflow_cast-result c =
    let few = few_held c.self.inside.snapshots.items c.self.inside.held c.self.invariant in
    let counted = c.len.ensures in
    omega (arith, few, counted)

pub returns : goal.returns
returns c =
    c.len.ensures
    ∙ (held_once c.self.inside.snapshots.items c.self.inside.held c.self.invariant
    ∙ ap (λ (l : List Snapshot). different (all_parts l)) c.self.view_is)
