use Rattle.std.proofs.Common.{◌∙◌, List, map, Option, is_some, sym, ap}
use Rattle.std.specs.Prelude.{find, ◌==◌}
use Rattle.mb_base.specs.Shapes.{Bytes}
use Rattle.mb_fetch.specs.declared.shelved.Keyed.{Keyed}
use Rattle.mb_fetch.specs.Snapshots.{Snapshot, parts_at}
use Rattle.mb_fetch.specs.Shelves.{part_under, bytes_under}
use Rattle.mb_fetch.proofs.ByKey.{same_some}
use Rattle.mb_fetch.proofs.Snapshots.{found_by_key}
use Rattle.mb_fetch.proofs.shelf.Shelf.has.Goals as goal

pub returns-clause-kept : goal.returns-clause-kept
returns-clause-kept c =
    let p = part_under c.self.inside.held in
    c.is_some.ensures
    ∙ (same_some (λ s. s.now) c.snapshot_at.result
    ∙ (ap (λ (o : Option Keyed). is_some o) (c.snapshot_at.ensures ∙ ap (find (λ (k : Keyed). k.pos == c.args.pos)) c.as_slice.ensures.value)
    ∙ (same_some (λ k. map (bytes_under p) k.keys.items) (find (λ (k : Keyed). k.pos == c.args.pos) c.self.inside.snapshots.items)
    ∙ (ap (λ (o : Option (List Bytes)). is_some o) (sym (found_by_key p c.args.pos c.self.inside.snapshots.items))
    ∙ ap (λ (l : List Snapshot). is_some (parts_at l c.args.pos)) c.self.view_is))))

pub returns-clause-stands : goal.returns-clause-stands
returns-clause-stands c = λ search st. returns-clause-kept c ∙ ap (λ (o : Option (List Bytes)). is_some o) (st.finds c.args.pos)
