use Rattle.std.proofs.Common.{◌≡◌, ◌∙◌, ◌++◌, [], ◌∷◌, List, sym, ap, subst}
use Rattle.mb_fetch.specs.declared.shelved.Keyed.{Keyed}
use Rattle.mb_fetch.specs.Snapshots.{Snapshot, snapshot, StandsWith}
use Rattle.mb_fetch.specs.Shelves.{part_under, bytes_of, seen, IsShelf}
use Rattle.mb_fetch.proofs.Shelving.{as_many_seen, more_seen, more_is}
use Rattle.mb_fetch.proofs.Snapshots.{more_stands}
use Rattle.mb_fetch.proofs.shelf.Shelf.keep_hashed.Goals as goal

pub invariant_of-self-2 : goal.invariant_of-self-2
invariant_of-self-2 c =
    let p = part_under c.self.inside.held in
    let q = part_under c.shelve.new.held in
    let old = c.self.inside.snapshots.items in
    let k : Keyed = record { pos = c.args.pos; keys = c.in-Ok.keys } in
    let pushed : c.push_reserved.new.self.items ≡ old ++ k ∷ [] = c.push_reserved.ensures.items ∙ ap (λ (l : List Keyed). l ++ k ∷ []) c.in_ok-reserve.ensures.items in
    let few = as_many_seen p old c.args.self.now c.self.view_is c.requires.room in
    subst (λ (l : List Keyed). IsShelf l q) (sym pushed) (more_is old p c.self.invariant q c.shelve.ensures.kept k (bytes_of c.args.parts.items) c.in-Ok.ensures.keys c.in-Ok.ensures.added c.shelve.ensures.once few c.requires.whole)

pub returns-clause-ok : goal.returns-clause-ok
returns-clause-ok c =
    let p = part_under c.self.inside.held in
    let q = part_under c.shelve.new.held in
    let old = c.self.inside.snapshots.items in
    let k : Keyed = record { pos = c.args.pos; keys = c.in-Ok.keys } in
    let pushed : c.push_reserved.new.self.items ≡ old ++ k ∷ [] = c.push_reserved.ensures.items ∙ ap (λ (l : List Keyed). l ++ k ∷ []) c.in_ok-reserve.ensures.items in
    ap (seen q) pushed
    ∙ (more_seen old p c.self.invariant q c.shelve.ensures.kept k (bytes_of c.args.parts.items) c.in-Ok.ensures.keys
    ∙ ap (λ (l : List Snapshot). l ++ snapshot c.args.pos (bytes_of c.args.parts.items) ∷ []) c.self.view_is)

pub returns-clause-stands : goal.returns-clause-stands
returns-clause-stands c = subst (λ (l : List Snapshot). StandsWith c.args.self.now c.args.pos (bytes_of c.args.parts.items) l) (sym (returns-clause-ok c)) (more_stands c.args.self.now c.args.pos (bytes_of c.args.parts.items) c.requires.above)
