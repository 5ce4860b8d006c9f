use Rattle.std.proofs.Common.{rules, ◌<◌, ◌≡◌, ◌+◌, ◌++◌, ◌∷◌, ◌∙◌, List, Some, None, length, drop, slice_get, suc, sym, ap, arith}
use Rattle.mb_base.specs.Limits.{part_count}
use Rattle.mb_base.specs.Shapes.{Bytes}
use Rattle.mb_model.specs.Making.{fitting}
use Rattle.mb_fetch.specs.Snapshots.{parts_at}
use Rattle.mb_executor.specs.Sent.{kept_at}
use Rattle.mb_executor.proofs.Shelved.{in_kept, pushed, first_none, first_fits, some_within}
use Rattle.mb_executor.proofs.snapshots.fitting_parts.Goals as goal

pub returns-in_default : goal.returns-in_default
returns-in_default c =
    let kept = kept_at c.args.shelf.now c.args.pos in
    let none : None ≡ slice_get kept c.args.first = c.in_default.ensures.part ∙ in_kept (parts_at c.args.shelf.now c.args.pos) c.args.first in
    c.new-parts.ensures ∙ sym (first_none kept c.args.first none)

pub overflow_add-first : goal.overflow_add-first
overflow_add-first c =
    let kept = kept_at c.args.shelf.now c.args.pos in
    let some : Some c.in-Some.part.now ≡ slice_get kept c.args.first = c.in-Some.ensures.part ∙ in_kept (parts_at c.args.shelf.now c.args.pos) c.args.first in
    let below : c.args.first < part_count = omega (arith, some_within kept c.args.first c.in-Some.part.now some, c.requires) in
    search rules

pub returns : goal.returns
returns c =
    let kept = kept_at c.args.shelf.now c.args.pos in
    let p = c.in-Some.part.now in
    let rest = fitting (length p) (drop (c.args.first + 1) kept) in
    let some : Some p ≡ slice_get kept c.args.first = c.in-Some.ensures.part ∙ in_kept (parts_at c.args.shelf.now c.args.pos) c.args.first in
    let up : c.args.first + 1 ≡ suc c.args.first = omega arith in
    c.in_ok-add_fitting.ensures
    ∙ (pushed c.new-parts.result c.push.new.self rest p c.from_vec.result c.in_ok-push.ensures.ok (c.from_vec.ensures ∙ c.in_ok-from_slice.ensures.items)
    ∙ (ap (λ (l : List Bytes). l ++ p ∷ rest) c.new-parts.ensures
    ∙ sym (first_fits kept c.args.first (c.args.first + 1) p up some)))
