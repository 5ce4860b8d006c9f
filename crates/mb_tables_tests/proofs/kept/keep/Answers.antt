use Rattle.std.proofs.Common.{◌≡◌, ◌-◌, ◌*◌, ◌≤◌, ◌%◌, ap, sym, ◌∙◌, subst, arith}
use Rattle.mb_base.specs.declared.shape.Shape.{Shape}
use Rattle.mb_base.specs.Shapes.{interval}
use Rattle.mb_normal.proofs.Tables.{kept_kept}
use Rattle.mb_tables_tests.proofs.Multiples.{place_above}
use Rattle.mb_tables_tests.proofs.kept.keep.Goals as goal

pub keep-requires-clause-place : goal.keep-requires-clause-place
keep-requires-clause-place c =
    let t = c.args.kept.now in
    let pos = c.args.checkpoint.pos in
    let k = c.from-interval.result in
    let is : k ≡ interval t.shape = c.from-interval.ensures ∙ c.k.ensures ∙ ap (λ (s : Shape). interval s) (sym c.requires.shape) in
    let whole : pos % k ≡ 0 = let no = c.if-checkpoint-interval-ne0.false in omega (arith, no) in
    let above : c.args.low ≤ pos = let no = c.if-checkpoint-low.false in omega (arith, no) in
    let near : pos - c.args.low ≤ 2 * interval t.shape = let no = c.if-checkpoint-low-2.false in omega (arith, no, is) in
    place_above (interval t.shape) t.first c.args.low pos t.shape.interval_in.0 c.requires.low above near (subst (λ n. pos % n ≡ 0) is whole)

pub returns-clause-shape : goal.returns-clause-shape
returns-clause-shape c = (kept_kept c.args.kept.now c.keep.new.self c.args.checkpoint c.keep.ensures.stands).0 ∙ c.requires.shape

pub returns-clause-low : goal.returns-clause-low
returns-clause-low c = (kept_kept c.args.kept.now c.keep.new.self c.args.checkpoint c.keep.ensures.stands).1 ∙ c.requires.low
