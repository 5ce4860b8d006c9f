use Rattle.std.proofs.Common.{◌≤◌, ◌<◌, ◌≡◌, ◌+◌, ◌++◌, ◌∙◌, List, Some, None, length, drop, slice_get, suc, sym, ap, arith}
use Rattle.mb_base.specs.Limits.{part_bytes_limit}
use Rattle.mb_base.specs.Shapes.{Bytes}
use Rattle.mb_model.specs.Making.{fitting}
use Rattle.mb_fetch.specs.Snapshots.{parts_at}
use Rattle.mb_executor.specs.Sent.{kept_at}
use Rattle.mb_executor.proofs.Shelved.{in_kept, fits_more, fits_none, fits_whole, fits_no_more, pushed, no_more}
use Rattle.mb_executor.proofs.snapshots.add_fitting.Goals as goal

pub returns-in_default : goal.returns-in_default
returns-in_default c =
    let kept = kept_at c.args.shelf.now c.args.pos in
    let n = c.loop-number.number in
    let none : None ≡ slice_get kept n = c.in_default.ensures.part ∙ in_kept (parts_at c.args.shelf.now c.args.pos) n in
    no_more c.loop-number.parts _ _ (fits_none kept n c.loop-number.used none) c.loop-number.invariant.parts

pub returns-then-used-part-gt-MAX_PART_BYTES : goal.returns-then-used-part-gt-MAX_PART_BYTES
returns-then-used-part-gt-MAX_PART_BYTES c =
    let kept = kept_at c.args.shelf.now c.args.pos in
    let n = c.loop-number.number in
    let p = c.in-Some.part.now in
    let some : Some p ≡ slice_get kept n = c.in-Some.ensures.part ∙ in_kept (parts_at c.args.shelf.now c.args.pos) n in
    let over : part_bytes_limit < c.loop-number.used + length p = omega (arith, c.if-used-part-gt-MAX_PART_BYTES.true) in
    no_more c.loop-number.parts _ _ (fits_no_more kept n c.loop-number.used p some over) c.loop-number.invariant.parts

pub loop-number-preserved : goal.loop-number-preserved
loop-number-preserved c =
    let kept = kept_at c.args.shelf.now c.args.pos in
    let n = c.loop-number.number in
    let used = c.loop-number.used in
    let p = c.in-Some.part.now in
    let some : Some p ≡ slice_get kept n = c.in-Some.ensures.part ∙ in_kept (parts_at c.args.shelf.now c.args.pos) n in
    let le : used + length p ≤ part_bytes_limit = omega (arith, c.if-used-part-gt-MAX_PART_BYTES.false) in
    let up : n + 1 ≡ suc n = omega arith in
    record {
      parts = pushed c.loop-number.parts c.push.new.self (fitting (used + length p) (drop (n + 1) kept)) p c.from_vec.result c.in_ok-push.ensures.ok (c.from_vec.ensures ∙ c.in_ok-from_slice.ensures.items)
          ∙ (ap (λ (l : List Bytes). c.loop-number.parts ++ l) (sym (fits_more kept n used (n + 1) p up some le)) ∙ c.loop-number.invariant.parts);
      short = omega (arith, le);
    }

pub returns : goal.returns
returns c =
    let kept = kept_at c.args.shelf.now c.args.pos in
    let n = c.loop-number.number in
    let at_least = c.loop-number-test.false in
    let past : length kept ≤ n = omega (arith, c.requires.few, at_least) in
    no_more c.loop-number.parts _ _ (fits_whole kept n c.loop-number.used past) c.loop-number.invariant.parts
