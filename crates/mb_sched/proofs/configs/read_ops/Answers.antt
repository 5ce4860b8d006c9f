use Rattle.std.proofs.Common.{◌≡◌, ◌++◌, ◌∷◌, [], ◌<◌, length, Some, sym, ◌∙◌, arith, rules}
use Rattle.std.specs.Prelude.{slice_get}
use Rattle.mb_sched.specs.Lines.{lines, is_ended}
use Rattle.mb_sched.specs.Configs.{op_line}
use Rattle.mb_sched.proofs.AllLines.{goes_on, stops, is_done, is_unended}
use Rattle.mb_sched.proofs.configs.read_ops.Goals as goal

pub returns-in_default-2 : goal.returns-in_default-2
returns-in_default-2 c =
    let line : c.in_ok-op.field-0 ≡ op_line c.in-Some.line.now = search rules in
    let first : Some c.in-Some.line.now ≡ slice_get (lines c.loop-line.unread.rest.now) 0 = search rules in
    stops op_line (is_ended c.loop-line.unread.rest.now) c.loop-line.ops c.loop-line.number (lines c.loop-line.unread.rest.now) c.in-Some.line.now _ first (sym line ∙ c.in_default-2.is) c.loop-line.invariant.so_far

pub loop-line-preserved : goal.loop-line-preserved
loop-line-preserved c =
    let line : c.in_ok-op.field-0 ≡ op_line c.in-Some.line.now = search rules in
    let first : Some c.in-Some.line.now ≡ slice_get (lines c.loop-line.unread.rest.now) 0 = search rules in
    let shorter : length c.next_line.new.self.rest.now < length c.loop-line.unread.rest.now = search rules in
    let items : c.push.new.self ≡ c.loop-line.ops ++ c.in-Some-2.op ∷ [] = search rules in
    record {
      so_far = rw (items, c.next_line.ensures.left, c.next_line.ensures.ended) (goes_on op_line (is_ended c.loop-line.unread.rest.now) c.loop-line.ops c.loop-line.number (lines c.loop-line.unread.rest.now) c.in-Some.line.now c.in-Some-2.op _ first (sym line ∙ c.in-Some-2.is) c.loop-line.invariant.so_far);
      few = omega (arith, shorter);
    }

pub returns-then-not-is_empty : goal.returns-then-not-is_empty
returns-then-not-is_empty c =
    let last = c.in_default.ensures.last in
    let so_far = rw last.0 at c.loop-line.invariant.so_far in
    is_unended op_line (is_ended c.loop-line.unread.rest.now) c.loop-line.ops c.loop-line.number _ (last.1 ∙ sym c.is_empty.ensures ∙ c.if-not-is_empty.true) so_far

pub returns : goal.returns
returns c =
    let last = c.in_default.ensures.last in
    let so_far = rw last.0 at c.loop-line.invariant.so_far in
    is_done op_line (is_ended c.loop-line.unread.rest.now) c.loop-line.ops c.loop-line.number _ (last.1 ∙ sym c.is_empty.ensures ∙ c.if-not-is_empty.false) so_far
