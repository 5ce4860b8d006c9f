use Rattle.std.proofs.Common.{take, drop, ap, ◌∙◌, arith}
use Rattle.std.specs.Prelude.{count_by}
use Rattle.mb_model.specs.OwnLog.{is_normal}
use Rattle.mb_log.proofs.Keeping.{count_next, drop_next}
use Rattle.mb_log.proofs.log.drop_first.Goals as goal

pub loop-preserved : goal.loop-preserved
loop-preserved c =
    let l = c.loop in
    let xs = c.args.entries.now.items in
    let before = l.invariant.normal in
    let one = c.drop_one-normal.ensures.value in
    let there = ap (λ ys. count_by is_normal (take 1 ys)) l.invariant.items in
    let next = count_next is_normal l.counter xs in
    record {
      items = c.drop_one-normal.ensures.items ∙ (ap (drop 1) l.invariant.items ∙ drop_next l.counter xs);
      capacity = c.drop_one-normal.ensures.capacity ∙ l.invariant.capacity;
      normal = omega (arith, before, one, there, next);
    }
