use Rattle.std.proofs.Common.{sym, arith}
use Rattle.mb_window.proofs.Lending.{gap_here, gap_later}
use Rattle.mb_window.proofs.window.first_empty.Goals as goal

pub returns-then-not-is_held-clause-value : goal.returns-then-not-is_held-clause-value
returns-then-not-is_held-clause-value g c =
    let xs = c.args.ring.now.items in
    omega (arith, c.loop-i.invariant, gap_here xs c.loop-i.i (omega arith) (sym c.if-not-is_held.ensures))

pub loop-i-preserved : goal.loop-i-preserved
loop-i-preserved g c =
    let xs = c.args.ring.now.items in
    omega (arith, c.loop-i.invariant, gap_later xs c.loop-i.i (omega arith) (sym c.if-not-is_held.ensures))
