use Rattle.std.proofs.Common.{length}
use Rattle.mb_normal.proofs.Greatest.{cleared_greatest}
use Rattle.mb_normal.proofs.slots.Slots.clear.Goals as goal

pub invariant_of-self-clause-is_greatest : goal.invariant_of-self-clause-is_greatest
invariant_of-self-clause-is_greatest c = cleared_greatest c.clear.new.self c.args.self.now.window.low (length c.args.self.now.window.items) c.forget.new.numbers.items c.clear.ensures.empty c.forget.ensures.zero
