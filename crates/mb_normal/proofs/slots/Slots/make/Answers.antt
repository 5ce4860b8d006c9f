use Rattle.mb_normal.proofs.Greatest.{made_greatest}
use Rattle.mb_normal.proofs.slots.Slots.make.Goals as goal

pub invariant_of-result-clause-is_greatest : goal.invariant_of-result-clause-is_greatest
invariant_of-result-clause-is_greatest c = made_greatest c.in_ok-make.field-0 0 c.span.result c.clients.result c.in_ok-zeros.field-0.items c.in_ok-make.ensures.empty c.in_ok-zeros.ensures
