use Rattle.std.proofs.Common.{Option, subst}
use Rattle.mb_model.specs.declared.known.KnownSlot.{KnownSlot}
use Rattle.mb_normal.specs.Ordered.{AreMore, greatest_in_known}
use Rattle.mb_normal.proofs.Greatest.{put_greatest}
use Rattle.mb_normal.proofs.slots.Slots.put.Goals as goal

pub invariant_of-self-2-clause-is_greatest : goal.invariant_of-self-2-clause-is_greatest
invariant_of-self-2-clause-is_greatest c =
    let t = c.args.self.now in
    let taken = c.in_ok-put.ensures.refused in
    put_greatest t.window c.put.new.self c.args.pos c.args.slot t.greatest.items c.note.new.numbers.items c.in_ok-put.ensures.ok taken.0 taken.1 taken.2 c.in_ok-put.ensures.stands c.note.ensures.length t.is_greatest
    (subst (λ (o : Option KnownSlot). AreMore (λ k. greatest_in_known k o) t.greatest.items c.note.new.numbers.items) c.get.ensures c.note.ensures.max)
