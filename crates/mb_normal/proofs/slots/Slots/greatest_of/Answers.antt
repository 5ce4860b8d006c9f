use Rattle.std.proofs.Common.{◌<◌, length, arith}
use Rattle.mb_normal.proofs.Greatest.{greatest_read}
use Rattle.mb_normal.proofs.slots.Slots.greatest_of.Goals as goal

pub returns : goal.returns
returns c = λ low search st.
    let t = c.args.self.now in
    let below = c.requires in
    let count = t.clients in
    let lt : c.args.client < length t.greatest.items = omega (arith, below, count) in
    greatest_read t.shape t.window t.greatest.items c.from.result c.args.client c.index.result.now low search c.from.ensures lt c.index.ensures t.width t.is_greatest st
