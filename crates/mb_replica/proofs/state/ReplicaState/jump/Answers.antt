use Rattle.std.proofs.Common.{◌<◌, ap, refl, length, arith, slice_set}
use Rattle.mb_replica.proofs.Places.{stored}
use Rattle.mb_replica.proofs.Shown.{jump_of}
use Rattle.mb_replica.proofs.state.ReplicaState.jump.Goals as goal

-- src/logs.rt
pub returns-in-Some-clause-stands : goal.returns-in-Some-clause-stands
returns-in-Some-clause-stands g c = λ me x done m st fits own is other.
    let a = c.args.self.now.protocol in
    let lt : c.args.host < length a.gates.items = omega (arith, c.requires, a.gates_len) in
    jump_of me c.args.self.now _ done x m st (record { same = record { shape = refl; host = refl; secret = refl }; tables = refl }) fits c.args.host own other c.args.floor c.in-Some.floor c.in-Some.is is
    c.index_mut.result.now c.jump-jumped.new.self (stored a.gates.items c.args.host c.from.result c.index_mut.result.now c.from.ensures lt c.index_mut.ensures.value) c.jump-jumped.ensures.stands
    (ap (λ i. slice_set a.gates.items i c.jump-jumped.new.self) c.from.ensures)
