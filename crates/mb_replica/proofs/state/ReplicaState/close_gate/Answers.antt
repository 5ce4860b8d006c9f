use Rattle.std.proofs.Common.{◌<◌, ap, refl, length, arith, slice_set}
use Rattle.mb_replica.proofs.Places.{stored}
use Rattle.mb_replica.proofs.state.ReplicaState.close_gate.Goals as goal

-- src/stamped.rt
pub returns : goal.returns
returns g c =
    let a = c.args.self.now.protocol in
    let lt : c.args.host < length a.gates.items = omega (arith, c.requires, a.gates_len) in
    record {
      before = c.index_mut.result.now;
      behind = c.close.new.self;
      there = stored a.gates.items c.args.host c.from.result c.index_mut.result.now c.from.ensures lt c.index_mut.ensures.value;
      law = c.close.ensures;
      now = ap (λ i. slice_set a.gates.items i c.close.new.self) c.from.ensures;
      writes = record { same = record { shape = refl; host = refl; secret = refl }; tables = refl };
    }
