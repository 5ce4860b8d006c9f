use Rattle.std.proofs.Common.{◌≡◌, ◌<◌, ℕ, sym, subst, slice_get, length, arith, Some}
use Rattle.mb_refinement.proofs.Gates.{own_gate}
use Rattle.mb_replica.proofs.Places.{stored}
use Rattle.mb_replica.proofs.state.ReplicaState.here.Goals as goal

-- src/standing.rt
pub returns : goal.returns
returns g c = λ me d r.
    let a = c.args.self.now.protocol in
    let lt : a.host < length a.gates.items = omega (arith, a.host_in, a.gates_len) in
    let there : slice_get a.gates.items a.host ≡ Some c.index.result.now = stored a.gates.items a.host c.from.result c.index.result.now c.from.ensures lt c.index.ensures in
    own_gate me d a.gates.items c.index.result.now c.at.result r.tables.gates (subst (λ (h : ℕ). slice_get a.gates.items h ≡ Some c.index.result.now) (sym r.who.host) there) c.at.ensures
