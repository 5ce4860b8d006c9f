use Rattle.std.proofs.Common.{◌≡◌, ◌∙◌, List, refl, subst}
use Rattle.std.specs.Prelude.{slice_get, Some}
use Rattle.mb_gate.specs.declared.gate.Gate.{Gate}
use Rattle.mb_model.specs.Sending.{next_of}
use Rattle.mb_refinement.proofs.Gates.{gate_next}
use Rattle.mb_replica.proofs.Gathered.{one_gathered}
use Rattle.mb_replica.proofs.Places.{stored}
use Rattle.mb_replica.proofs.state.ReplicaState.nexts.Goals as goal

-- src/resends.rt
pub loop-gate-preserved : goal.loop-gate-preserved
loop-gate-preserved g c =
    let r = c.args.self.now in
    let i = c.loop-gate.gate-index in
    let read = c.as_slice-gate-items.result.now in
    let there : slice_get read i ≡ Some c.gate-item.result = stored read i i c.gate-item.result refl c.loop-gate-test.true c.gate-item.is in
    let held : slice_get r.protocol.gates.items i ≡ Some c.gate-item.result = subst (λ (l : List Gate). slice_get l i ≡ Some c.gate-item.result) c.as_slice-gate-items.ensures.value there in
    λ me d rep.
    c.in_ok-push.ensures.ok
    ∙ one_gathered r (λ me d h. next_of d h) c.loop-gate.nexts i c.saturating_add.result
    (λ me d rep. c.saturating_add.ensures ∙ gate_next me d i c.gate-item.result c.at.result (rep.tables.gates.each i c.gate-item.result held) c.at.ensures)
    c.loop-gate.invariant me d rep
