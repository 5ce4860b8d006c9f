use Rattle.mb_service.proofs.Reached.{reached}
use Rattle.mb_service.proofs.laws.services_are_replicable.Goals as goal

pub returns : goal.returns
returns g c = λ s h.
    let there = reached g.V.Service.machine.is_state g.V.Service.machine.after g.met.V.Service.states_stay s in
    record {
      short = λ ops op. g.met.V.Service.answers_are_short _ op (there ops h);
      whole = λ ops. g.met.V.Service.parts_give_the_state _ (there ops h);
    }
