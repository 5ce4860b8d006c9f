use Rattle.mb_model.specs.HostStep.{transition}
use Rattle.mb_core.proofs.Stepping.{is_step}
use Rattle.mb_core.proofs.replica.Replica.step.Goals as goal

-- src/replica.rt
pub returns-in-Ok-clause-stands : goal.returns-in-Ok-clause-stands
returns-in-Ok-clause-stands g c = λ me d serves represents whole.
    let told = c.in_ok-told.ensures.stands me d serves represents whole in
    (is_step c.in_ok-told.told c.in-Ok.step (transition me d c.args.event.now) c.in-Ok.ensures.step told.0, told.1)
