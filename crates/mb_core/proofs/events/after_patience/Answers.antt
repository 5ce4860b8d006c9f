use Rattle.mb_model.specs.Sending.{begin}
use Rattle.mb_model.specs.HostStep.{on_patience}
use Rattle.mb_core.proofs.Finishing.{patience_ends}
use Rattle.mb_core.proofs.Stepping.{step_goes_on, step_history}
use Rattle.mb_core.proofs.events.after_patience.Goals as goal

-- src/events.rt
pub on_patience-requires : goal.on_patience-requires
on_patience-requires g c = step_history _ _ _ c.requires

pub finished_where-requires : goal.finished_where-requires
finished_where-requires g c = step_goes_on _ _ _ _ _ (λ me x. (on_patience me x).left) c.requires (λ me x serves st. (c.in_ok-outcome.ensures me x st).1)

pub returns : goal.returns
returns g c = λ me d serves st.
    let lost = on_patience me (begin d) in
    let gave = c.in_ok-outcome.ensures me (begin d) st in
    patience_ends me d lost c.of.result c.in_ok-outcome.outcome lost.outcome _ _ c.of.ensures gave.0
    (c.in_ok-finished_where.ensures me d lost.left lost.outcome serves gave.1 (c.low-before.ensures.reads me d st.represents))
