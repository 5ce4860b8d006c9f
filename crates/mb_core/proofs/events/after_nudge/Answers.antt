use Rattle.std.proofs.Common.{sym}
use Rattle.mb_msg.specs.declared.event.Outcome.TheVariants as outcome
use Rattle.mb_model.specs.Sending.{begin}
use Rattle.mb_model.specs.HostStep.{on_nudge}
use Rattle.mb_core.proofs.Finishing.{nudge_taken}
use Rattle.mb_core.proofs.Stepping.{step_goes_on, step_history}
use Rattle.mb_core.proofs.events.after_nudge.Goals as goal

-- src/events.rt
pub on_nudge-requires : goal.on_nudge-requires
on_nudge-requires g c = step_history _ _ _ c.requires

pub finished-requires : goal.finished-requires
finished-requires g c = step_goes_on _ _ _ _ _ (λ me x. (on_nudge me x).left) c.requires (λ me x serves st. c.in_ok-on_nudge.ensures me x st)

pub returns : goal.returns
returns g c = λ me d serves st. (
  sym (nudge_taken me (begin d)),
  c.in_ok-finished.ensures me d (on_nudge me (begin d)).left outcome.Took serves (c.in_ok-on_nudge.ensures me (begin d) st) (c.low-before.ensures.reads me d st.represents),
)
