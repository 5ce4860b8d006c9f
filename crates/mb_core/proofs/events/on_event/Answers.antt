use Rattle.std.proofs.Common.{◌∙◌, sym, ap}
use Rattle.mb_base.specs.Shapes.{Bytes}
use Rattle.mb_msg.specs.Reading.{message_of}
use Rattle.mb_model.specs.HostStep.{transition, on_bytes}
use Rattle.mb_core.proofs.Finishing.{given_is, patience_is, nudge_is, answers_as}
use Rattle.mb_core.proofs.events.on_event.Goals as goal

-- src/events.rt
pub returns-in-Given : goal.returns-in-Given
returns-in-Given g c = λ me d serves st.
    let s = c.args.replica.now.protocol.shape in
    answers_as me _ _ c.on_bytes.result _ _
    (ap (λ (b : Bytes). on_bytes me (message_of s b) d) c.as_slice.ensures ∙ (given_is me d s c.in-Given.bytes st.represents.who.shape ∙ ap (transition me d) (sym c.in-Given.is)))
    (c.on_bytes.ensures me d serves st)

pub returns-in-Patience : goal.returns-in-Patience
returns-in-Patience g c = λ me d serves st.
    answers_as me _ _ c.after_patience.result _ _ (patience_is me d ∙ ap (transition me d) (sym c.in-Patience.is)) (c.after_patience.ensures me d serves st)

pub returns-in-Nudge : goal.returns-in-Nudge
returns-in-Nudge g c = λ me d serves st.
    answers_as me _ _ c.after_nudge.result _ _ (nudge_is me d ∙ ap (transition me d) (sym c.in-Nudge.is)) (c.after_nudge.ensures me d serves st)
