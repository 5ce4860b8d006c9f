use Rattle.mb_model.specs.Sending.{begin}
use Rattle.mb_model.specs.Given.{give}
use Rattle.mb_core.proofs.Finishing.{message_ends}
use Rattle.mb_core.proofs.Stepping.{step_goes_on}
use Rattle.mb_core.proofs.events.on_message.Goals as goal

-- src/events.rt
pub finished_where-requires : goal.finished_where-requires
finished_where-requires g c = step_goes_on _ _ _ _ _ (λ me x. (give me c.args.message x).left) c.requires.stepping (λ me x serves st. (c.in_ok-answer.ensures me x serves st).1)

pub returns : goal.returns
returns g c = λ me d serves st.
    let gave = c.in_ok-answer.ensures me (begin d) serves st in
    let given = give me c.args.message (begin d) in
    message_ends me d c.args.message c.in_ok-answer.answer given.outcome _ _ gave.0
    (c.in_ok-finished_where.ensures me d given.left given.outcome serves gave.1 (c.low-before.ensures.reads me d st.represents))
