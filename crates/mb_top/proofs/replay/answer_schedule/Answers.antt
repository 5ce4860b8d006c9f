use Rattle.std.proofs.Common.{subst}
use Rattle.std.proofs.lemmas.Result.{IfOk-weaker}
use Rattle.mb_top.specs.declared.replay.RunStop.{RunStop}
use Rattle.mb_top.specs.Runs.{StopsAt}
use Rattle.mb_top.specs.Answers.{bad_event, forged, certificate, tag, replayed}
use Rattle.mb_top.proofs.replay.answer_schedule.Goals as goal

pub returns-in-Ok : goal.returns-in-Ok
returns-in-Ok c = IfOk-weaker c.report_on.result _ _ (λ a h. replayed c.in-Ok.ensures.0 h.0 h.1) (c.report_on.ensures c.args.schedule _ c.in-Ok.ensures.1)

pub returns-in-Err-BadEvent : goal.returns-in-Err-BadEvent
returns-in-Err-BadEvent c =
    let first = subst (λ (r : RunStop). StopsAt c.args.schedule r) c.in-Err-BadEvent.field-0-is c.in-Err-BadEvent.ensures in
    IfOk-weaker c.bad_line.result _ _ (λ a h. bad_event c.in-Err-BadEvent.number first h.0 h.1) c.bad_line.ensures

pub returns-in-Err-Forged : goal.returns-in-Err-Forged
returns-in-Err-Forged c =
    let first = subst (λ (r : RunStop). StopsAt c.args.schedule r) c.in-Err-Forged.field-0-is c.in-Err-Forged.ensures in
    IfOk-weaker c.forged.result _ _ (λ a h. forged c.in-Err-Forged.event (certificate c.in-Err-Forged.host c.in-Err-Forged.counter first h.1) h.0) c.forged.ensures

pub returns-in-Err-ForgedTag : goal.returns-in-Err-ForgedTag
returns-in-Err-ForgedTag c =
    let first = subst (λ (r : RunStop). StopsAt c.args.schedule r) c.in-Err-ForgedTag.field-0-is c.in-Err-ForgedTag.ensures in
    IfOk-weaker c.forged_tag.result _ _ (λ a h. forged c.in-Err-ForgedTag.event (tag first h.1) h.0) c.forged_tag.ensures
