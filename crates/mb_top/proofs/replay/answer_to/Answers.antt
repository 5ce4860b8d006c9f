use Rattle.std.proofs.lemmas.Result.{IfOk-weaker}
use Rattle.mb_sched.proofs.EventLimits.{schedule_fits}
use Rattle.mb_top.specs.Answers.{right}
use Rattle.mb_top.proofs.Answered.{refuses_schedule}
use Rattle.mb_top.proofs.replay.answer_to.Goals as goal

pub answer_schedule-requires : goal.answer_schedule-requires
answer_schedule-requires c = schedule_fits c.args.text.items c.in-Ok.schedule c.in-Ok.ensures

pub returns-in-Ok : goal.returns-in-Ok
returns-in-Ok c = IfOk-weaker c.answer_schedule.result _ _ (λ a h. right c.in-Ok.schedule c.in-Ok.ensures h) c.answer_schedule.ensures

pub returns-in-Err : goal.returns-in-Err
returns-in-Err c = IfOk-weaker c.refusal.result _ _ (λ a h. refuses_schedule c.args.text.items c.in-Err.fault a.status a.text.items c.in-Err.ensures h) c.refusal.ensures
