use Rattle.std.proofs.Common.{Option, Some, None, IfSome}
use Rattle.mb_base.specs.Shapes.{Bytes}
use Rattle.mb_schedule.specs.declared.schedule.Schedule.{Schedule}
use Rattle.mb_sched.specs.Schedules.{IsScheduleText}
use Rattle.mb_sched.proofs.EventLimits.{schedule_fits}
use Rattle.mb_counting.specs.Counts.{IsAnswer, IsReportOf}
use Rattle.mb_counting.proofs.text.report_of.Goals as goal

answer_reports : (text : Bytes) (s : Schedule) → IsScheduleText text s → (o : Option Bytes) → IsAnswer s o → IfSome o (IsReportOf text)
answer_reports text s is (Some report) counts = record { schedule = s; is = is; counts = counts }
answer_reports text s is None counts = tt

pub counted-requires : goal.counted-requires
counted-requires c = schedule_fits c.args.text.now c.in_ok-schedule.schedule c.in_ok-schedule.ensures

pub returns : goal.returns
returns c = answer_reports c.args.text.now c.in_ok-schedule.schedule c.in_ok-schedule.ensures c.in_ok-report.report c.in_ok-report.ensures
