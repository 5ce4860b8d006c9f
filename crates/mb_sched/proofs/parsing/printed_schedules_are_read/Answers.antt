use Rattle.mb_sched.proofs.PrintedSchedules.{schedule_again}
use Rattle.mb_sched.proofs.parsing.printed_schedules_are_read.Goals as goal

pub returns : goal.returns
returns c = schedule_again
