use Rattle.mb_sched.proofs.EventLimits.{schedule_fits}
use Rattle.mb_sched.proofs.parsing.texts_are_schedules.Goals as goal

pub returns : goal.returns
returns c = schedule_fits
