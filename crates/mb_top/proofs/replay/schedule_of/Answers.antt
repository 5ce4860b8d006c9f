use Rattle.std.proofs.Common.{subst}
use Rattle.mb_base.specs.Shapes.{Bytes}
use Rattle.mb_sched.specs.Schedules.{Parses}
use Rattle.mb_top.proofs.replay.schedule_of.Goals as goal

pub returns : goal.returns
returns c = subst (λ (t : Bytes). Parses c.parse_schedule.result t) c.deref.ensures.value c.parse_schedule.ensures
