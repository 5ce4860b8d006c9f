use Rattle.mb_base.specs.Shapes.{host_count}
use Rattle.mb_sched.proofs.LongLines.{short_stamp}
use Rattle.mb_sched.proofs.event_lines.stamp_of.Goals as goal

pub returns-in_default : goal.returns-in_default
returns-in_default c = short_stamp (host_count c.args.shape) c.args.words.now c.in_default.len_below
