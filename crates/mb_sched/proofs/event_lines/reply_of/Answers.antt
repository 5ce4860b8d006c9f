use Rattle.mb_base.specs.Shapes.{client_count}
use Rattle.mb_sched.proofs.LongLines.{short_reply}
use Rattle.mb_sched.proofs.event_lines.reply_of.Goals as goal

pub returns-in_default : goal.returns-in_default
returns-in_default c = short_reply (client_count c.args.shape) c.args.host c.args.words.now c.in_default.len_below
