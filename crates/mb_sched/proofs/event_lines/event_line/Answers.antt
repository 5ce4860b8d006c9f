use Rattle.std.proofs.Common.{sym}
use Rattle.mb_base.specs.Shapes.{host_count, client_count}
use Rattle.mb_sched.specs.Words.{words}
use Rattle.mb_sched.proofs.LongLines.{long_line}
use Rattle.mb_sched.proofs.event_lines.event_line.Goals as goal

pub returns-in_default : goal.returns-in_default
returns-in_default c =
    let long = rw c.in_default.is at c.words_of.ensures in
    sym (long_line (host_count c.args.shape) (client_count c.args.shape) (words c.args.line.now) long)
