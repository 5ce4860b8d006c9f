use Rattle.std.proofs.Common.{arith}
use Rattle.mb_answer.proofs.Statuses.{told_low, told_is_not}
use Rattle.mb_answer.proofs.saying.say.Goals as goal

pub returns-in-Ok-clause-low : goal.returns-in-Ok-clause-low
returns-in-Ok-clause-low g c = told_low c.args.status c.requires

pub returns-in-Ok-clause-unread : goal.returns-in-Ok-clause-unread
returns-in-Ok-clause-unread g c = told_is_not c.args.status 5 c.requires (omega arith) (omega arith)

pub returns-in-Ok-clause-sink : goal.returns-in-Ok-clause-sink
returns-in-Ok-clause-sink g c = record {
  later = c.write_all.ensures.later;
  rose = λ six. absurd (told_is_not c.args.status 6 c.requires (omega arith) (omega arith) six);
  sound = c.write_all.ensures.sound;
  quiet = λ safe. record { kept = (c.write_all.ensures.quiet safe).kept; none = told_is_not c.args.status 6 c.requires (omega arith) (omega arith) };
}
