use Rattle.std.proofs.Common.{length}
use Rattle.mb_sched.proofs.event_lines.+numbers_behind.Given as goal

abbrev pub decreases-numbers_behind : goal.decreases-numbers_behind
decreases-numbers_behind l = length l.words.now
