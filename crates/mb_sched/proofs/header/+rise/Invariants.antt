use Rattle.std.proofs.Common.{length}
use Rattle.mb_sched.proofs.header.+rise.Given as goal

abbrev pub decreases-rise : goal.decreases-rise
decreases-rise l = length l.names.now
