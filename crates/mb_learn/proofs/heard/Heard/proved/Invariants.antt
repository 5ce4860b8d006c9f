use Rattle.std.proofs.Common.{◌+◌, take}
use Rattle.mb_learn.specs.Tables.{casts_at}
use Rattle.mb_learn.proofs.NextProved.{NoneProved}
use Rattle.mb_learn.proofs.heard.Heard.proved.Given as goal

abbrev pub invariant-loop-cast : goal.invariant-loop-cast
invariant-loop-cast l = NoneProved l.self (take l.cast-index (casts_at l.self.votes (l.self.votes.executed + 1)))
