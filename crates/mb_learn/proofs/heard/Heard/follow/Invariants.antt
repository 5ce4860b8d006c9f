use Rattle.mb_learn.proofs.Follow.{GoesOn, waiting_at}
use Rattle.mb_learn.proofs.heard.Heard.follow.Given as goal

abbrev pub invariant-loop-stamp : goal.invariant-loop-stamp
invariant-loop-stamp l = GoesOn l.host l.initial.self l.self

abbrev pub decreases-loop-stamp : goal.decreases-loop-stamp
decreases-loop-stamp l = waiting_at l.self l.host
