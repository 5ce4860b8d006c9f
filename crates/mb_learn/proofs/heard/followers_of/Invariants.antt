use Rattle.mb_learn.proofs.Beginning.{AreMade}
use Rattle.mb_learn.proofs.heard.followers_of.Given as goal

abbrev pub invariant-loop-host : goal.invariant-loop-host
invariant-loop-host l = AreMade l.shape l.host l.followers.items
