use Rattle.mb_model.specs.Histories.{floor_below}
use Rattle.mb_model.specs.Making.{if_covered}
use Rattle.mb_replica.proofs.Gathered.{Gathered}
use Rattle.mb_core.proofs.checkpoints.floors_under.Given as goal

abbrev pub invariant-loop-host : goal.invariant-loop-host
invariant-loop-host g l = Gathered l.replica (λ me d h. if_covered l.pos (floor_below d h l.pos)) l.floors l.host
