use Rattle.mb_members.proofs.ListLaws.{some_is}
use Rattle.mb_world.proofs.world.World.stamp_some.Goals as goal

pub returns-in-Some-clause-stands : goal.returns-in-Some-clause-stands
returns-in-Some-clause-stands g c = λ y x m h faulty same. c.stamp.ensures.stands y x m h faulty (some_is _ _ (rw c.in-Some.is at same))

pub returns-in-None-clause-stands : goal.returns-in-None-clause-stands
returns-in-None-clause-stands g c = λ y x m h faulty same. let none = rw c.in-None.is at same in absurd cc
