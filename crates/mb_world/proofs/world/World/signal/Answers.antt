use Rattle.mb_world_model.specs.World.{signal}
use Rattle.mb_world.proofs.world.World.signal.Goals as goal

pub returns-clause-stands : goal.returns-clause-stands
unfolding signal
returns-clause-stands g c = c.step.ensures.stands
