use Rattle.mb_world.proofs.WorldLaws.{host_given}
use Rattle.mb_world.proofs.world.World.give_host.Goals as goal

pub returns-clause-stands : goal.returns-clause-stands
returns-clause-stands g c = λ y x is h clean. host_given y c.args.self.now _ x c.args.host c.args.bytes c.step.result h (λ z. c.step.ensures.stands y z is) clean
