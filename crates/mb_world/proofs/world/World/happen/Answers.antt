use Rattle.std.proofs.Common.{◌∙◌, sym}
use Rattle.mb_world.proofs.EventLaws.{stamps_any, stamping_fits}
use Rattle.mb_world.proofs.world.World.happen.Goals as goal

pub stamp_some-requires-clause-host : goal.stamp_some-requires-clause-host
stamp_some-requires-clause-host g c = stamping_fits c.args.self.now.shape c.args.event.now c.in-Some.host (sym c.stamping_host.ensures ∙ c.in-Some.is) c.requires.fits

pub returns-in-Some-clause-stands : goal.returns-in-Some-clause-stands
returns-in-Some-clause-stands g c = λ y x is reached h.
    let one = stamps_any y x c.args.event.now c.in-Some.host c.args.content (sym c.stamping_host.ensures ∙ c.in-Some.is) (c.requires.allowed y x h) in
    rw one.done (c.stamp_some.ensures.stands y x one.content h one.faulty one.same)
