use Rattle.std.proofs.Common.{◌≡◌, ◌<◌, None, subst}
use Rattle.mb_base.specs.declared.shape.Shape.{Shape}
use Rattle.mb_base.specs.Shapes.{host_count}
use Rattle.mb_schedule.specs.declared.schedule.WorldEvent.{WorldEvent}
use Rattle.mb_world_model.specs.WorldSteps.{happens}
use Rattle.mb_world_model.specs.Stops.{stop_of}
use Rattle.mb_world.proofs.SentLaws.{patience_sends, nudge_sends}
use Rattle.mb_world.proofs.world.World.deliver.Goals as goal

pub give-requires-clause-allowed : goal.give-requires-clause-allowed
give-requires-clause-allowed g c = λ y x h.
    subst (λ (e : WorldEvent). stop_of y.schedule x e ≡ None) c.in-Give.is (c.requires.there y x h)

pub take-requires-clause-allowed : goal.take-requires-clause-allowed
take-requires-clause-allowed g c = λ y x h.
    subst (λ (e : WorldEvent). stop_of y.schedule x e ≡ None) c.in-Take.is (c.requires.there y x h)

pub raw-requires-clause-allowed : goal.raw-requires-clause-allowed
raw-requires-clause-allowed g c = λ y x h.
    subst (λ (e : WorldEvent). stop_of y.schedule x e ≡ None) c.in-Raw.is (c.requires.there y x h)

pub returns-in-Ask-clause-stands : goal.returns-in-Ask-clause-stands
unfolding happens
returns-in-Ask-clause-stands g c = λ y x is reached h. rw c.in-Ask.is (c.ask.ensures.stands y x h)

pub returns-in-Give-clause-stands : goal.returns-in-Give-clause-stands
unfolding happens
returns-in-Give-clause-stands g c = λ y x is reached h. rw c.in-Give.is (c.give.ensures.stands y x is reached h)

pub returns-in-Take-clause-stands : goal.returns-in-Take-clause-stands
unfolding happens
returns-in-Take-clause-stands g c = λ y x is reached h. rw c.in-Take.is (c.take.ensures.stands y x h)

pub returns-in-Raw-clause-stands : goal.returns-in-Raw-clause-stands
returns-in-Raw-clause-stands g c = λ y x is reached h. rw c.in-Raw.is (c.raw.ensures.stands y x is reached h)

pub returns-in-Patience-clause-stands : goal.returns-in-Patience-clause-stands
unfolding happens
returns-in-Patience-clause-stands g c = λ y x is reached h.
    let fits = rw c.in-Patience.is at c.requires.fits in
    let none = rw c.in-Patience.is at (c.requires.there y x h) in
    rw c.in-Patience.is (c.signal.ensures.stands y x is h (patience_sends y x reached c.in-Patience.host (subst (λ (z : Shape). c.in-Patience.host < host_count z) h.rest.shape fits) none))

pub returns-in-Nudge-clause-stands : goal.returns-in-Nudge-clause-stands
unfolding happens
returns-in-Nudge-clause-stands g c = λ y x is reached h.
    let fits = rw c.in-Nudge.is at c.requires.fits in
    let none = rw c.in-Nudge.is at (c.requires.there y x h) in
    rw c.in-Nudge.is (c.signal-in-Nudge.ensures.stands y x is h (nudge_sends y x reached c.in-Nudge.host (subst (λ (z : Shape). c.in-Nudge.host < host_count z) h.rest.shape fits) none))
