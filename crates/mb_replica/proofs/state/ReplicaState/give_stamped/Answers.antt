use Rattle.std.proofs.Common.{◌≡◌, ◌∙◌, None, Some, sym}
use Rattle.mb_model.specs.Compared.{compared_in}
use Rattle.mb_model.specs.KindChecks.{stamped_refusal}
use Rattle.mb_model.specs.Sending.{note}
use Rattle.mb_replica.proofs.Accepting.{noted, given_took, given_closed}
use Rattle.mb_replica.proofs.state.ReplicaState.give_stamped.Goals as goal

-- src/stamped.rt
pub accept-requires-clause-passes : goal.accept-requires-clause-passes
accept-requires-clause-passes g c =
    let h = c.requires.stands in
    record { me = h.me; history = h.history; represents = h.represents; passes = sym (c.in_ok-checked.ensures.refusal h.me h.history h.represents) ∙ c.in-None.is }

pub accept-requires-clause-plan : goal.accept-requires-clause-plan
accept-requires-clause-plan g c = c.in_ok-checked.ensures.plan c.in-None.is

pub returns-in_ok-accept-in-None : goal.returns-in_ok-accept-in-None
returns-in_ok-accept-in-None g c = λ me x done s.
    let a = c.in_ok-checked.checked.arrival in
    let same = c.in_ok-checked.ensures.arrives.1 ∙ c.in_ok-arrival.ensures.1 in
    let none : stamped_refusal me x.history a.message ≡ None = sym (c.in_ok-checked.ensures.refusal me x.history s.represents) ∙ c.in-None.is in
    given_took me c.accept.new.self done a.message c.args.message x same none
    (c.in_ok-accept-in-None.ensures me (note (compared_in me x.history a.message) x) done (noted me c.args.self.now done (compared_in me x.history a.message) x s) none)

pub returns-in-Some : goal.returns-in-Some
returns-in-Some g c = λ me x done s.
    let a = c.in_ok-checked.checked.arrival in
    let is = c.in_ok-checked.ensures.arrives.0 in
    let same = c.in_ok-checked.ensures.arrives.1 ∙ c.in_ok-arrival.ensures.1 in
    let some : stamped_refusal me x.history a.message ≡ Some c.in-Some.outcome = sym (c.in_ok-checked.ensures.refusal me x.history s.represents) ∙ c.in-Some.is in
    given_closed me c.closing.new.self done a.message c.args.message a.ui c.in-Some.outcome x same is.ui some
    (c.closing.ensures me (note (compared_in me x.history a.message) x) done a.message (noted me c.args.self.now done (compared_in me x.history a.message) x s) is.fits is.ui some)
