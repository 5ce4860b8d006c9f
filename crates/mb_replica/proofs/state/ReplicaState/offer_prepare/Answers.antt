use Rattle.std.proofs.Common.{◌≡◌, Some, None, refl, sym, subst}
use Rattle.mb_msg.specs.declared.normal.Prepare.{Prepare}
use Rattle.mb_msg.specs.declared.stamped.Stamped.TheVariants as stamped
use Rattle.mb_model.specs.Sending.{Progress}
use Rattle.mb_model.specs.KindChecks.{stamped_refusal}
use Rattle.mb_model.specs.Given.{named_prepare, offer_prepare}
use Rattle.mb_replica.specs.Represents.{StandsAt}
use Rattle.mb_replica.proofs.CountedVotes.{offered_none, offered_some}
use Rattle.mb_replica.proofs.state.ReplicaState.offer_prepare.Goals as goal

-- src/commits.rt
pub returns-in-None : goal.returns-in-None
returns-in-None g c = λ me x done s behind.
    let p = c.named_prepare-prepare.result in
    let named : p ≡ named_prepare me c.args.m = c.named_prepare-prepare.ensures.named me s.represents.who in
    let none : None ≡ stamped_refusal me x.history (stamped.Prepare p) = c.in-None.ensures me x.history c.args.m s.represents behind named in
    subst (λ (q : Prepare). StandsAt me c.take_prepare.new.self done (offer_prepare me q x)) named
    (subst (λ (y : Progress). StandsAt me c.take_prepare.new.self done y) (sym (offered_none me p x (sym none))) (c.take_prepare.ensures me x done s (sym none)))

pub returns-in-Some : goal.returns-in-Some
returns-in-Some g c = λ me x done s behind.
    let p = c.named_prepare-prepare.result in
    let named : p ≡ named_prepare me c.args.m = c.named_prepare-prepare.ensures.named me s.represents.who in
    let some : Some c.in-Some.outcome ≡ stamped_refusal me x.history (stamped.Prepare p) = c.in-Some.ensures me x.history c.args.m s.represents behind named in
    subst (λ (q : Prepare). StandsAt me c.closing.new.self done (offer_prepare me q x)) named
    (subst (λ (y : Progress). StandsAt me c.closing.new.self done y) (sym (offered_some me p c.in-Some.outcome x (sym some)))
    (c.closing.ensures me x done (stamped.Prepare p) s c.named_prepare-prepare.ensures.fits refl (sym some)))
