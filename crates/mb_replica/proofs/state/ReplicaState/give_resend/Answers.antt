use Rattle.std.proofs.Common.{◌≡◌, [], ap, refl, subst, None}
use Rattle.mb_msg.specs.declared.message.Message.{Message}
use Rattle.mb_msg.specs.declared.event.Outcome.TheVariants as outcome
use Rattle.mb_msg.specs.declared.message.Message.TheVariants as message
use Rattle.mb_model.specs.Histories.{Accepted}
use Rattle.mb_model.specs.PlainChecks.{resend_refusal}
use Rattle.mb_msg.specs.Stamps.{as_stamped}
use Rattle.mb_model.specs.Sending.{write, send, to_host}
use Rattle.mb_model.specs.Making.{log_for}
use Rattle.mb_model.specs.Given.{answer, give_resend}
use Rattle.mb_replica.specs.Represents.{StandsAt}
use Rattle.mb_replica.proofs.Entries.{gives_as}
use Rattle.mb_replica.proofs.Asking.{resend_refused, resend_taken, resend_written}
use Rattle.mb_replica.proofs.Letters.{log_fits}
use Rattle.mb_replica.proofs.state.ReplicaState.give_resend.Goals as goal

-- src/resends.rt
pub returns-in-Some : goal.returns-in-Some
returns-in-Some g c = λ me x s.
    let r = c.args.self.now in
    gives_as me r c.args.done.now c.in-Some.outcome (answer c.in-Some.outcome x) (give_resend me c.args.m.now x) (resend_refused me x c.args.m.now c.in-Some.outcome (c.in-Some.ensures me x.history s.represents)) (refl, s)

pub send_own-requires-clause-fits : goal.send_own-requires-clause-fits
send_own-requires-clause-fits g c =
    let t = c.requires.history in
    log_fits t.me c.args.self.now t.history t.represents c.args.m.now c.in_ok-message.message (c.in_ok-message.ensures t.me t.history t.represents)

pub send_own-requires-clause-plain : goal.send_own-requires-clause-plain
send_own-requires-clause-plain g c = let t = c.requires.history in ap as_stamped (c.in_ok-message.ensures t.me t.history t.represents)

pub returns : goal.returns
returns g c = λ me x s.
    let r = c.args.self.now in
    let m = c.args.m.now in
    let done = c.send_own.new.done in
    let none : None ≡ resend_refusal me x.history m = c.in_default.ensures me x.history s.represents in
    let sent : StandsAt me r done (send (to_host m.host (log_for me x.history m)) x) =
    subst (λ (l : Message). StandsAt me r done (send (to_host m.host l) x)) (c.in_ok-message.ensures me x.history s.represents) (c.in_ok-send_own.ensures me x [] s) in
    gives_as me r done outcome.Took (answer outcome.Took (send (to_host m.host (log_for me x.history m)) (write (Accepted (message.Resend m)) x))) (give_resend me m x) (resend_taken me x m none)
    (refl, resend_written me r done m (send (to_host m.host (log_for me x.history m)) x) c.requires.fits none sent)
