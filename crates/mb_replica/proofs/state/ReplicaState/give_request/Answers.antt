use Rattle.std.proofs.Common.{◌≡◌, ◌<◌, ◌∙◌, ℕ, [], refl, ap, sym, subst, Some, None}
use Rattle.mb_msg.specs.declared.event.Outcome.{Outcome}
use Rattle.mb_msg.specs.declared.event.Outcome.TheVariants as outcome
use Rattle.mb_msg.specs.declared.message.Message.TheVariants as message
use Rattle.mb_model.specs.Histories.{Accepted}
use Rattle.mb_model.specs.Sending.{write, send, to_client}
use Rattle.mb_model.specs.PlainChecks.{request_refusal}
use Rattle.mb_model.specs.Given.{answer, give_request, stored_reply}
use Rattle.mb_replica.proofs.Entries.{gives_as}
use Rattle.mb_replica.proofs.Asking.{request_taken, request_again, request_refused, again_number, clients_known}
use Rattle.mb_replica.proofs.state.ReplicaState.give_request.Goals as goal

-- src/requests.rt
pub accept-number-requires : goal.accept-number-requires
accept-number-requires g c =
    let t = c.requires.history in
    subst (λ (n : ℕ). c.args.request.client < n) (sym (clients_known t.me c.args.self.now t.history t.represents)) c.requires.fits.client

pub returns-in_default : goal.returns-in_default
returns-in_default g c = λ me x serves s.
    let r = c.args.request in
    let none : None ≡ request_refusal me x.history r = sym c.in_default.is ∙ c.in_ok-refusal.ensures me x.history s.represents in
    gives_as me c.pend.new.self c.args.done.now outcome.Took (answer outcome.Took (write (Accepted (message.Request r)) x)) (give_request me r x) (request_taken me x r none) (refl, c.pend.ensures me x c.args.done.now s (sym none))

pub send_stored_reply-requires-clause-clients : goal.send_stored_reply-requires-clause-clients
send_stored_reply-requires-clause-clients g c = let t = c.requires.history in clients_known t.me c.args.self.now t.history t.represents

pub returns-in-Again : goal.returns-in-Again
returns-in-Again g c = λ me x serves s.
    let r = c.args.request in
    let self = c.args.self.now in
    let done = c.send_stored_reply.new.done in
    let again : Some outcome.Again ≡ request_refusal me x.history r = sym (c.in-Some.is ∙ ap (λ (o : Outcome). Some o) c.in-Again.is) ∙ c.in_ok-refusal.ensures me x.history s.represents in
    let some = again_number me x.history r again c.requires.fits.seq.0 in
    gives_as me self done outcome.Again (answer outcome.Again (send (to_client r.client (stored_reply me x.history r.client)) x)) (give_request me r x) (request_again me x r again) (refl, c.in_ok-send_stored_reply-in-Again.ensures me x [] s some)

pub returns : goal.returns
returns g c = λ me x serves s.
    let r = c.args.request in
    let o = c.in-Some.refusal in
    let some : Some o ≡ request_refusal me x.history r = sym c.in-Some.is ∙ c.in_ok-refusal.ensures me x.history s.represents in
    gives_as me c.args.self.now c.args.done.now o (answer o x) (give_request me r x) (request_refused me x r o c.in_default-refusal.not-Again some) (refl, s)
