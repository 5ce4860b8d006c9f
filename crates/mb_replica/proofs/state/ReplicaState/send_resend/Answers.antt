use Rattle.std.proofs.Common.{[], ap, subst}
use Rattle.std.specs.Prelude.{OnOk}
use Rattle.mb_msg.specs.declared.message.Message.{Message}
use Rattle.mb_msg.specs.Stamps.{as_stamped}
use Rattle.mb_model.specs.Sending.{send, to_all}
use Rattle.mb_replica.specs.Represents.{StandsAt}
use Rattle.mb_replica.proofs.Letters.{resend_fits}
use Rattle.mb_replica.proofs.state.ReplicaState.send_resend.Goals as goal

-- src/resends.rt
pub send_own-requires-clause-fits : goal.send_own-requires-clause-fits
send_own-requires-clause-fits g c =
    let t = c.requires in
    resend_fits t.me c.args.self.now t.history t.represents c.in_ok-message.message (c.in_ok-message.ensures t.me t.history t.represents)

pub send_own-requires-clause-plain : goal.send_own-requires-clause-plain
send_own-requires-clause-plain g c = let t = c.requires in ap as_stamped (c.in_ok-message.ensures t.me t.history t.represents)

pub returns : goal.returns
returns g c = λ me x s.
    subst (λ (m : Message). OnOk c.send_own.result (StandsAt me c.args.self.now c.send_own.new.done (send (to_all m) x))) (c.in_ok-message.ensures me x.history s.represents) (c.send_own.ensures me x [] s)
