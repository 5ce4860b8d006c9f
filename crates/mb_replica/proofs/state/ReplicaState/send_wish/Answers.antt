use Rattle.std.proofs.Common.{[], ap, sym, subst, OnOk}
use Rattle.mb_base.specs.declared.shape.Shape.{Shape}
use Rattle.mb_msg.specs.declared.message.Message.{Message}
use Rattle.mb_msg.specs.Fits.{Fits}
use Rattle.mb_model.specs.Making.{wish}
use Rattle.mb_msg.specs.Stamps.{as_stamped}
use Rattle.mb_model.specs.Sending.{send, to_all}
use Rattle.mb_replica.specs.Represents.{StandsAt}
use Rattle.mb_replica.proofs.state.ReplicaState.send_wish.Goals as goal

-- src/wishes.rt
pub send_own-requires-clause-fits : goal.send_own-requires-clause-fits
send_own-requires-clause-fits g c =
    let w = c.requires in
    subst (λ (m : Message). Fits c.args.self.now.protocol.shape m) (sym (c.wish.ensures w.me w.history w.represents)) (subst (λ (s : Shape). Fits s (wish w.me w.history)) w.represents.who.shape w.fits)

pub send_own-requires-clause-plain : goal.send_own-requires-clause-plain
send_own-requires-clause-plain g c = let w = c.requires in ap as_stamped (c.wish.ensures w.me w.history w.represents)

pub returns : goal.returns
returns g c = λ me x st. subst (λ (m : Message). OnOk c.send_own.result (StandsAt me c.args.self.now c.send_own.new.done (send (to_all m) x))) (c.wish.ensures me x.history st.represents) (c.send_own.ensures me x [] st)
