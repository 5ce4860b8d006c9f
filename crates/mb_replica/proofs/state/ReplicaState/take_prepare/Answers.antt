use Rattle.std.proofs.Common.{◌<◌, sym, refl, subst}
use Rattle.mb_base.specs.Shapes.{host_count}
use Rattle.mb_base.specs.declared.shape.Shape.{Shape}
use Rattle.mb_msg.specs.declared.message.Message.TheVariants as message
use Rattle.mb_msg.specs.declared.stamped.Stamped.TheVariants as stamped
use Rattle.mb_model.specs.Histories.{Accepted}
use Rattle.mb_replica.proofs.Accepting.{accepted_stands, entry_added}
use Rattle.mb_replica.proofs.state.ReplicaState.take_prepare.Goals as goal

-- src/commits.rt
pub gate_follows-requires-clause-host : goal.gate_follows-requires-clause-host
gate_follows-requires-clause-host g c = subst (λ (s : Shape). c.args.prepare.ui.host < host_count s) (sym c.accept_prepare.ensures.writes.same.shape) c.requires.fits.ui.host

pub returns : goal.returns
returns g c = λ me x done s none.
    entry_added me c.args.self.now c.gate_follows.new.self done (Accepted (message.Prepare c.args.prepare)) x s refl
    (accepted_stands me c.args.self.now c.accept_prepare.new.self c.gate_follows.new.self (stamped.Prepare c.args.prepare) x.history c.args.mark.now s.represents c.requires.fits none
    (c.accept_prepare.ensures.awaits me x.history s.represents none) c.requires.mark c.gate_follows.ensures)
