use Rattle.std.proofs.Common.{◌≤◌, length, sym, subst}
use Rattle.mb_base.specs.Shapes.{Bytes}
use Rattle.mb_base.specs.declared.limits.TheConstants.{MESSAGE_LIMIT}
use Rattle.mb_msg.specs.Stamps.{as_message}
use Rattle.mb_replica.proofs.SentLengths.{message_long, stamped_fields}
use Rattle.mb_replica.proofs.state.ReplicaState.send_stamped.Goals as goal

-- src/sending.rt
pub encode_stamped-requires : goal.encode_stamped-requires
encode_stamped-requires g c = stamped_fields c.args.self.now.protocol.shape c.args.message.now c.requires.fits.fields

pub push-requires : goal.push-requires
push-requires g c = record {
  length = subst (λ (l : Bytes). (1 ≤ length l) × (length l ≤ MESSAGE_LIMIT)) (sym c.in_ok-encode_stamped.ensures) (message_long c.args.self.now.protocol.shape (as_message c.args.message.now) c.requires.fits);
}
