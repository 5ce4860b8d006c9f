use Rattle.std.proofs.Common.{◌≤◌, length, sym, subst}
use Rattle.mb_base.specs.Shapes.{Bytes}
use Rattle.mb_base.specs.declared.limits.TheConstants.{MESSAGE_LIMIT}
use Rattle.mb_replica.proofs.SentLengths.{message_long}
use Rattle.mb_replica.proofs.state.ReplicaState.send.Goals as goal

-- src/sending.rt
pub push-requires : goal.push-requires
push-requires g c = record {
  length = subst (λ (l : Bytes). (1 ≤ length l) × (length l ≤ MESSAGE_LIMIT)) (sym c.in_ok-encode.ensures.text) (message_long c.args.self.now.protocol.shape c.args.message.now c.requires.fits);
}
