-- What is sent has the length of a message.
use Rattle.std.proofs.Common.{◌≡◌, ℕ, zero, suc, ◌≤◌, List, [], ◌∷◌, Some, length, map, refl, subst, arith}
use Rattle.std.specs.Prelude.{slice_get}
use Rattle.std.proofs.lemmas.List.{length-append}
use Rattle.std.proofs.lemmas.Option.{same_Some}
use Rattle.std.specs.Int.{w8}
use Rattle.mb_base.specs.Spelling.{number}
use Rattle.mb_base.specs.declared.shape.Shape.{Shape}
use Rattle.mb_base.specs.declared.limits.TheConstants.{MESSAGE_LIMIT}
use Rattle.mb_msg.specs.declared.message.Message.{Message}
use Rattle.mb_msg.specs.declared.stamped.Stamped.{Stamped as StampedMessage}
use Rattle.mb_msg.specs.declared.stamped.Stamped.TheVariants as stamped
use Rattle.mb_msg.specs.Fits.{Fits, FitsFields, FitsStamped}
use Rattle.mb_msg.specs.Spelling.{spelling, kind_of, behind_kind}
use Rattle.mb_msg.specs.Stamps.{as_message}
use Rattle.mb_msg.specs.declared.event.Sent.{Sent}
use Rattle.mb_encodable.proofs.Sizes.{length8}
use Rattle.mb_replica.specs.declared.told.Outgoing.{Outgoing}
use Rattle.mb_replica.specs.Lengths.{IsMessageLong, AreMessageLong, AreOutgoingLong}
use Rattle.mb_replica.specs.Told.{plain}

pub message_long : (s : Shape) (m : Message) → Fits s m → (1 ≤ length (spelling m)) × (length (spelling m) ≤ MESSAGE_LIMIT)
unfolding spelling
message_long s m f = (omega (arith, length-append (number w8 (kind_of m)) (behind_kind m), length8 (kind_of m)), f.size)

pub stamped_fields : (s : Shape) (m : StampedMessage) → FitsFields s (as_message m) → FitsStamped s m
stamped_fields s (stamped.Prepare m) f = f
stamped_fields s (stamped.Commit m) f = f
stamped_fields s (stamped.Checkpoint m) f = f
stamped_fields s (stamped.ViewChange m) f = f
stamped_fields s (stamped.NewView m) f = f
stamped_fields s (stamped.Enter m) f = f
stamped_fields s (stamped.Open m) f = f
stamped_fields s (stamped.Join m) f = f

-- So it has without what is stamped in it.
pub plain_long : (sent : List Outgoing) → AreOutgoingLong sent → AreMessageLong (map plain sent)
plain_long sent long = λ i one is. of_one sent i one long is where
  of_one : (sent : List Outgoing) (i : ℕ) (one : Sent) → AreOutgoingLong sent → slice_get (map plain sent) i ≡ Some one → IsMessageLong one
  of_one [] i one long is = absurd cc
  of_one (o ∷ os) zero one long is = subst IsMessageLong (same_Some (plain o) one is) (long zero o refl)
  of_one (o ∷ os) (suc i) one long is = of_one os i one (λ j x e. long (suc j) x e) is
