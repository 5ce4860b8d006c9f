-- A stamped message is spelled as the message that it is.
use Rattle.std.proofs.Common.{◌≡◌, refl}
use Rattle.mb_msg.specs.declared.stamped.Stamped.{Stamped}
use Rattle.mb_msg.specs.declared.stamped.Stamped.TheVariants as stamped
use Rattle.mb_msg.specs.Spelling.{stamped_bytes, spelling}
use Rattle.mb_msg.specs.Stamps.{as_message}

pub spelled_as_stamped : (m : Stamped) → stamped_bytes m ≡ spelling (as_message m)
unfolding stamped_bytes spelling
spelled_as_stamped (stamped.Prepare m) = refl
spelled_as_stamped (stamped.Commit m) = refl
spelled_as_stamped (stamped.Checkpoint m) = refl
spelled_as_stamped (stamped.ViewChange m) = refl
spelled_as_stamped (stamped.NewView m) = refl
spelled_as_stamped (stamped.Enter m) = refl
spelled_as_stamped (stamped.Open m) = refl
spelled_as_stamped (stamped.Join m) = refl
