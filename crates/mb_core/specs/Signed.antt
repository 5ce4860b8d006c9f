-- What signing a message comes to.
use Rattle.std.specs.Prelude.{◌≡◌}
use Rattle.mb_msg.specs.declared.stamped.Stamped.{Stamped as StampedMessage}
use Rattle.mb_msg.specs.Stamps.{ui_of}
use Rattle.mb_msg.specs.AsStamped.{stamped_digest}
use Rattle.mb_core.specs.declared.stamping.Signed.{Signed}

-- It is this message, with its identifier and the digest of its body.
pub record IsSigned (m : StampedMessage) (s : Signed) : Type 0 where
  pub message : s.message ≡ m
  pub ui : s.ui ≡ ui_of m
  pub body : s.body ≡ stamped_digest m
