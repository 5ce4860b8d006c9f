-- How long the messages of the client program are.
use Rattle.std.proofs.Common.{◌≡◌, ◌≤◌, ◌^◌, length, arith, length-append}
use Rattle.std.specs.Int.{w8}
use Rattle.mb_base.specs.Shapes.{Bytes}
use Rattle.mb_base.specs.declared.shape.Shape.{Shape}
use Rattle.mb_usig.specs.Tags.{stop_tag}
use Rattle.mb_usig.proofs.Laws.{length-hmac_of}
use Rattle.mb_base.specs.Spelling.{number}
use Rattle.mb_base.proofs.Laws.{number_length, wide8}
use Rattle.mb_msg.specs.declared.message.Message.{Message}
use Rattle.mb_msg.specs.declared.message.Message.TheVariants as message
use Rattle.mb_msg.specs.declared.normal.Stop.{Stop}
use Rattle.mb_msg.specs.Spelling.{kind_of, behind_kind, spelling}
use Rattle.mb_msg.specs.Fits.{FitsStop, Fits}

-- each message begins with its kind
pub spelled_some : (m : Message) → 1 ≤ length (spelling m)
unfolding spelling
spelled_some m = omega (arith, length-append (number w8 (kind_of m)) (behind_kind m), number_length w8 (2 ^ 8) (kind_of m) wide8)

pub small_stop : (s : Shape) (m : Stop) → FitsStop m → Fits s (message.Stop m)
unfolding spelling
small_stop s m f = record { fields = f; size = omega (arith, length-append (number w8 16) m.tag, number_length w8 (2 ^ 8) 16 wide8, f) }

pub stop_tag_length : (secret : Bytes) → length (stop_tag secret) ≡ 32
unfolding stop_tag
stop_tag_length secret = length-hmac_of _ _
