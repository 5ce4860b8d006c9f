-- A stamped message without its identifier: the digest of its body, of which kinds hashing it may want memory, and the message that it is.
use Rattle.std.specs.Prelude.{◌≡◌, Bool, true, false, replicate, None, Some, Result, Ok, Err}
use Rattle.mb_base.specs.Shapes.{Bytes}
use Rattle.mb_parts.specs.Spelling.{batch_bytes}
use Rattle.mb_msg.specs.declared.stamped.Stamped.{Stamped}
use Rattle.mb_msg.specs.declared.stamped.Stamped.TheVariants as stamped
use Rattle.mb_msg.specs.declared.message.Message.{Message}
use Rattle.mb_msg.specs.Bodies.{body_digest}
use Rattle.mb_msg.specs.Spelling.{floors_body_bytes, change_body_bytes, new_view_body_bytes, open_body_bytes}
use Rattle.mb_msg.specs.Stamps.{as_stamped}

-- a message as a stamped one, or the message itself where it is none
abbrev pub GivesStamped : Message → Result Stamped Message → Type 0
GivesStamped m (Ok x) = as_stamped m ≡ Some x
GivesStamped m (Err other) = (as_stamped m ≡ None) × (other ≡ m)

-- the digest of the body, in either form; zeros for the kinds that have none
abbrev pub stamped_digest : Stamped → Bytes
stamped_digest (stamped.Prepare m) = body_digest batch_bytes m.body
stamped_digest (stamped.Commit m) = body_digest batch_bytes m.body
stamped_digest (stamped.Checkpoint m) = body_digest floors_body_bytes m.body
stamped_digest (stamped.ViewChange m) = body_digest change_body_bytes m.body
stamped_digest (stamped.NewView m) = body_digest new_view_body_bytes m.body
stamped_digest (stamped.Open m) = body_digest open_body_bytes m.body
stamped_digest _ = replicate 32 0

-- Of its kind a whole body is spelled before it is hashed, for which memory is wanted.
abbrev pub is_spelled_to_hash : Stamped → Bool
is_spelled_to_hash (stamped.ViewChange m) = true
is_spelled_to_hash (stamped.NewView m) = true
is_spelled_to_hash (stamped.Open m) = true
is_spelled_to_hash _ = false
