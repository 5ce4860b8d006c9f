-- What a step tells of what it sent.
use Rattle.std.specs.Prelude.{◌≡◌, Option, Some, Ok, IfSome}
use Rattle.std.specs.Option.{option_map}
use Rattle.mb_base.specs.Shapes.{Bytes}
use Rattle.mb_base.specs.declared.shape.Shape.{Shape}
use Rattle.mb_parts.specs.Bares.{bare_bytes}
use Rattle.mb_msg.specs.declared.event.Event.{Event}
use Rattle.mb_msg.specs.declared.event.Event.TheVariants as event
use Rattle.mb_msg.specs.declared.event.Sent.{Sent}
use Rattle.mb_msg.specs.declared.message.Message.{Message}
use Rattle.mb_msg.specs.declared.stamped.Stamped.{Stamped as StampedMessage}
use Rattle.mb_msg.specs.Reading.{message_of}
use Rattle.mb_msg.specs.Spelling.{spelling}
use Rattle.mb_msg.specs.Stamps.{as_stamped, bare_of}
use Rattle.mb_msg.specs.AsStamped.{stamped_digest}
use Rattle.mb_model.specs.Sending.{Letter}
use Rattle.mb_replica.specs.declared.told.Said.{Said}
use Rattle.mb_replica.specs.declared.told.Outgoing.{Outgoing}

-- what is stamped in a stamped message
abbrev pub said_of : StampedMessage → Said
said_of m = record { bare = bare_bytes (bare_of m); body = stamped_digest m }

-- and in any
abbrev pub said_in : Message → Option Said
said_in m = option_map said_of (as_stamped m)

-- a message that is sent, as its bytes, with what is stamped in it
abbrev pub as_outgoing : Letter → Outgoing
as_outgoing letter = record { to = letter.to; bytes = spelling letter.says; said = said_in letter.says }

-- the message alone
abbrev pub plain : Outgoing → Sent
plain o = record { to = o.to; bytes = o.bytes }

-- ---- what is known of what comes

-- Where a digest is known, it is that of this message's body.
abbrev pub KnowsBody : Option Bytes → StampedMessage → Type 0
KnowsBody known m = IfSome known (λ k. k ≡ stamped_digest m)

-- of a message, where it is stamped
abbrev pub KnowsMessage : Option Bytes → Message → Type 0
KnowsMessage known m = (x : StampedMessage) → as_stamped m ≡ Some x → KnowsBody known x

-- of bytes, where they are a message
abbrev pub KnowsBytes : Shape → Option Bytes → Bytes → Type 0
KnowsBytes s known bytes = (m : Message) → message_of s bytes ≡ Ok m → KnowsMessage known m

-- of what happens, where bytes come
abbrev pub KnowsEvent : Shape → Option Bytes → Event → Type 0
KnowsEvent s known e = (bytes : Bytes) → e ≡ event.Given bytes → KnowsBytes s known bytes
