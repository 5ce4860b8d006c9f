-- Bytes that are no message, and the offset of their first fault.
use Rattle.std.proofs.Common.{◌≡◌, [], ◌∷◌, ◌++◌, Ok, Err, refl, arith}
use Rattle.std.specs.Prelude.{replicate}
use Rattle.mb_base.specs.Shapes.{Bytes}
use Rattle.mb_base.specs.declared.shape.Shape.{Shape}
use Rattle.mb_msg.specs.declared.message.Message.TheVariants as message
use Rattle.mb_msg.specs.Reading.{message_of}
use Rattle.mb_msg.proofs.OnLiterals.{messages_on_literals}

-- three hosts and one client
abbrev small : Shape
small = record { f = 1; k = 4; clients = 1; faults_in = (omega arith, omega arith); interval_in = (omega arith, omega arith); clients_in = (omega arith, omega arith) }

-- the first byte is no kind
no_kind : message_of small (255 ∷ []) ≡ Err 0
unfolding messages_on_literals
no_kind = refl

no_bytes : message_of small [] ≡ Err 0
unfolding messages_on_literals
no_bytes = refl

-- the number of a REQUEST is missing
no_number : message_of small (1 ∷ 0 ∷ []) ≡ Err 2
unfolding messages_on_literals
no_number = refl

-- a REQUEST of client 0 with the number 1 and the operation that gets the key `a`, up to its tag
abbrev untagged : Bytes
untagged = 1 ∷ 0 ∷ 0 ∷ 0 ∷ 0 ∷ 0 ∷ 0 ∷ 0 ∷ 0 ∷ 1 ∷ 0 ∷ 3 ∷ 2 ∷ 1 ∷ 97 ∷ []

-- its tag is short by one byte
short_tag : message_of small (untagged ++ replicate 31 0) ≡ Err 15
unfolding messages_on_literals
short_tag = refl

-- with the last byte it is a message
whole_tag : message_of small (untagged ++ replicate 32 0) ≡ Ok (message.Request (record { client = 0; seq = 1; op = 2 ∷ 1 ∷ 97 ∷ []; tag = replicate 32 0 }))
unfolding messages_on_literals
whole_tag = refl

-- one more byte is surplus
surplus_byte : message_of small (untagged ++ replicate 33 0) ≡ Err 47
unfolding messages_on_literals
surplus_byte = refl
