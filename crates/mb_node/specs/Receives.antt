-- What receives mean: which messages they make whole, with one reassembler for each sender.
use Rattle.std.specs.Prelude.{ℕ, Bool, false, ◌||◌, List, [], ◌∷◌, nat_lt, ◌==◌, if◌then◌else◌, Option, Some, None}
use Rattle.mb_base.specs.Shapes.{Bytes, host_count}
use Rattle.mb_base.specs.Spelling.{IsBytes}
use Rattle.mb_base.specs.declared.shape.Shape.{Shape}
use Rattle.mb_frag.specs.declared.pushed.Pushed.TheVariants.{Whole}
use Rattle.mb_frag.specs.Held.{Held, Step, nothing_held, push_of}

-- what was received, newest first: datagrams, and none where it was quiet
abbrev pub Receives : Type 0
Receives = List (Option Bytes)

-- a datagram is of bytes
abbrev pub ReceiveFits : Option Bytes → Type 0
ReceiveFits None = Unit {0}
ReceiveFits (Some datagram) = IsBytes datagram

-- the number of the client program, as a sender and as a peer
abbrev pub client_peer : ℕ
client_peer = 255

-- A datagram begins with its sender.
abbrev pub is_from : ℕ → Bytes → Bool
is_from sender [] = false
is_from sender (b ∷ more) = b == sender

-- what the reassembler of a sender holds then
unfoldable pub held_of : ℕ → Receives → Held
held_of sender [] = nothing_held
held_of sender (None ∷ before) = held_of sender before
held_of sender (Some datagram ∷ before) = if is_from sender datagram then (push_of (held_of sender before) datagram).1 else held_of sender before

-- the message that a push made whole
abbrev pub whole_message : Step → Option Bytes
whole_message (Whole, held) = Some held.bytes
whole_message _ = None

-- Hosts send under their numbers, and the client program under one of its own.
abbrev pub is_peer : Shape → ℕ → Bool
is_peer s sender = nat_lt sender (host_count s) || sender == client_peer

-- the message that a datagram makes whole, behind what was received before it
unfoldable pub made_whole : Shape → Receives → Bytes → Option Bytes
made_whole s before [] = None
made_whole s before (sender ∷ more) = if is_peer s sender then whole_message (push_of (held_of sender before) (sender ∷ more)) else None
