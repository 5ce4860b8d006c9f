-- What the client program hears: each host's pieces are put together, and the replies among the whole messages are counted.
use Rattle.std.specs.Prelude.{ℕ, List, [], ◌∷◌, replicate, Option, Some, None, Result, Ok, Err, slice_get, slice_set}
use Rattle.std.specs.List.{cons_option}
use Rattle.mb_base.specs.Shapes.{Bytes, host_count}
use Rattle.mb_base.specs.declared.shape.Shape.{Shape}
use Rattle.mb_frag.specs.declared.pushed.Pushed.{Pushed}
use Rattle.mb_frag.specs.declared.pushed.Pushed.TheVariants as pushed
use Rattle.mb_frag.specs.Held.{Held, nothing_held, push_of}
use Rattle.mb_msg.specs.declared.message.Message.{Message}
use Rattle.mb_msg.specs.declared.message.Message.TheVariants as message
use Rattle.mb_msg.specs.declared.normal.Reply.{Reply}
use Rattle.mb_msg.specs.Reading.{message_of}
use Rattle.mb_model.specs.Clients.{Asker, no_asker, asks, takes}

-- a receive: a datagram, or none where it was quiet
abbrev pub Receive : Type 0
Receive = Option Bytes

-- ---- whole messages

-- what is held of each host's pieces, and the message that became whole
abbrev pub Joined : Type 0
Joined = List Held × Option Bytes

-- the message that a push makes whole
abbrev pub completed : Pushed → Held → Option Bytes
completed pushed.Whole held = Some held.bytes
completed (pushed.NotYet next) held = None
completed (pushed.Dropped expected) held = None
completed (pushed.BadPiece at) held = None

abbrev pub joined_at : List Held → ℕ → Bytes → Option Held → Joined
joined_at held host datagram None = (held, None)
joined_at held host datagram (Some h) = (slice_set held host (push_of h datagram).1, completed (push_of h datagram).0 (push_of h datagram).1)

-- A datagram belongs to the host that its first byte names. Others are dropped.
abbrev pub joined : List Held → Bytes → Joined
joined held [] = (held, None)
joined held (sender ∷ rest) = joined_at held sender (sender ∷ rest) (slice_get held sender)

-- ---- replies

abbrev pub as_reply : Message → Option Reply
as_reply (message.Reply r) = Some r
as_reply _ = None

abbrev pub reply_or_none : Result Message ℕ → Option Reply
reply_or_none (Ok m) = as_reply m
reply_or_none (Err at) = None

-- the reply that a whole message is, if it is one
abbrev pub reply_in : Shape → Option Bytes → Option Reply
reply_in s None = None
reply_in s (Some bytes) = reply_or_none (message_of s bytes)

-- ---- the client's side

-- what is held of each host's pieces, by host, and what client 0 counts
pub record Hearing : Type 0 where
  pub held : List Held
  pub asker : Asker

abbrev pub no_hearing : Shape → Hearing
no_hearing s = record { held = replicate (host_count s) nothing_held; asker = no_asker }

-- the next request was asked
abbrev pub asked : Hearing → Hearing
asked c = record c { asker = asks c.asker }

abbrev pub held_after : List Held → Receive → List Held
held_after held None = held
held_after held (Some datagram) = (joined held datagram).0

module _ (s : Shape) where
  -- the reply that a receive makes whole
  abbrev pub reply_heard : List Held → Receive → Option Reply
  reply_heard held None = None
  reply_heard held (Some datagram) = reply_in s (joined held datagram).1

  -- those of several receives, in order
  abbrev pub replies_heard : List Held → List Receive → List Reply
  replies_heard held [] = []
  replies_heard held (got ∷ rest) = cons_option (reply_heard held got) (replies_heard (held_after held got) rest)

  module _ (secret : Bytes) where
    abbrev pub counts : Asker → Option Reply → Asker
    counts a None = a
    counts a (Some r) = takes s secret 0 a r

    -- after a receive
    abbrev pub hears : Hearing → Receive → Hearing
    hears c got = record { held = held_after c.held got; asker = counts c.asker (reply_heard c.held got) }

    -- after several, in order
    abbrev pub hears_all : Hearing → List Receive → Hearing
    hears_all c [] = c
    hears_all c (got ∷ rest) = hears_all (hears c got) rest
