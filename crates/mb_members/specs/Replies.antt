-- A client reads REPLYs alone.
use Rattle.std.specs.Prelude.{ℕ, ◌==◌, length, if◌then◌else◌, Option, Some, None, Result, Ok, Err}
use Rattle.mb_base.specs.Reading.{Reads}
use Rattle.mb_msg.specs.declared.normal.Reply.{Reply}
use Rattle.mb_msg.specs.declared.message.Message.{Message}
use Rattle.mb_msg.specs.declared.message.Message.TheVariants as message
use Rattle.mb_msg.specs.declared.event.Outcome.{Outcome}
use Rattle.mb_msg.specs.declared.event.Outcome.TheVariants as outcome

-- the reply that a message is, or what is told of another
abbrev pub reply_of : Message → Result Reply Outcome
reply_of (message.Reply r) = Ok r
reply_of m = Err outcome.Idle

-- the same of what was read
abbrev pub reply_or : Result Message ℕ → Result Reply Outcome
reply_or (Ok m) = reply_of m
reply_or (Err at) = Err (outcome.Malformed at)

-- ---- whom a message is to

-- the client of a message, exactly where it is a REPLY
abbrev pub addressee : Message → Option ℕ
addressee (message.Reply r) = Some r.client
addressee m = None

-- the client of a REPLY that was read, where no byte follows
abbrev pub addressee_behind : Reads Reply → Option ℕ
addressee_behind (Ok r) = if length r.1.rest == 0 then Some r.0.client else None
addressee_behind (Err at) = None
