-- What is sent has the length of a message.
use Rattle.std.specs.Prelude.{◌≡◌, ℕ, ◌≤◌, List, Some, length, slice_get}
use Rattle.mb_base.specs.Limits.{message_limit}
use Rattle.mb_msg.specs.declared.event.Sent.{Sent}
use Rattle.mb_replica.specs.declared.told.Outgoing.{Outgoing}

abbrev pub IsMessageLong : Sent → Type 0
IsMessageLong sent = (1 ≤ length sent.bytes) × (length sent.bytes ≤ message_limit)

abbrev pub AreMessageLong : List Sent → Type 0
AreMessageLong sent = (i : ℕ) (one : Sent) → slice_get sent i ≡ Some one → IsMessageLong one

-- the same of messages with what is stamped in them
abbrev pub AreOutgoingLong : List Outgoing → Type 0
AreOutgoingLong sent = (i : ℕ) (one : Outgoing) → slice_get sent i ≡ Some one → (1 ≤ length one.bytes) × (length one.bytes ≤ message_limit)
