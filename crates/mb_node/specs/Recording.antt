-- What a record says of events, and its lines.
use Rattle.std.specs.Prelude.{ℕ, Bool, List, [], ◌∷◌, ◌++◌, length, map, codes, if◌then◌else◌}
use Rattle.std.specs.Int.{w8, w32}
use Rattle.std.specs.List.{flat_map}
use Rattle.sha2.specs.Sha256.{sha256}
use Rattle.mb_base.specs.Shapes.{Bytes}
use Rattle.mb_base.specs.Spelling.{number, text}
use Rattle.mb_msg.specs.declared.event.Event.{Event}
use Rattle.mb_msg.specs.declared.event.Sent.{Sent}
use Rattle.mb_msg.specs.declared.event.To.{To}
use Rattle.mb_msg.specs.declared.event.To.TheVariants as to
use Rattle.mb_model.specs.Histories.{History, Identity}
use Rattle.mb_model.specs.HostStep.{transition}
use Rattle.mb_sched.specs.declared.records.Entry.{Entry}
use Rattle.mb_sched.specs.Records.{entry_text}
use Rattle.mb_replica.specs.Represents.{as_sent}
use Rattle.mb_node.specs.Events.{left_by, stops, has_stop}

-- to whom a message is sent, as a byte of the digest
abbrev pub to_byte : To → ℕ
to_byte to.All = 254
to_byte (to.Host h) = h
to_byte (to.Client c) = 255

-- to whom, the length, and the bytes
abbrev pub sent_text : Sent → Bytes
sent_text s = number w8 (to_byte s.to) ++ text w32 s.bytes

unfoldable pub sent_digest : List Sent → Bytes
sent_digest sent = sha256 (flat_map sent_text sent)

-- an event with the count and the digest of what was sent then
abbrev pub entry_with : Event → List Sent → Entry
entry_with e sent = record { event = e; count = length sent; digest = sent_digest sent }

-- behind a right STOP the record ends
abbrev pub end_line : Bool → Bytes
end_line ends = if ends then codes "end\n" else []

abbrev pub lines_with : Entry → Bool → Bytes
lines_with entry ends = entry_text entry ++ end_line ends

module _ {S : Type 0} (self : Identity S) where
  -- what an event sends
  abbrev pub sent_at : History → Event → List Sent
  sent_at d e = map as_sent (transition self d e).left.sent

  -- its entry, and its lines
  abbrev pub entry_at : History → Event → Entry
  entry_at d e = entry_with e (sent_at d e)

  abbrev pub lines_at : History → Event → Bytes
  lines_at d e = lines_with (entry_at d e) (stops self d e)

  module _ (start : History) where
    -- of events, the last of them first: the entries of their record, oldest first
    unfoldable pub entries_of : List Event → List Entry
    entries_of [] = []
    entries_of (e ∷ before) = entries_of before ++ entry_at (left_by self start before) e ∷ []

    -- its lines, and behind a right STOP the line `end`
    unfoldable pub lines_of : List Event → Bytes
    lines_of es = flat_map entry_text (entries_of es) ++ end_line (has_stop self start es)

    -- and all that was sent, oldest first
    unfoldable pub sent_of : List Event → List Sent
    sent_of [] = []
    sent_of (e ∷ before) = sent_of before ++ sent_at (left_by self start before) e
