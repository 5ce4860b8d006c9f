-- What a node writes, also where it was cut off: a record of its host's own steps, as far as it has whole pairs of lines.
use Rattle.std.specs.Prelude.{◌≡◌, ℕ, ◌≤◌, ◌<◌, ◌⊎◌, ◌++◌, List, [], length, reverse, Option, Some}
use Rattle.std.specs.List.{flat_map, AllByRecursion}
use Rattle.std.specs.Io.KnownBytes.{Appends}
use Rattle.mb_base.specs.Shapes.{Bytes, host_count}
use Rattle.mb_edge.specs.Told.{with_more}
use Rattle.mb_edge.specs.Disks.{WhereTold}
use Rattle.mb_msg.specs.declared.event.Event.{Event}
use Rattle.mb_journal.specs.Files.{Holds}
use Rattle.mb_journal.specs.Headers.{header_text}
use Rattle.mb_node.specs.Receives.{Receives}
use Rattle.mb_node.specs.Events.{events}
use Rattle.mb_node.specs.Recording.{entries_of, lines_of}
use Rattle.mb_sched.specs.declared.configs.Config.{Config}
use Rattle.mb_sched.specs.declared.records.Entry.{Entry}
use Rattle.mb_sched.specs.declared.records.Record.{Record}
use Rattle.mb_sched.specs.Configs.{SettingsFit}
use Rattle.mb_sched.specs.Records.{max_record, record_head, entry_text, EventFits, IsShort}
use Rattle.mb_answer.specs.Configs.{IsConfigText}
use Rattle.mb_edge.specs.Seen.{Device, LinkState, DiskState}
use Rattle.mb_answer.specs.Records.{IsRecordText}
use Rattle.mb_serving.specs.Nodes.{events_of, Serves}
use Rattle.mb_serving.specs.Records.{host_of, IsOwnRecord, same_text}
use Rattle.mb_serving.specs.Journals.{start_of, IsBad, ServesKept}

-- a host of a config
module _ (c : Config) (host : ℕ) where
  -- A first part of what the host writes of these events behind the record's first lines: with those it is the text of a record of the host's own entries. They
  -- are those of the first events, as many as have whole pairs of lines.
  pub record IsOwnSoFar (es : List Event) (part : Bytes) : Type 0 where
    pub read : Record
    pub is : IsRecordText (record_head c host ++ part) read
    pub own : IsOwnRecord read
    pub later : List Entry
    pub first : read.entries ++ later ≡ entries_of (host_of c host) [] es
    pub cut : Bytes
    pub parts : part ≡ flat_map entry_text read.entries ++ cut
    pub short : IsShort cut later

  -- A first part was written of the record's first lines and the lines of these events.
  pub record WritesFront (es : List Event) (old new : Option Bytes) : Type 0 where
    pub part : Bytes
    pub rest : Bytes
    pub whole : part ++ rest ≡ record_head c host ++ lines_of (host_of c host) [] es
    pub written : Appends old new part

  -- A first part was written of the record's first lines and the lines of what was received. All events of that are of bytes.
  pub record WritesReceived (before after : LinkState) (old new : Option Bytes) : Type 0 where
    pub receives : Receives
    pub received : after.received ≡ with_more before.received (reverse receives)
    pub of_bytes : AllByRecursion EventFits (events_of c host receives)
    pub writes : WritesFront (events_of c host receives) old new

  -- The text is what the host left of these events: the record's first lines, and a first part of what stands behind them.
  pub record IsLeft (es : List Event) (text : Bytes) : Type 0 where
    pub settings : SettingsFit c
    pub there : host < host_count c.shape
    pub of_bytes : AllByRecursion EventFits es
    pub part : Bytes
    pub rest : Bytes
    pub whole : part ++ rest ≡ lines_of (host_of c host) [] es
    pub text_is : text ≡ record_head c host ++ part
    pub within : length text ≤ max_record

  -- Each first part of what was written that has the record's first lines and at most the length of a record is what the host left of these events.
  abbrev pub LeavesParts : List Event → Bytes → Type 0
  LeavesParts es written = (part rest : Bytes) → part ++ rest ≡ written → length (record_head c host) ≤ length part → length part ≤ max_record → IsLeft es part

  -- The file says these events, and behind them these were received: what was written is what the host left of both.
  pub record LeavesKept (before : DiskState) (l l' : LinkState) (written : Bytes) : Type 0 where
    pub kept : List Event
    pub says : WhereTold before.moments (λ old. Holds (header_text c host) kept old.now.reads)
    pub receives : Receives
    pub received : l'.received ≡ with_more l.received (reverse receives)
    pub leaves : LeavesParts (events (host_of c host) (start_of c host kept) receives ++ reverse kept) written

-- What a node left is answered by how many of its events have whole pairs of lines, unless memory runs out or a device fails.
abbrev pub RetracesLeft : Bytes → ℕ → Type 0 → Device → Device → Type 0
RetracesLeft text status fault old new = (c : Config) (host : ℕ) (es : List Event) (left : IsLeft c host es text) → ¬ fault
    → (status ≡ 4) ⊎ ((status ≡ 0) × ((own : IsOwnSoFar c host es left.part) × Appends old.bytes new.bytes (same_text (length own.read.entries))))

-- However a node ends, what it wrote is what its host left of the events that it received.
abbrev pub NodesLeaveRecords : Type 0
NodesLeaveRecords = (text : Bytes) (c : Config) (host budget status : ℕ) (sink sink' : Device) (before after : LinkState) (written : Bytes) → IsConfigText text c → host < host_count c.shape → Serves c host budget status sink sink' before after
    → sink.bytes ≡ Some [] → sink'.bytes ≡ Some written
    → (receives : Receives) × (after.received ≡ with_more before.received (reverse receives)) × LeavesParts c host (events_of c host receives) written

-- So it is where the node opened a journal: of the journal's events, and of those that it received behind them. Else the file is no journal of the host, or nothing was written.
abbrev pub KeptNodesLeaveRecords : Type 0
KeptNodesLeaveRecords = (text : Bytes) (c : Config) (host budget status : ℕ) (sink sink' : Device) (l l' : LinkState) (before after : DiskState) (written : Bytes) → IsConfigText text c → host < host_count c.shape
    → ServesKept c host budget status sink sink' l l' before after → sink.bytes ≡ Some [] → sink'.bytes ≡ Some written
    → LeavesKept c host before l l' written ⊎ (((at : ℕ) × IsBad c host at before after) ⊎ (written ≡ []))

-- From the end of the record's first lines on, each first part of what a host writes is read as a record of its own entries.
abbrev pub WrittenRecordsAreOwn : Type 0
WrittenRecordsAreOwn = (c : Config) (host : ℕ) (es : List Event) (part rest : Bytes) → SettingsFit c → host < host_count c.shape → AllByRecursion EventFits es
    → part ++ rest ≡ lines_of (host_of c host) [] es → length (record_head c host ++ part) ≤ max_record → IsOwnSoFar c host es part
