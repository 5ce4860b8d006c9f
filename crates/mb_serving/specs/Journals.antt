-- What a node with a journal does, and what making a journal does, with a config.
use Rattle.std.specs.Prelude.{◌≡◌, ◌≢◌, ℕ, ◌≤◌, ◌<◌, ◌⊎◌, false, List, [], ◌∷◌, ◌++◌, length, reverse, Option, Some, Result, Ok, Err, IfSome}
use Rattle.std.specs.List.{flat_map, AllByRecursion}
use Rattle.std.specs.Io.KnownBytes.{Appends}
use Rattle.mb_base.specs.Shapes.{Bytes, host_count}
use Rattle.mb_edge.specs.Faults.{Rose}
use Rattle.mb_edge.specs.Disks.{Moments, WhereTold, LeavesOnly, settled}
use Rattle.mb_msg.specs.declared.event.Event.{Event}
use Rattle.mb_model.specs.Histories.{History}
use Rattle.mb_kv.specs.Pairs.{Pairs}
use Rattle.mb_core.specs.declared.replica.Replica.{Replica}
use Rattle.mb_journal.specs.Files.{contents_of, Holds}
use Rattle.mb_journal.specs.Keeping.{JournalState, RestsAt, IsAtRest}
use Rattle.mb_journal.specs.declared.making.MakeStop.{MakeStop}
use Rattle.mb_journal.specs.declared.making.MakeStop.TheVariants as making
use Rattle.mb_journal.specs.declared.making.Opened.{Opened}
use Rattle.mb_journal.specs.declared.opening.OpenStop.{OpenStop}
use Rattle.mb_journal.specs.declared.opening.OpenStop.TheVariants as opening
use Rattle.mb_journal.specs.Making.{SaysNothing}
use Rattle.mb_journal.specs.Opening.{KeepsFile}
use Rattle.mb_journal.specs.Headers.{header_text}
use Rattle.mb_node.specs.declared.stops.ServeStop.{ServeStop}
use Rattle.mb_node.specs.declared.stops.ServeStop.TheVariants as stop
use Rattle.mb_node.specs.Receives.{Receives}
use Rattle.mb_node.specs.Events.{left_by, events}
use Rattle.mb_node.specs.Recording.{entries_of}
use Rattle.mb_node.specs.Replaying.{IsReplayed}
use Rattle.mb_node.specs.Serving.{Ends}
use Rattle.mb_node.specs.Keeping.{EndsKept}
use Rattle.mb_sched.specs.declared.configs.Config.{Config}
use Rattle.mb_sched.specs.declared.records.Entry.{Entry}
use Rattle.mb_sched.specs.Records.{record_head, entry_text, EventFits}
use Rattle.mb_answer.specs.Configs.{IsConfigText, Uses}
use Rattle.mb_edge.specs.Seen.{Device, LinkState, DiskState}
use Rattle.mb_answer.specs.Devices.{Says}
use Rattle.mb_answer.specs.Texts.{usage_text, exists_text, bad_journal_text}
use Rattle.mb_node.specs.Outside.{outside}
use Rattle.mb_serving.specs.Nodes.{served_status, HasListened, Fails, IsUnbegun}
use Rattle.mb_serving.specs.Records.{host_of}
use Rattle.mb_serving.specs.declared.journals.TheConstants.{JOURNAL_LIMIT}

-- ---- a journal is made

module _ (c : Config) (host : ℕ) where
  -- A file with bytes stays as it is. Of one without bytes, a crash meanwhile leaves no journal, or one without events.
  pub record SparesFile (before after : DiskState) : Type 0 where
    pub there : WhereTold before.moments (λ old. old.now.reads ≢ [] → after.moments ≡ before.moments)
    pub empty : WhereTold before.moments (λ old. old.now ≡ settled [] → LeavesOnly (SaysNothing (header_text c host)) old after.moments)

  -- The file had no bytes, and has a journal without events.
  pub record IsNew (before after : DiskState) : Type 0 where
    pub empty : WhereTold before.moments (λ old. old.now.reads ≡ [])
    pub rests : WhereTold before.moments (λ old. WhereTold after.moments (λ new. RestsAt (header_text c host) 45 [] new.now))

  -- The file had so many bytes, and keeps them.
  pub record IsThere (len : ℕ) (before after : DiskState) : Type 0 where
    pub some : len ≢ 0
    pub length_is : WhereTold before.moments (λ old. len ≡ length old.now.reads)
    pub kept : after.moments ≡ before.moments

-- A journal is made, or the file has bytes, or the disk fails or memory runs out; or the system has no such host.
pub data Makes (c : Config) (host status : ℕ) (sink sink' : Device) (before after : DiskState) : Type 0 where
  made : host < host_count c.shape → status ≡ 0 → IsNew c host before after → SparesFile c host before after → sink ≡ sink' → Makes c host status sink sink' before after
  exists : (len : ℕ) → host < host_count c.shape → Says 16 (exists_text len) status sink sink' ⊎ ((status ≡ 4) × (sink ≡ sink')) → IsThere c host len before after → Makes c host status sink sink' before after
  unmade : host < host_count c.shape → Fails 14 status before.faults after.faults → SparesFile c host before after → sink ≡ sink' → Makes c host status sink sink' before after
  no_maker : host_count c.shape ≤ host → Says 1 usage_text status sink sink' → before ≡ after → Makes c host status sink sink' before after

-- what the word `journal` does with a text
abbrev pub MakesBy : Bytes → ℕ → ℕ → Device → Device → Device → Device → DiskState → DiskState → Type 0
MakesBy text host status source source' sink sink' before after = Uses text (λ c. Makes c host status sink sink' before after) (before ≡ after) status source source' sink sink'

-- ---- a journal is opened

module _ (c : Config) (host : ℕ) where
  -- what a crash leaves meanwhile
  abbrev pub Opens : DiskState → DiskState → Type 0
  Opens before after = WhereTold before.moments (λ old. KeepsFile (header_text c host) old after.moments)

  -- The file said these events, all of them of bytes, and the disk is at rest at them.
  pub record IsOpen (kept : List Event) (journal : JournalState) (before after : DiskState) : Type 0 where
    pub later : before.faults ≤ after.faults
    pub journal_is : journal ≡ record { header = header_text c host; end = journal.end; limit = JOURNAL_LIMIT; halted = false }
    pub says : WhereTold before.moments (λ old. Holds (header_text c host) kept old.now.reads)
    pub of_bytes : AllByRecursion EventFits kept
    pub rests : WhereTold before.moments (λ old. WhereTold after.moments (λ new. IsAtRest journal kept new.now))
    pub opens : Opens before after

  -- It is no journal of this host, by the offset of its first fault.
  pub record IsBad (at : ℕ) (before after : DiskState) : Type 0 where
    pub says : WhereTold before.moments (λ old. contents_of (header_text c host) old.now.reads ≡ Err at)
    pub opens : Opens before after

-- ---- a node with a journal

-- What a device's fault is told of: its count rose.
abbrev pub Rises : Result (Unit {0}) ServeStop → Device → Device → LinkState → LinkState → DiskState → DiskState → Type 0
Rises (Err stop.SinkFault) sink sink' l l' before after = Rose sink.faults sink'.faults
Rises (Err stop.LinkFault) sink sink' l l' before after = Rose l.faults l'.faults
Rises (Err stop.DiskFault) sink sink' l l' before after = Rose before.faults after.faults
Rises ended sink sink' l l' before after = Unit {0}

module _ (c : Config) (host : ℕ) where
  -- where a host stands behind the events of its journal, the first of them first
  abbrev pub start_of : List Event → History
  start_of kept = left_by (host_of c host) [] (reverse kept)

  -- a record's first lines, and the entries of these events
  abbrev pub kept_head : List Event → Bytes
  kept_head kept = record_head c host ++ flat_map entry_text (entries_of (host_of c host) [] (reverse kept))

  -- The link was opened, the record begins with the entries of the journal's events, and behind them the host served: as its receives say, and each of
  -- their events was kept in the journal before it was acted on.
  pub record ServesOn (kept : List Event) (journal journal' : JournalState) (budget : ℕ) (ended : Result (Unit {0}) ServeStop) (sink sink' : Device) (l l' : LinkState) (opened after : DiskState) : Type 0 where
    pub receives : Receives
    pub heard : HasListened c host l l' receives
    pub begun : Option Bytes
    pub head : Appends sink.bytes begun (kept_head kept)
    pub replica : Replica Pairs
    pub ends : Ends (host_of c host) (start_of kept) budget (record { written = begun; sent = l.sent }) (outside sink' l') replica receives ended
    pub keeps : EndsKept (host_of c host) (start_of kept) (record { written = begun; sent = l.sent }) (outside sink' l') replica journal journal' opened.moments after.moments (events (host_of c host) (start_of kept) receives) ended
    pub cause : Rises ended sink sink' l l' opened after

  -- It served, or failed before the first receive and left the disk as it was.
  pub data ServesMore (kept : List Event) (journal : JournalState) (budget status : ℕ) (sink sink' : Device) (l l' : LinkState) (opened after : DiskState) : Type 0 where
    served : (journal' : JournalState) (ended : Result (Unit {0}) ServeStop) → status ≡ served_status ended → ServesOn kept journal journal' budget ended sink sink' l l' opened after
        → ServesMore kept journal budget status sink sink' l l' opened after
    unbegun : IsUnbegun c host (kept_head kept) status sink sink' l l' → opened ≡ after → ServesMore kept journal budget status sink sink' l l' opened after

-- A host that stands behind a journal's events, with their entries, resumes: it serves behind these events, whichever they are.
abbrev pub Resumes : Config → ℕ → List Entry → Replica Pairs → JournalState → ℕ → Result (Unit {0}) ServeStop → Device → Device → LinkState → LinkState → DiskState → DiskState → Type 0
Resumes c host entries replica journal budget ended sink sink' l l' between after =
    (kept : List Event) → IsReplayed (host_of c host) [] (reverse kept) entries replica → ServesMore c host kept journal budget (served_status ended) sink sink' l l' between after

-- The journal of a host of the config's system is opened, and the host serves behind its events; or it is no journal, or the disk fails or memory runs out;
-- or the system has no such host.
pub data ServesKept (c : Config) (host budget status : ℕ) (sink sink' : Device) (l l' : LinkState) (before after : DiskState) : Type 0 where
  opened : (kept : List Event) (journal : JournalState) (between : DiskState) → host < host_count c.shape → IsOpen c host kept journal before between → ServesMore c host kept journal budget status sink sink' l l' between after
      → ServesKept c host budget status sink sink' l l' before after
  bad : (at : ℕ) → host < host_count c.shape → Says 17 (bad_journal_text at) status sink sink' ⊎ ((status ≡ 4) × (sink ≡ sink')) → IsBad c host at before after → l ≡ l' → ServesKept c host budget status sink sink' l l' before after
  unread : host < host_count c.shape → Fails 14 status before.faults after.faults → Opens c host before after → sink ≡ sink' → l ≡ l' → ServesKept c host budget status sink sink' l l' before after
  no_host : host_count c.shape ≤ host → Says 1 usage_text status sink sink' → l ≡ l' → before ≡ after → ServesKept c host budget status sink sink' l l' before after

-- what a node with a journal does with a text
abbrev pub KeptNodes : Bytes → ℕ → ℕ → ℕ → Device → Device → Device → Device → LinkState → LinkState → DiskState → DiskState → Type 0
KeptNodes text host budget status source source' sink sink' l l' before after =
    Uses text (λ c. ServesKept c host budget status sink sink' l l' before after) ((l ≡ l') × (before ≡ after)) status source source' sink sink'

-- the statuses of both words
abbrev pub making_statuses : List ℕ
making_statuses = 0 ∷ 1 ∷ 2 ∷ 4 ∷ 5 ∷ 6 ∷ 14 ∷ 16 ∷ []

abbrev pub kept_node_statuses : List ℕ
kept_node_statuses = 0 ∷ 1 ∷ 2 ∷ 4 ∷ 5 ∷ 6 ∷ 7 ∷ 9 ∷ 14 ∷ 15 ∷ 17 ∷ []

-- By the text of a config a host of its system serves with a journal of its own, unless memory runs out, the journal has no room or a device fails.
abbrev pub IsServedKept : Bytes → ℕ → ℕ → DiskState → Type 0 → Type 0
IsServedKept text host status before fault = (c : Config) (old : Moments) (kept : List Event) → IsConfigText text c → host < host_count c.shape → before.moments ≡ Some old
    → Holds (header_text c host) kept old.now.reads → ¬ fault → (status ≡ 0) ⊎ ((status ≡ 4) ⊎ ((status ≡ 9) ⊎ (status ≡ 15)))

-- ---- by calls

-- what making the file answers
abbrev pub IsMade : Config → ℕ → Result (Unit {0}) MakeStop → DiskState → DiskState → Type 0
IsMade c host (Ok done) before after = IsNew c host before after
IsMade c host (Err (making.Exists len)) before after = IsThere c host len before after
IsMade c host (Err e) before after = Unit {0}

-- what opening it answers
abbrev pub IsOpened : Config → ℕ → Result Opened OpenStop → DiskState → DiskState → Type 0
IsOpened c host (Ok found) before after = IsOpen c host found.events.items found.journal before after
IsOpened c host (Err (opening.BadJournal at)) before after = IsBad c host at before after
IsOpened c host (Err e) before after = Opens c host before after

-- a stop of writing
abbrev pub IsOfWriting : ServeStop → Type 0
IsOfWriting stop.SinkFault = Unit {0}
IsOfWriting stop.NoMemory = Unit {0}
IsOfWriting s = ⊥

-- ---- with the text that the source tells

abbrev pub KeepsWith : ℕ → ℕ → ℕ → Device → Device → Device → Device → LinkState → LinkState → DiskState → DiskState → Type 0
KeepsWith host budget status source source' sink sink' link link' disk disk' = IfSome source.bytes (λ text. KeptNodes text host budget status source source' sink sink' link link' disk disk')

-- Where no device fails it comes to one of its ends.
abbrev pub KeepsServing : ℕ → ℕ → Device → Device → Device → Device → LinkState → LinkState → DiskState → DiskState → Type 0
KeepsServing host status source source' sink sink' link link' disk disk' = IfSome source.bytes (λ text. IsServedKept text host status disk
    (Rose source.faults source'.faults ⊎ (Rose sink.faults sink'.faults ⊎ (Rose link.faults link'.faults ⊎ Rose disk.faults disk'.faults))))
