-- What a serving node keeps in its journal.
use Rattle.std.specs.Prelude.{◌≡◌, ◌⊎◌, ℕ, ◌+◌, ◌<◌, ◌≤◌, max, Bool, false, List, [], ◌∷◌, ◌++◌, reverse, Option, Some, Result, Ok, Err}
use Rattle.std.specs.List.{AllByRecursion}
use Rattle.mb_base.specs.Shapes.{Bytes}
use Rattle.mb_service.specs.Machine.{ServiceMachine}
use Rattle.mb_msg.specs.declared.event.Event.{Event}
use Rattle.mb_model.specs.Histories.{History, Identity}
use Rattle.mb_steps.specs.Arises.{IsWhole}
use Rattle.mb_edge.specs.Seen.{Device, LinkState, DiskState}
use Rattle.mb_edge.specs.Told.{with_more}
use Rattle.mb_edge.specs.Disks.{Moments, WhereTold, LeavesOnly}
use Rattle.mb_journal.specs.Files.{record_size}
use Rattle.mb_journal.specs.Keeping.{JournalState, RestsAt, IsAtRest, IsLeftBy}
use Rattle.mb_journal.specs.declared.journal.AppendStop.{AppendStop}
use Rattle.mb_journal.specs.declared.journal.AppendStop.TheVariants as append
use Rattle.mb_core.specs.declared.replica.Replica.{Replica}
use Rattle.mb_core.specs.Represents.{Represents}
use Rattle.mb_replica.specs.Represents.{Serves}
use Rattle.mb_node.specs.declared.node.Node.{Node}
use Rattle.mb_node.specs.declared.stops.ServeStop.{ServeStop}
use Rattle.mb_node.specs.declared.stops.ServeStop.TheVariants as stop
use Rattle.mb_node.specs.Stops.{IsOfDisk}
use Rattle.mb_node.specs.Receives.{Receives, ReceiveFits}
use Rattle.mb_node.specs.Events.{events}
use Rattle.mb_node.specs.Outside.{Outside, outside}
use Rattle.mb_node.specs.Serving.{AreDone, StandsBehind, Ends}
use Rattle.mb_node.specs.Rounds.{IsServing, GoesOn, IsStopped}

-- ---- the disk and the journal

-- The disk is at rest at these events, and while one more is appended a crash leaves them with it or without.
pub record IsAppended (header : Bytes) (events : List Event) (e : Event) (old new : Moments) : Type 0 where
  pub end : ℕ
  pub rests : RestsAt header end events old.now
  pub leaves : LeavesOnly (IsLeftBy header events e) old (Some new)

-- These events, the last of them first, were appended one behind the other.
abbrev pub AreAppended : Bytes → List Event → List Event → Moments → Moments → Type 0
AreAppended header kept [] old new = new ≡ old
AreAppended header kept (e ∷ es) old new = (mid : Moments) × AreAppended header kept es old mid × IsAppended header (kept ++ reverse es) e mid new

-- a journal later: its file and its limit are the same, and no record was written behind the limit
pub record IsLater (journal now : JournalState) : Type 0 where
  pub header : now.header ≡ journal.header
  pub limit : now.limit ≡ journal.limit
  pub within : now.end ≤ max journal.end journal.limit

-- Behind what the disk was at rest at, an append of each of these events was begun, the last of them first. Where the journal has not stopped, the
-- disk is at rest at those that were acknowledged.
pub record Keeps (journal now : JournalState) (kept : List Event) (old : Moments) (told : Option Moments) (begun acknowledged : List Event) : Type 0 where
  pub later : Moments
  pub told_is : told ≡ Some later
  pub appended : AreAppended journal.header kept begun old later
  pub rests : now.halted ≡ false → IsAtRest now (kept ++ reverse acknowledged) later.now

-- whatever it was at rest at, where the disk tells it
pub record AreKept (journal now : JournalState) (told new : Option Moments) (begun acknowledged : List Event) : Type 0 where
  pub goes_on : IsLater journal now
  pub keeps : WhereTold told (λ old. (kept : List Event) → IsAtRest journal kept old.now → Keeps journal now kept old new begun acknowledged)

-- Where the journal is told to be full, the record of this event would pass its limit, and told is where its records end.
abbrev pub IsFullFor : ServeStop → JournalState → Event → Type 0
IsFullFor (stop.Full length) journal e = (length ≡ journal.end) × (journal.limit < journal.end + record_size e) × (journal.halted ≡ false)
IsFullFor s journal e = Unit {0}

-- one event
abbrev pub KeepsOne : JournalState → JournalState → Option Moments → Option Moments → Event → Result (Unit {0}) ServeStop → Type 0
KeepsOne journal now told new e (Ok _) = AreKept journal now told new (e ∷ []) (e ∷ [])
KeepsOne journal now told new e (Err s) = AreKept journal now told new (e ∷ []) [] × IsFullFor s now e

-- what a node answers where nothing was appended
abbrev pub append_stop : AppendStop → ServeStop
append_stop append.Halted = stop.NoMemory
append_stop (append.Full length) = stop.Full length
append_stop append.NoMemory = stop.NoMemory
append_stop append.DiskFault = stop.DiskFault

-- ---- one receive

-- Behind these events there was one more that was kept, or none.
pub record KeepsLast (s : ServeStop) (journal journal' : JournalState) (told told' : Option Moments) (es all : List Event) : Type 0 where
  pub more : List Event
  pub events_are : all ≡ more ++ es
  pub keeps : AreKept journal journal' told told' more more
  pub runs : journal'.halted ≡ false
  pub other : ¬ IsOfDisk s

-- Behind these events there was one more that was not acknowledged. The host took no step for it, and of it nothing was written or sent.
pub record LacksLast {V : Type 0} (me : Identity V) (start : History) (before there : Outside) (r : Replica V) (s : ServeStop) (journal journal' : JournalState) (told told' : Option Moments) (es all : List Event) : Type 0 where
  pub last : Event
  pub events_are : all ≡ last ∷ es
  pub keeps : AreKept journal journal' told told' (last ∷ []) []
  pub unsent : AreDone me start before there es
  pub stands : StandsBehind me start r es
  pub unwritten : ¬ (s ≡ stop.SinkFault)
  pub full : IsFullFor s journal' last

module _ {V : Type 0} (machine : ServiceMachine V) where
  -- One receive more, whose event was kept, if it was one.
  pub record KeepsOn (old now : Node) (r_old r_now : Replica V) (journal journal' : JournalState) (told told' : Option Moments) (told_before told_now : Option Receives) (here there : Outside) (stopped : Bool) : Type 0 where
    pub on : GoesOn machine old now r_old r_now told_before told_now here there stopped
    pub more : List Event
    pub events_are : (me : Identity V) (start : History) (before : Outside) (receives : Receives) → IsServing me start before receives here old r_old → events me start (on.one ∷ receives) ≡ more ++ events me start receives
    pub keeps : AreKept journal journal' told told' more more

  -- It stopped on the way.
  pub record KeepsUntil (old : Node) (r_old r_now : Replica V) (s : ServeStop) (journal journal' : JournalState) (told told' : Option Moments) (told_before told_now : Option Receives) (here there : Outside) : Type 0 where
    pub until : IsStopped machine old r_old r_now told_before told_now here there
    pub keeps : (me : Identity V) (start : History) (before : Outside) (receives : Receives) → IsServing me start before receives here old r_old
        → KeepsLast s journal journal' told told' (events me start receives) (events me start (until.more ++ receives))
        ⊎ LacksLast me start before there r_now s journal journal' told told' (events me start receives) (events me start (until.more ++ receives))

  abbrev pub KeptRounds : Node → Node → Replica V → Replica V → JournalState → JournalState → Option Moments → Option Moments → Option Receives → Option Receives → Outside → Outside → Result Bool ServeStop → Type 0
  KeptRounds old now r_old r_now journal journal' told told' told_before told_now here there (Ok stopped) = KeepsOn old now r_old r_now journal journal' told told' told_before told_now here there stopped
  KeptRounds old now r_old r_now journal journal' told told' told_before told_now here there (Err (stop.Budget n)) = ⊥
  KeptRounds old now r_old r_now journal journal' told told' told_before told_now here there (Err s) = KeepsUntil old r_old r_now s journal journal' told told' told_before told_now here there

-- ---- all receives

-- All events were acknowledged, and the journal has not stopped.
pub record HasAll (journal journal' : JournalState) (told told' : Option Moments) (es : List Event) : Type 0 where
  pub keeps : AreKept journal journal' told told' es es
  pub runs : journal'.halted ≡ false

-- The last event was not acknowledged. The host took no step for it, and of it nothing was written or sent.
pub record LacksOne {V : Type 0} (me : Identity V) (d : History) (before now : Outside) (r : Replica V) (s : ServeStop) (journal journal' : JournalState) (told told' : Option Moments) (all : List Event) : Type 0 where
  pub last : Event
  pub es : List Event
  pub events_are : all ≡ last ∷ es
  pub keeps : AreKept journal journal' told told' (last ∷ es) es
  pub unsent : AreDone me d before now es
  pub stands : StandsBehind me d r es
  pub unwritten : ¬ (s ≡ stop.SinkFault)
  pub full : IsFullFor s journal' last

-- All events were kept. Where serving stopped on the way, the last one may have been acknowledged, or not: it was not where the disk failed or the
-- journal was full.
abbrev pub EndsKept : {V : Type 0} (me : Identity V) → History → Outside → Outside → Replica V → JournalState → JournalState → Option Moments → Option Moments → List Event → Result (Unit {0}) ServeStop → Type 0
EndsKept me d before now r journal journal' told told' es (Ok _) = HasAll journal journal' told told' es
EndsKept me d before now r journal journal' told told' es (Err (stop.Budget n)) = HasAll journal journal' told told' es
EndsKept me d before now r journal journal' told told' es (Err s) = (HasAll journal journal' told told' es × ¬ IsOfDisk s) ⊎ LacksOne me d before now r s journal journal' told told' es

module _ {V : Type 0} (machine : ServiceMachine V) where
  -- Serving did what the receives mean that the link tells, whatever history the host stood for, and each event was kept before it was acted on.
  pub record HasServedKept (old new : Replica V) (journal journal' : JournalState) (told told' : Option Moments) (budget : ℕ) (told_before told_now : Option Receives) (before now : Outside) (ended : Result (Unit {0}) ServeStop) : Type 0 where
    pub receives : Receives
    pub told_is : told_now ≡ with_more told_before (reverse receives)
    pub of_bytes : AllByRecursion ReceiveFits receives
    pub ends : (me : Identity V) (d : History) → Serves machine me → Represents me old d → IsWhole d
        → Ends me d budget before now new receives ended × EndsKept me d before now new journal journal' told told' (events me d receives) ended

-- ---- of devices

module _ {V : Type 0} (machine : ServiceMachine V) where
  abbrev pub RoundsKept : Node → Node → Replica V → Replica V → JournalState → JournalState → DiskState → DiskState → LinkState → LinkState → Device → Device → Result Bool ServeStop → Type 0
  RoundsKept old now r_old r_now journal journal' disk disk' link link' sink sink' result =
      KeptRounds machine old now r_old r_now journal journal' disk.moments disk'.moments link.received link'.received (outside sink link) (outside sink' link') result

  abbrev pub ServesAndKeeps : Replica V → Replica V → JournalState → JournalState → ℕ → DiskState → DiskState → LinkState → LinkState → Device → Device → Result (Unit {0}) ServeStop → Type 0
  ServesAndKeeps old new journal journal' budget disk disk' link link' sink sink' ended =
      HasServedKept machine old new journal journal' disk.moments disk'.moments budget link.received link'.received (outside sink link) (outside sink' link') ended
