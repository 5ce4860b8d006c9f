-- A journal at rest, and what a crash makes of it while an event is appended.
use Rattle.std.specs.Prelude.{◌≡◌, ◌⊎◌, ℕ, ◌+◌, Bool, true, List, [], ◌∷◌, ◌++◌, length, Option, Result, Ok, Err}
use Rattle.std.specs.List.{AllByRecursion}
use Rattle.mb_base.specs.Shapes.{Bytes}
use Rattle.mb_edge.specs.declared.outside.Failed.{Failed}
use Rattle.mb_edge.specs.declared.outside.Failed.TheVariants as causes
use Rattle.mb_edge.specs.Disks.{Content, Moments, WhereTold, settled, overwritten, IsTorn}
use Rattle.mb_msg.specs.declared.event.Event.{Event}
use Rattle.mb_journal.specs.Files.{record_text, record_size, entries, EventFits, Holds}
use Rattle.mb_journal.specs.declared.journal.AppendStop.{AppendStop}
use Rattle.mb_journal.specs.declared.journal.AppendStop.TheVariants.{Halted, Full, NoMemory, DiskFault}

-- a journal: the header of its file, where the bytes of its records end, the most that they may, and whether it has stopped
pub record JournalState : Type 0 where
  pub header : Bytes
  pub end : ℕ
  pub limit : ℕ
  pub halted : Bool

-- On the disk are a header and the whole records of these events, up to a gate of 0 before `end`, with nothing unsynced. What stands behind
-- that gate means nothing.
pub record RestsAt (header : Bytes) (end : ℕ) (events : List Event) (content : Content) : Type 0 where
  pub tail : Bytes
  pub file : content ≡ settled ((header ++ entries events) ++ 0 ∷ tail)
  pub end_is : end ≡ length (header ++ entries events) + 1
  pub fit : AllByRecursion EventFits events

-- the disk is as the journal left it
abbrev pub IsAtRest : JournalState → List Event → Content → Type 0
IsAtRest journal events content = RestsAt journal.header journal.end events content

-- while bytes are written over others and synced, a crash leaves any bytes in their range, or these
abbrev pub Lands : ℕ → Bytes → Bytes → Bytes → Type 0
Lands at bytes old image = IsTorn (record { at = at; count = length bytes }) old image ⊎ (image ≡ overwritten at bytes old)

-- the gate behind these events is shut
pub record IsShut (header : Bytes) (events : List Event) (file : Bytes) : Type 0 where
  pub tail : Bytes
  pub file_is : file ≡ (header ++ entries events) ++ 0 ∷ tail

-- one event more stands whole behind some gate, with a shut one behind it
pub record IsWhole (header : Bytes) (events : List Event) (event : Event) (file : Bytes) : Type 0 where
  pub gate : ℕ
  pub tail : Bytes
  pub file_is : file ≡ (header ++ entries events) ++ gate ∷ (record_text event ++ 0 ∷ tail)

-- what a crash may leave of a journal of these events to which one is being appended
abbrev pub IsCut : Bytes → List Event → Event → Bytes → Type 0
IsCut header events event file = IsShut header events file ⊎ IsWhole header events event file

-- events that fit, and one that was being appended behind them
pub record IsLeftBy (header : Bytes) (events : List Event) (event : Event) (file : Bytes) : Type 0 where
  pub fit : AllByRecursion EventFits events
  pub fits : EventFits event
  pub cut : IsCut header events event file

-- the file says these events, or these and one more
abbrev pub HoldsWithOrWithout : Bytes → List Event → Event → Bytes → Type 0
HoldsWithOrWithout header events event file = Holds header events file ⊎ Holds header (events ++ event ∷ []) file

-- the journal after an event was appended, or why it was not
abbrev pub after_append : JournalState → Event → Result Unit AppendStop → JournalState
after_append journal event (Ok _) = record journal { end = journal.end + record_size event }
after_append journal event (Err Halted) = journal
after_append journal event (Err (Full length)) = journal
after_append journal event (Err NoMemory) = record journal { halted = true }
after_append journal event (Err DiskFault) = record journal { halted = true }

abbrev pub IsFull : AppendStop → Type 0
IsFull Halted = ⊥
IsFull (Full length) = Unit {0}
IsFull NoMemory = ⊥
IsFull DiskFault = ⊥

-- why nothing was appended where a call of the disk failed
abbrev pub append_stop : Failed → AppendStop
append_stop causes.Device = DiskFault
append_stop causes.NoMemory = NoMemory

-- Whatever events rest in the file, once the device has told of a write, this one rests behind them too.
abbrev pub RestsWithMore : ℕ → Event → Option Moments → Option Moments → Type 0
RestsWithMore end event old new = WhereTold old (λ before. (header : Bytes) (events : List Event) → RestsAt header end events before.now
    → WhereTold new (λ after. RestsAt header (end + record_size event) (events ++ event ∷ []) after.now))

-- So it is of the journal that the file belongs to.
abbrev pub IsAtRestWithMore : JournalState → JournalState → Event → Option Moments → Option Moments → Type 0
IsAtRestWithMore journal journal' event old new = WhereTold old (λ before. (events : List Event) → IsAtRest journal events before.now
    → WhereTold new (λ after. IsAtRest journal' (events ++ event ∷ []) after.now))
