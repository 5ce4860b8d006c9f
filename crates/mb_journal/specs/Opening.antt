-- What reading and opening a journal answer.
use Rattle.std.specs.Prelude.{◌≡◌, ◌≢◌, ◌⊎◌, ℕ, ◌+◌, ◌<◌, ◌==◌, if◌then◌else◌, List, [], ◌∷◌, ◌++◌, length, get_or, take, drop, Option, None, Result, Ok, Err}
use Rattle.std.specs.List.{AllByRecursion}
use Rattle.mb_base.specs.Shapes.{Bytes}
use Rattle.mb_edge.specs.declared.outside.Failed.{Failed}
use Rattle.mb_edge.specs.declared.outside.Failed.TheVariants as causes
use Rattle.mb_edge.specs.Disks.{Moments, IsImage, LeavesOnly, overwritten}
use Rattle.mb_msg.specs.declared.event.Event.{Event}
use Rattle.mb_journal.specs.declared.opening.Found.{Found}
use Rattle.mb_journal.specs.declared.opening.OpenStop.{OpenStop}
use Rattle.mb_journal.specs.declared.opening.OpenStop.TheVariants.{BadJournal, DiskFault, NoMemory}
use Rattle.mb_journal.specs.Files.{entries, EventFits, first_event, Contents, contents, contents_of}
use Rattle.mb_journal.specs.Keeping.{IsCut, Lands}

-- behind a front of the file stand the whole records of these events, and then a gate
pub record StandsBefore (start : ℕ) (file : Bytes) (events : List Event) (gate : ℕ) : Type 0 where
  pub front : take gate file ≡ take start file ++ entries events
  pub within : gate < length file
  pub fit : AllByRecursion EventFits events

-- a gate of 1 without a whole record behind it
pub record IsBroken (start : ℕ) (file : Bytes) (gate : ℕ) : Type 0 where
  pub events : List Event
  pub before : StandsBefore start file events gate
  pub one : get_or file gate 0 ≡ 1
  pub none : first_event (drop (gate + 1) file) ≡ None

-- the records from a place on
abbrev pub ReadsRecords : ℕ → Bytes → Result Found OpenStop → Type 0
ReadsRecords start file (Ok found) = StandsBefore start file found.events.items found.gate × (get_or file found.gate 0 ≢ 1)
ReadsRecords start file (Err (BadJournal at)) = IsBroken start file at
ReadsRecords start file (Err DiskFault) = ⊥
ReadsRecords start file (Err NoMemory) = Unit {0}

-- the file is the header, the whole records of these events, and what stands from the gate on
pub record IsParted (header file : Bytes) (events : List Event) (gate : ℕ) : Type 0 where
  pub says : contents_of header file ≡ Ok (contents events gate)
  pub parts : file ≡ (header ++ entries events) ++ drop gate file
  pub gate_is : gate ≡ length (header ++ entries events)
  pub within : gate < length file
  pub other : get_or file gate 0 ≢ 1
  pub fit : AllByRecursion EventFits events

-- a whole file
abbrev pub ReadsJournal : Bytes → Bytes → Result Found OpenStop → Type 0
ReadsJournal header file (Ok found) = IsParted header file found.events.items found.gate
ReadsJournal header file (Err (BadJournal at)) = contents_of header file ≡ Err at
ReadsJournal header file (Err DiskFault) = ⊥
ReadsJournal header file (Err NoMemory) = Unit {0}

-- whatever events a crash left whole while one was appended, they stay so
abbrev pub KeepsEvents : Bytes → Bytes → Bytes → Type 0
KeepsEvents header file image =
    (events : List Event) (event : Event) → AllByRecursion EventFits events → EventFits event → IsCut header events event file → IsCut header events event image

-- A file stays as it reads, but for the gate that ends its events where it says some: that one may become any byte.
abbrev pub IsTouched : Bytes → Bytes → Bytes → Type 0
IsTouched header file image = (image ≡ file) ⊎ ((found : Contents) × (contents_of header file ≡ Ok found) × Lands found.gate (0 ∷ []) file image)

-- So a file that is no journal of this host is left alone, and of one that is nothing gets lost.
pub record StaysWhole (header file image : Bytes) : Type 0 where
  pub touched : IsTouched header file image
  pub keeps : KeepsEvents header file image

-- A crash leaves a file as before, or one that is whole: no journal of this host as it reads, and of a journal its events.
abbrev pub KeepsFile : Bytes → Moments → Option Moments → Type 0
KeepsFile header old new = LeavesOnly (λ image. IsImage old.now image ⊎ StaysWhole header old.now.reads image) old new

-- a gate is shut where it isn't
abbrev pub shut_at : ℕ → ℕ → Bytes → Bytes
shut_at gate byte file = if byte == 0 then file else overwritten gate (0 ∷ []) file

-- what a crash leaves meanwhile
abbrev pub MayShut : ℕ → ℕ → Bytes → Bytes → Type 0
MayShut gate byte file image = (image ≡ file) ⊎ ((byte ≢ 0) × Lands gate (0 ∷ []) file image)

-- why nothing was opened where a call of the disk failed
abbrev pub open_stop : Failed → OpenStop
open_stop causes.Device = DiskFault
open_stop causes.NoMemory = NoMemory
