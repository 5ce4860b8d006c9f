-- That serving with a journal is a run, whenever it ends.
--
-- A kill is read as the run of the same devices whose next call fails and changes nothing, or, in a write, leaves what was written of it: it is one of those
-- of which this speaks.
use Rattle.std.specs.Prelude.{◌≡◌, ℕ, ◌+◌, ◌≤◌, List, ◌∷◌, ◌++◌, length, reverse, map, Option, Some, None, Result, Ok, Err}
use Rattle.mb_base.specs.Shapes.{Bytes, host_count}
use Rattle.mb_service.specs.Machine.{ServiceMachine}
use Rattle.mb_parts.specs.Counters.{IsBeginning}
use Rattle.mb_msg.specs.declared.event.Event.{Event}
use Rattle.mb_model.specs.Histories.{Identity, onto}
use Rattle.mb_model.specs.Sending.{Letter}
use Rattle.mb_model.specs.HostStep.{after}
use Rattle.mb_steps.specs.Arises.{IsWhole}
use Rattle.mb_edge.specs.Disks.{Moments, IsImage, LeavesOnly}
use Rattle.mb_journal.specs.Keeping.{JournalState, IsAtRest}
use Rattle.mb_core.specs.declared.replica.Replica.{Replica}
use Rattle.mb_core.specs.Represents.{Represents}
use Rattle.mb_replica.specs.Represents.{Serves, as_sent}
use Rattle.mb_node.specs.declared.stops.ServeStop.{ServeStop}
use Rattle.mb_node.specs.declared.stops.ServeStop.TheVariants as stop
use Rattle.mb_node.specs.Receives.{Receives}
use Rattle.mb_node.specs.Events.{events}
use Rattle.mb_node.specs.Sends.{Sends, numbered}
use Rattle.mb_node.specs.Outside.{Outside, SendsPart}
use Rattle.mb_node.specs.Keeping.{AreAppended, HasServedKept}
use Rattle.mb_restart.specs.Runs.{sent_behind, Run, IsRun}

-- Serving ended by a right STOP, or behind all receives, and not on the way.
abbrev pub IsWholeEnd : Result (Unit {0}) ServeStop → Type 0
IsWholeEnd (Ok _) = Unit {0}
IsWholeEnd (Err (stop.Budget n)) = Unit {0}
IsWholeEnd (Err s) = ⊥

-- A run that began with the journal's events and left this file. Of the events that came, the last of them first, all were acknowledged; where serving stopped
-- on the way, perhaps but for the last one, which may have been being appended. What was sent is a first part of the datagrams of the run's messages.
pub record IsRunOf {S : Type 0} (me : Identity S) (header : Bytes) (kept es : List Event) (ended : Result (Unit {0}) ServeStop) (before now : Option Sends) (image : Bytes) : Type 0 where
  pub run : Run
  pub kept_is : run.kept ≡ kept
  pub left_is : run.left ≡ image
  pub is : IsRun me header run
  pub earlier : IsBeginning (onto run.begun run.acknowledged) es
  pub few : length es ≤ length run.acknowledged + 1
  pub all : IsWholeEnd ended → (run.acknowledged ≡ es) × (run.begun ≡ None)
  pub sends : SendsPart (numbered (host_count me.shape) me.host 0 (map as_sent run.sent)) before now

-- A crash left this file while these events were appended behind those of the journal, the last of them first. The first of them were acknowledged before,
-- the next one was being appended, and whatever first part was sent of what the acknowledged ones send, it was a run.
pub record IsRunMeanwhile {S : Type 0} (me : Identity S) (header : Bytes) (kept es : List Event) (image : Bytes) : Type 0 where
  pub acknowledged : List Event
  pub next : Event
  pub earlier : IsBeginning (next ∷ acknowledged) es
  pub is : (sent unsent : List Letter) → sent ++ unsent ≡ sent_behind me (reverse kept) acknowledged
      → IsRun me header (record { kept = kept; acknowledged = acknowledged; begun = Some next; sent = sent; left = image })

-- The events that came were appended one behind the other: the disk was at rest at those that were acknowledged before the next one was begun. Whatever a
-- crash leaves of the file, in the end or at a moment before, it was a run.
pub record EndsRun {S : Type 0} (me : Identity S) (header : Bytes) (kept es : List Event) (ended : Result (Unit {0}) ServeStop) (m : Moments) (before now : Option Sends) (told : Option Moments) : Type 0 where
  pub later : Moments
  pub told_is : told ≡ Some later
  pub appended : AreAppended header kept es m later
  pub each : (image : Bytes) → IsImage later.now image → IsRunOf me header kept es ended before now image
  pub meanwhile : LeavesOnly (IsRunMeanwhile me header kept es) m told

-- So serving ends, with whatever answer, from a host that stands behind the events of its journal.
abbrev pub ServingsAreRuns : {V : Type 0} → ServiceMachine V → Type 0
ServingsAreRuns {V} machine =
    (me : Identity V) (kept : List Event) (old new : Replica V) (journal journal' : JournalState) (m : Moments) (told : Option Moments) (budget : ℕ) (told_before told_now : Option Receives) (before now : Outside) (ended : Result (Unit {0}) ServeStop)
    → Serves machine me → Represents me old (after me (reverse kept)) → IsWhole (after me (reverse kept)) → IsAtRest journal kept m.now
    → (served : HasServedKept machine old new journal journal' (Some m) told budget told_before told_now before now ended)
    → EndsRun me journal.header kept (events me (after me (reverse kept)) served.receives) ended m before.sent now.sent told
