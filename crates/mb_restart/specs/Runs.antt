-- A host with a journal, run after run: it is stopped at any moment, and started again from the file that is left.
use Rattle.std.specs.Prelude.{◌≡◌, List, [], ◌∷◌, ◌++◌, reverse, Option, Some, None}
use Rattle.std.specs.List.{AllByRecursion}
use Rattle.mb_base.specs.Shapes.{Bytes}
use Rattle.mb_msg.specs.declared.event.Event.{Event}
use Rattle.mb_model.specs.Histories.{Identity}
use Rattle.mb_model.specs.Sending.{Letter}
use Rattle.mb_model.specs.HostStep.{transition, after}
use Rattle.mb_journal.specs.Files.{EventFits, Holds}
use Rattle.mb_journal.specs.Keeping.{IsShut, IsLeftBy}
use Rattle.mb_journal.specs.Opening.{KeepsEvents}

-- ---- what a host sends

module _ {S : Type 0} (self : Identity S) where
  -- all that these events send, the last of them first; what is sent first stands first
  unfoldable pub sent_by : List Event → List Letter
  sent_by [] = []
  sent_by (e ∷ es) = sent_by es ++ (transition self (after self es) e).left.sent

  -- what more events send behind the first ones
  unfoldable pub sent_behind : List Event → List Event → List Letter
  sent_behind start [] = []
  sent_behind start (e ∷ es) = sent_behind start es ++ (transition self (after self (es ++ start)) e).left.sent

-- ---- one run

-- the events that opening the journal answered, the first of them first; those that were acknowledged then, the last of them first; the one that was being
-- appended as the run ended, where there was one; what was sent; and the file that is left
pub record Run : Type 0 where
  pub kept : List Event
  pub acknowledged : List Event
  pub begun : Option Event
  pub sent : List Letter
  pub left : Bytes

-- all events behind which a run stands, the last of them first
abbrev pub events_of : Run → List Event
events_of run = run.acknowledged ++ reverse run.kept

-- and in order
abbrev pub known_to : Run → List Event
known_to run = run.kept ++ reverse run.acknowledged

-- The file says these events; where one was being appended behind them, with this one or without.
abbrev pub IsLeft : Bytes → List Event → Option Event → Bytes → Type 0
IsLeft header events None file = AllByRecursion EventFits events × IsShut header events file
IsLeft header events (Some one) file = IsLeftBy header events one file

-- What a run sends is a first part of what its acknowledged events send behind those of the journal, and the file that it leaves says these all.
pub record IsRun {S : Type 0} (self : Identity S) (header : Bytes) (run : Run) : Type 0 where
  pub unsent : List Letter
  pub sends : run.sent ++ unsent ≡ sent_behind self (reverse run.kept) run.acknowledged
  pub leaves : IsLeft header (known_to run) run.begun run.left

-- ---- all runs

-- the file that runs leave, the last of them first, behind the one with which they began
abbrev pub file_left : Bytes → List Run → Bytes
file_left made [] = made
file_left made (run ∷ runs) = run.left

-- The file is opened, after none or more crashes while it was: they kept its events.
pub record IsOpenedBy (header before : Bytes) (kept : List Event) : Type 0 where
  pub file : Bytes
  pub keeps : KeepsEvents header before file
  pub says : Holds header kept file

-- Runs one behind the other, the last of them first, from a journal that was made.
abbrev pub AreRuns : {S : Type 0} (self : Identity S) → Bytes → Bytes → List Run → Type 0
AreRuns self header made [] = IsLeft header [] None made
AreRuns self header made (run ∷ runs) = IsOpenedBy header (file_left made runs) run.kept × IsRun self header run × AreRuns self header made runs
