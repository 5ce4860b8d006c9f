-- Which history is written, where a record says what a correct host was given in a world.
use Rattle.std.specs.Prelude.{◌≡◌, ℕ, ◌+◌, ◌≤◌, ◌⊎◌, List, length, slice_get, Some}
use Rattle.std.specs.Io.KnownBytes.{Appends}
use Rattle.mb_msg.specs.declared.event.Slot.{Slot}
use Rattle.mb_model.specs.Service.{batch_of}
use Rattle.mb_schedule.specs.declared.schedule.Schedule.{Schedule}
use Rattle.mb_schedule.specs.Limits.{IsSchedule}
use Rattle.mb_sched.specs.declared.records.Record.{Record}
use Rattle.mb_world_model.specs.Hashed.{HashesApart}
use Rattle.mb_world_model.specs.Stops.{IsUnstopped}
use Rattle.mb_world_model.specs.World.{World}
use Rattle.mb_edge.specs.Seen.{Device}
use Rattle.mb_reviewing.specs.Given.{given_in}
use Rattle.mb_reviewing.specs.Learning.{LearntInTurn, learnt_text, state_behind}
use Rattle.mb_learned.specs.Learned.{BeginsWith, IsCommittedAt, strings}
use Rattle.mb_top.specs.Blames.{IsRecordIn}
use Rattle.mb_top.specs.Systems.{system_of, world}

-- The slots that are written are learnt in turn from what the host was given, and each is committed in the world. They and the line of the world are beginnings
-- of one another.
pub record WritesLine (s : Schedule) (w : World) (r : Record) (old new : Device) : Type 0 where
  pub slots : List Slot
  pub written : Appends old.bytes new.bytes (learnt_text slots (state_behind r slots (length slots)))
  pub took : LearntInTurn r (given_in r.entries) slots
  pub committed : (q : ℕ) (slot : Slot) → slice_get slots q ≡ Some slot → IsCommittedAt s w (q + 1) (batch_of slot)
  pub line : BeginsWith w.line slots ⊎ BeginsWith slots w.line

-- Whatever schedule it is, with at most f faulty hosts and while nothing is forged or refused by the world and no two of the strings share a digest: at
-- status 0 the slots are committed and of the world's line, and status 10 never comes.
abbrev pub LearnsTheLine : ℕ → Record → Device → Device → Type 0
LearnsTheLine status r old new = (s : Schedule) → IsSchedule s → (k : ℕ) → k ≤ length s.events → IsUnstopped (system_of s) k → HashesApart (strings (system_of s) (world s k) r.id) → IsRecordIn s (world s k) r
    → (status ≡ 0 → WritesLine s (world s k) r old new) × ¬ (status ≡ 10)
