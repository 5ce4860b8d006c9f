-- What a status says of the text of a schedule, and which status has to come.
use Rattle.std.specs.Prelude.{◌≡◌, ℕ, ◌<◌, ◌≤◌, ◌⊎◌, length, Option, Some}
use Rattle.std.specs.Io.KnownBytes.{Appends}
use Rattle.mb_base.specs.Shapes.{Bytes}
use Rattle.mb_schedule.specs.declared.schedule.Schedule.{Schedule}
use Rattle.mb_sched.specs.Schedules.{IsScheduleText}
use Rattle.mb_sched.specs.declared.records.Record.{Record}
use Rattle.mb_world_model.specs.Hashed.{HashesApart}
use Rattle.mb_promise.specs.Headline.{Promises}
use Rattle.mb_answer.specs.Records.{IsRecordText}
use Rattle.mb_top.specs.Runs.{AreUnstopped}
use Rattle.mb_top.specs.Systems.{system_of, world}
use Rattle.mb_top.specs.Answers.{final_report, IsFirstForged, IsForgedText}

-- The text is that of a schedule, nothing stands in the way of any of its events, and the report after all of them was written.
pub record ReportsOn (text : Bytes) (old new : Option Bytes) : Type 0 where
  pub schedule : Schedule
  pub is : IsScheduleText text schedule
  pub unstopped : AreUnstopped schedule (length schedule.events)
  pub wrote : Appends old new (final_report schedule)

-- The text is that of a schedule. What its first event delivers that something stands in the way of is forged, and that was written.
pub record TellsForged (text : Bytes) (old new : Option Bytes) : Type 0 where
  pub schedule : Schedule
  pub is : IsScheduleText text schedule
  pub event : ℕ
  pub told : Bytes
  pub forged : IsForgedText schedule event told
  pub wrote : Appends old new told

-- The text of a schedule is answered by its report where nothing stands in the way of its events, unless memory runs out or a device fails.
abbrev pub IsComplete : Bytes → ℕ → Type 0 → Type 0
IsComplete text status fault = (s : Schedule) → IsScheduleText text s → AreUnstopped s (length s.events) → ¬ fault → (status ≡ 0) ⊎ (status ≡ 4)

-- ---- of what a source tells

-- So it is where the source tells the text of this schedule.
abbrev pub WithSchedule : Option Bytes → (Schedule → Type 0) → Type 0
WithSchedule told P = (text : Bytes) (s : Schedule) → told ≡ Some text → IsScheduleText text s → P s

-- of this record
abbrev pub WithRecord : Option Bytes → (Record → Type 0) → Type 0
WithRecord told P = (text : Bytes) (r : Record) → told ≡ Some text → IsRecordText text r → P r

-- ---- what is promised, behind events of a schedule

-- Behind so many of its events, where no two of the strings that were hashed so far share a digest.
abbrev pub HoldsWhere : (ℕ → Type 0) → Schedule → Type 0
HoldsWhere many s = (k : ℕ) → many k → HashesApart (world s k).hashed → Promises (system_of s) (world s k)

-- Behind events none of which something stood in the way of.
abbrev pub HoldsSoFar : Schedule → Type 0
HoldsSoFar s = (k : ℕ) → k ≤ length s.events → AreUnstopped s k → HashesApart (world s k).hashed → Promises (system_of s) (world s k)

-- Before the first event that delivers what is forged.
abbrev pub HoldsBeforeForged : Option Bytes → Type 0
HoldsBeforeForged told = (text : Bytes) (s : Schedule) (e : ℕ) → told ≡ Some text → IsScheduleText text s → IsFirstForged s e → HoldsWhere (λ k. k < e) s
