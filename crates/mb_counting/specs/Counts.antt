-- The report of a schedule among hosts that keep a count, and what is promised of them.
use Rattle.std.specs.Prelude.{◌≡◌, ℕ, ◌≤◌, length, Option, Some, None}
use Rattle.mb_base.specs.Shapes.{Bytes}
use Rattle.mb_schedule.specs.declared.schedule.Schedule.{Schedule}
use Rattle.mb_sched.specs.Report.{report_text}
use Rattle.mb_sched.specs.Schedules.{IsScheduleText}
use Rattle.mb_world_model.specs.Hashed.{HashesApart}
use Rattle.mb_promise.specs.Headline.{Promises}
use Rattle.mb_world_model.specs.Stops.{IsUnstopped}
use Rattle.mb_world.specs.Reports.{report_of}
use Rattle.mb_story.specs.declared.story.End.{End}
use Rattle.mb_story.specs.declared.story.End.TheVariants.{Whole, Stopped}
use Rattle.mb_counting.specs.Systems.{system_of, world}

-- the text with which a story ends
abbrev pub text_of_end : End → Option Bytes
text_of_end (Whole report) = Some (report_text report)
text_of_end (Stopped found) = None

-- Nothing stands in the way of any event, the text is the report behind all of them, and after each event all is promised.
pub record Counts (s : Schedule) (text : Bytes) : Type 0 where
  pub unstopped : IsUnstopped (system_of s) (length s.events)
  pub report : text ≡ report_text (report_of (system_of s) (world s (length s.events)))
  pub promises : (k : ℕ) → k ≤ length s.events → HashesApart (world s k).hashed → Promises (system_of s) (world s k)

-- the report; none where something stands in the way of an event
abbrev pub IsAnswer : Schedule → Option Bytes → Type 0
IsAnswer s (Some text) = Counts s text
IsAnswer s None = IsUnstopped (system_of s) (length s.events) → ⊥

-- the report of the schedule that a text is
pub record IsReportOf (text report : Bytes) : Type 0 where
  pub schedule : Schedule
  pub is : IsScheduleText text schedule
  pub counts : Counts schedule report
