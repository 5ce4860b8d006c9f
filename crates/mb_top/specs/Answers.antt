-- What is answered to a text: the status, and what is to be written.
use Rattle.std.specs.Prelude.{◌≡◌, ℕ, ◌≤◌, ◌<◌, length, Err}
use Rattle.mb_base.specs.Shapes.{Bytes}
use Rattle.mb_schedule.specs.declared.schedule.Schedule.{Schedule}
use Rattle.mb_sched.specs.Report.{report_text}
use Rattle.mb_sched.specs.Schedules.{line_number, schedule_of, IsScheduleText}
use Rattle.mb_schedule.specs.Limits.{max_text}
use Rattle.mb_world_model.specs.Stops.{Forged, ForgedTag}
use Rattle.mb_world.specs.Reports.{report_of}
use Rattle.mb_answer.specs.Texts.{too_long_text, bad_line_text, forged_text, forged_tag_text}
use Rattle.mb_top.specs.Systems.{system_of, world}
use Rattle.mb_top.specs.Runs.{AreUnstopped, IsFirstStopped, IsFirstBad}

-- ---- a schedule

-- the report after all events
abbrev pub final_report : Schedule → Bytes
final_report s = report_text (report_of (system_of s) (world s (length s.events)))

-- What the first event that something stands in the way of delivers is forged, and this is what is told of it.
pub data IsForgedText (s : Schedule) (e : ℕ) (out : Bytes) : Type 0 where
  certificate : (host counter : ℕ) → IsFirstStopped s e (Forged e host counter) → out ≡ forged_text e host counter → IsForgedText s e out
  tag : IsFirstStopped s e (ForgedTag e) → out ≡ forged_tag_text e → IsForgedText s e out

abbrev pub IsFirstForged : Schedule → ℕ → Type 0
IsFirstForged s e = (out : Bytes) × IsForgedText s e out

-- what is answered to a schedule
pub data AnswersSchedule (s : Schedule) (status : ℕ) (out : Bytes) : Type 0 where
  bad_event : (e : ℕ) → IsFirstBad s e → status ≡ 2 → out ≡ bad_line_text (line_number e) → AnswersSchedule s status out
  forged : (e : ℕ) → IsForgedText s e out → status ≡ 3 → AnswersSchedule s status out
  replayed : AreUnstopped s (length s.events) → status ≡ 0 → out ≡ final_report s → AnswersSchedule s status out

-- ---- a text

pub data Answers (text : Bytes) (status : ℕ) (out : Bytes) : Type 0 where
  too_long : max_text < length text → status ≡ 2 → out ≡ too_long_text → Answers text status out
  bad_line : (n : ℕ) → length text ≤ max_text → schedule_of text ≡ Err n → status ≡ 2 → out ≡ bad_line_text n → Answers text status out
  right : (s : Schedule) → IsScheduleText text s → AnswersSchedule s status out → Answers text status out
