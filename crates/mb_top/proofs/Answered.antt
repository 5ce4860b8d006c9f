-- What a status says of the text of a schedule, and which status has to come.
use Rattle.std.proofs.Common.{◌≡◌, ℕ, ◌-◌, ◌<◌, length, refl, sym, subst, ◌∙◌, arith, ◌⊎◌, inl, inr, Option}
use Rattle.std.specs.Prelude.{Contains, Err}
use Rattle.std.specs.Io.KnownBytes.{Appends}
use Rattle.std.proofs.lemmas.Option.{slice_get_within}
use Rattle.mb_base.specs.Shapes.{Bytes}
use Rattle.mb_edge.specs.Faults.{Rose}
use Rattle.mb_schedule.specs.declared.schedule.Schedule.{Schedule}
use Rattle.mb_sched.specs.declared.bad_text.BadText.{BadText}
use Rattle.mb_sched.specs.declared.bad_text.BadText.TheVariants as fault
use Rattle.mb_sched.specs.Schedules.{IsScheduleText, Parses}
use Rattle.mb_world_model.specs.Stops.{WorldStop}
use Rattle.mb_top.specs.Runs.{AreUnstopped, IsFirstStopped}
use Rattle.mb_top.specs.Answers.{IsForgedText, certificate, tag, AnswersSchedule, bad_event, forged, replayed, Answers, too_long, bad_line, right}
use Rattle.mb_edge.specs.Seen.{Device}
use Rattle.mb_answer.specs.Refusals.{IsRefusal}
use Rattle.mb_answer.specs.Devices.{Says, said, failed, cut_short, IsToldBy, answered, unread, starved}
use Rattle.mb_top.specs.Responses.{Replays}
use Rattle.mb_top.specs.Doings.{replay_statuses}
use Rattle.mb_top.specs.Outcomes.{ReportsOn, TellsForged, IsComplete}
use Rattle.mb_answer.proofs.Statuses.{said_completes}
use Rattle.mb_top.proofs.OneSchedule.{same_schedule}

-- ---- no schedule

-- What is answered to a text that says nothing is an answer to a text.
pub refuses_schedule : (text : Bytes) (found : BadText) (status : ℕ) (out : Bytes) → Parses (Err found) text → IsRefusal found status out → Answers text status out
refuses_schedule text fault.TooLong status out bad is = too_long bad is.0 is.1
refuses_schedule text (fault.BadLine n) status out bad is = bad_line n bad.0 bad.1 is.0 is.1
refuses_schedule text fault.NoMemory status out bad is = absurd is

-- ---- where an answer was written

-- the answer, and that it was written whole
pub record IsAnsweredBy (text : Bytes) (status : ℕ) (out : Bytes) (old new : Device) : Type 0 where
  pub answers : Answers text status out
  pub wrote : Appends old.bytes new.bytes out

said_whole : (text : Bytes) (wanted : ℕ) (out : Bytes) (status : ℕ) (old new : Device) → status < 4 → Answers text wanted out → Says wanted out status old new → IsAnsweredBy text status out old new
said_whole text wanted out status old new low a (said same grew) = record { answers = subst (λ (n : ℕ). Answers text n out) (sym same) a; wrote = grew }
said_whole text wanted out status old new low a (failed six rose part) = absurd (omega (arith, six, low))
said_whole text wanted out status old new low a (cut_short four part) = absurd (omega (arith, four, low))

answered_whole : (text : Bytes) (status : ℕ) (source source' sink sink' : Device) → status < 4 → Replays text status source source' sink sink' → (out : Bytes) × IsAnsweredBy text status out sink sink'
answered_whole text status source source' sink sink' low (answered wanted out a says) = (out, said_whole text wanted out status sink sink' low a says)
answered_whole text status source source' sink sink' low (unread five rose same) = absurd (omega (arith, five, low))
answered_whole text status source source' sink sink' low (starved four same) = absurd (omega (arith, four, low))

-- ---- at status 0

schedule_reports : (text : Bytes) (s : Schedule) (status : ℕ) (out : Bytes) (old new : Option Bytes) → IsScheduleText text s → status ≡ 0 → Appends old new out → AnswersSchedule s status out → ReportsOn text old new
schedule_reports text s status out old new is zero grew (bad_event e first two text_is) = absurd (omega (arith, two, zero))
schedule_reports text s status out old new is zero grew (forged e told three) = absurd (omega (arith, three, zero))
schedule_reports text s status out old new is zero grew (replayed all zero' text_is) =
    record { schedule = s; is = is; unstopped = all; wrote = subst (λ (t : Bytes). Appends old new t) text_is grew }

answer_reports : (text : Bytes) (status : ℕ) (out : Bytes) (old new : Option Bytes) → status ≡ 0 → Appends old new out → Answers text status out → ReportsOn text old new
answer_reports text status out old new zero grew (too_long long two text_is) = absurd (omega (arith, two, zero))
answer_reports text status out old new zero grew (bad_line n short fault two text_is) = absurd (omega (arith, two, zero))
answer_reports text status out old new zero grew (right s is answers) = schedule_reports text s status out old new is zero grew answers

pub reports : (text : Bytes) (status : ℕ) (source source' sink sink' : Device) → Replays text status source source' sink sink' → status ≡ 0 → ReportsOn text sink.bytes sink'.bytes
reports text status source source' sink sink' r zero =
    let whole = answered_whole text status source source' sink sink' (omega (arith, zero)) r in
    answer_reports text status whole.0 sink.bytes sink'.bytes zero whole.1.wrote whole.1.answers

-- Nothing stands in the way of the events of the schedule whose text was reported on.
pub reported_is_unstopped : (text : Bytes) (s : Schedule) (old new : Option Bytes) → IsScheduleText text s → ReportsOn text old new → AreUnstopped s (length s.events)
reported_is_unstopped text s old new is report =
    subst (λ (t : Schedule). AreUnstopped t (length t.events)) (same_schedule text report.schedule s report.is is) report.unstopped

-- ---- at status 3

schedule_tells : (text : Bytes) (s : Schedule) (status : ℕ) (out : Bytes) (old new : Option Bytes) → IsScheduleText text s → status ≡ 3 → Appends old new out → AnswersSchedule s status out → TellsForged text old new
schedule_tells text s status out old new is three grew (bad_event e first two text_is) = absurd (omega (arith, two, three))
schedule_tells text s status out old new is three grew (forged e told three') = record { schedule = s; is = is; event = e; told = out; forged = told; wrote = grew }
schedule_tells text s status out old new is three grew (replayed all zero text_is) = absurd (omega (arith, zero, three))

answer_tells : (text : Bytes) (status : ℕ) (out : Bytes) (old new : Option Bytes) → status ≡ 3 → Appends old new out → Answers text status out → TellsForged text old new
answer_tells text status out old new three grew (too_long long two text_is) = absurd (omega (arith, two, three))
answer_tells text status out old new three grew (bad_line n short fault two text_is) = absurd (omega (arith, two, three))
answer_tells text status out old new three grew (right s is answers) = schedule_tells text s status out old new is three grew answers

pub tells_forged : (text : Bytes) (status : ℕ) (source source' sink sink' : Device) → Replays text status source source' sink sink' → status ≡ 3 → TellsForged text sink.bytes sink'.bytes
tells_forged text status source source' sink sink' r three =
    let whole = answered_whole text status source source' sink sink' (omega (arith, three)) r in
    answer_tells text status whole.0 sink.bytes sink'.bytes three whole.1.wrote whole.1.answers

-- ---- where nothing stands in the way

none_stopped : (s : Schedule) (e : ℕ) (found : WorldStop) → IsFirstStopped s e found → AreUnstopped s (length s.events) → ⊥
none_stopped s e found first all =
    let lt : e - 1 < length s.events = slice_get_within s.events (e - 1) first.event first.stands in
    let both = sym first.stopped ∙ all (e - 1) first.event lt first.stands in
    absurd cc

none_forged : (s : Schedule) (e : ℕ) (out : Bytes) → IsForgedText s e out → AreUnstopped s (length s.events) → ⊥
none_forged s e out (certificate host counter first is) all = none_stopped s e _ first all
none_forged s e out (tag first is) all = none_stopped s e _ first all

schedule_completes : (s : Schedule) (status : ℕ) (out : Bytes) → AreUnstopped s (length s.events) → AnswersSchedule s status out → status ≡ 0
schedule_completes s status out all (bad_event e first two text_is) = absurd (none_stopped s e first.found first.first all)
schedule_completes s status out all (forged e told three) = absurd (none_forged s e out told all)
schedule_completes s status out all (replayed also zero text_is) = zero

answer_completes : (text : Bytes) (s : Schedule) (status : ℕ) (out : Bytes) → IsScheduleText text s → AreUnstopped s (length s.events) → Answers text status out → status ≡ 0
answer_completes text s status out is all (too_long long two text_is) = let short = is.0 in absurd (omega (arith, long, short))
answer_completes text s status out is all (bad_line n short fault two text_is) = let e = sym fault ∙ is.1 in absurd cc
answer_completes text s status out is all (right t is' answers) =
    schedule_completes t status out (subst (λ (x : Schedule). AreUnstopped x (length x.events)) (same_schedule text s t is is') all) answers

pub completes : (text : Bytes) (status : ℕ) (source source' sink sink' : Device) → Replays text status source source' sink sink'
    → IsComplete text status (Rose source.faults source'.faults ⊎ Rose sink.faults sink'.faults)
completes text status source source' sink sink' (answered wanted out a says) s is all none =
    said_completes wanted out status sink sink' (answer_completes text s wanted out is all a) (λ rose. none (inr rose)) says
completes text status source source' sink sink' (unread five rose same) s is all none = absurd (none (inl rose))
completes text status source source' sink sink' (starved four same) s is all none = inr four

-- ---- the statuses

schedule_told : {s : _} (status : ℕ) (out : Bytes) → AnswersSchedule s status out → IsToldBy status
schedule_told status out (bad_event e first two text_is) = inl (omega (arith, two))
schedule_told status out (forged e told three) = inl (omega (arith, three))
schedule_told status out (replayed all zero text_is) = inl (omega (arith, zero))

pub answers_told : (text : Bytes) (status : ℕ) (out : Bytes) → Answers text status out → IsToldBy status
answers_told text status out (too_long long two text_is) = inl (omega (arith, two))
answers_told text status out (bad_line n short fault two text_is) = inl (omega (arith, two))
answers_told text status out (right s is answers) = schedule_told status out answers

schedule_known : {s : _} (status : ℕ) (out : Bytes) → AnswersSchedule s status out → Contains replay_statuses status
schedule_known status out (bad_event e first is text_is) = subst (Contains replay_statuses) (sym is) (1, omega arith, refl)
schedule_known status out (forged e told is) = subst (Contains replay_statuses) (sym is) (2, omega arith, refl)
schedule_known status out (replayed all is text_is) = subst (Contains replay_statuses) (sym is) (0, omega arith, refl)

pub answers_known : (text : Bytes) (status : ℕ) (out : Bytes) → Answers text status out → Contains replay_statuses status
answers_known text status out (too_long long is text_is) = subst (Contains replay_statuses) (sym is) (1, omega arith, refl)
answers_known text status out (bad_line n short fault is text_is) = subst (Contains replay_statuses) (sym is) (1, omega arith, refl)
answers_known text status out (right s is answers) = schedule_known status out answers
