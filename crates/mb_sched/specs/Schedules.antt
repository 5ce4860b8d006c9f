-- What a whole text says: a schedule, or the number of its first line that is bad.
use Rattle.std.specs.Prelude.{◌≡◌, ℕ, ◌+◌, ◌*◌, ◌≤◌, Bool, List, length, drop, Result, Ok}
use Rattle.mb_base.specs.Shapes.{Bytes, max_faults, interval, client_count}
use Rattle.mb_sched.specs.declared.bad_text.BadText.{BadText}
use Rattle.mb_schedule.specs.declared.schedule.Schedule.{Schedule}
use Rattle.mb_schedule.specs.declared.schedule.WorldEvent.{WorldEvent}
use Rattle.mb_schedule.specs.Limits.{max_text}
use Rattle.mb_sched.specs.Words.{words}
use Rattle.mb_sched.specs.Lines.{lines, is_ended, ◌>>=◌}
use Rattle.mb_sched.specs.TextLines.{all_lines, ReadsText}
use Rattle.mb_sched.specs.Headers.{HeaderContents, header_of}
use Rattle.mb_sched.specs.EventLines.{event_line}

-- the number of the line of an event; events count from 1
abbrev pub line_number : ℕ → ℕ
line_number event = event + 6

-- the events of lines, the first of which has the number n; where the text isn't ended, one more line is bad
abbrev pub events_from : ℕ → ℕ → Bool → ℕ → List Bytes → Result (List WorldEvent) ℕ
events_from hosts clients ended n lines = all_lines (λ line. event_line hosts clients (words line)) ended n lines

-- a schedule as its text says it, with its shape by the three numbers
pub record Contents : Type 0 where
  pub f : ℕ
  pub k : ℕ
  pub clients : ℕ
  pub secret : Bytes
  pub faulty_hosts : List Bool
  pub faulty_clients : List Bool
  pub events : List WorldEvent

-- a header and events
abbrev pub with_events : HeaderContents → List WorldEvent → Contents
with_events header events = record {
  f = header.f;
  k = header.k;
  clients = header.clients;
  secret = header.secret;
  faulty_hosts = header.faulty.hosts;
  faulty_clients = header.faulty.clients;
  events = events;
}

-- the schedule of a text, or the number of its first line that is bad
unfoldable pub schedule_of : Bytes → Result Contents ℕ
schedule_of text = do
  header ← header_of (lines text)
  events ← events_from (2 * header.f + 1) header.clients (is_ended text) (line_number 1) (drop 6 (lines text))
  Ok (with_events header events)

-- what a schedule's text has to say
abbrev pub contents : Schedule → Contents
contents s = record {
  f = max_faults s.shape;
  k = interval s.shape;
  clients = client_count s.shape;
  secret = s.secret;
  faulty_hosts = s.faulty_hosts;
  faulty_clients = s.faulty_clients;
  events = s.events;
}

-- a text is that of a schedule
abbrev pub IsScheduleText : Bytes → Schedule → Type 0
IsScheduleText text s = (length text ≤ max_text) × (schedule_of text ≡ Ok (contents s))

-- parsing answers a text's schedule or its first bad line, or that it is too long; only where memory runs out it says nothing of the lines
abbrev pub Parses : Result Schedule BadText → Bytes → Type 0
Parses = ReadsText max_text contents schedule_of
