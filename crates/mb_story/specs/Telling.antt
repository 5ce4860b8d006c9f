-- What is told of an event, of the worlds before and behind it.
use Rattle.std.specs.Prelude.{◌≡◌, ℕ, ◌+◌, ◌-◌, List, ◌∷◌, length, map, drop, option_and_then, option_map}
use Rattle.std.specs.List.{range_with_len}
use Rattle.std.specs.Option.{option_to_list}
use Rattle.mb_schedule.specs.declared.report.ClientLine.{ClientLine}
use Rattle.mb_schedule.specs.declared.report.HostLine.{HostLine}
use Rattle.mb_schedule.specs.declared.report.Report.{Report}
use Rattle.mb_schedule.specs.declared.schedule.Schedule.{Schedule}
use Rattle.mb_schedule.specs.declared.schedule.WorldEvent.{WorldEvent}
use Rattle.mb_world_model.specs.Refusals.{refusal_in}
use Rattle.mb_world_model.specs.World.{World, System, message_at, Seen as Answer}
use Rattle.mb_members.specs.Lines.{host_line, client_line}
use Rattle.mb_members.specs.Replies.{addressee}
use Rattle.mb_world.specs.Answers.{as_answer}
use Rattle.mb_story.specs.declared.telling.NewMessage.{NewMessage}
use Rattle.mb_story.specs.declared.telling.Telling.{Telling}
use Rattle.mb_story.specs.Arrivals.{host_of, client_of}

-- a message, and its client where it is a REPLY
abbrev pub new_message : Schedule → World → ℕ → NewMessage
new_message s w n = record { number = n; client = option_and_then addressee (message_at s w n) }

-- the messages behind the first so many
abbrev pub new_messages : Schedule → World → ℕ → List NewMessage
new_messages s w made = map (λ i. new_message s w (made + i + 1)) (range_with_len 0 (length w.pool - made))

-- the line of the client to which an event comes, or who asks in it
abbrev pub client_lines : World → WorldEvent → List ClientLine
client_lines w e = option_to_list (option_map (client_line w) (client_of e))

module _ {S : Type 0} (y : System S) where
  -- the line of the host to which an event comes
  abbrev pub host_lines : World → WorldEvent → List HostLine
  host_lines w e = option_to_list (option_map (host_line y w) (host_of e))

  -- what the report says anew behind so many slots and an event that answered this
  abbrev pub news_behind : World → ℕ → WorldEvent → Answer → Report
  news_behind w executed e answer = record {
    events = length w.seen;
    messages = length w.pool;
    line = drop executed w.line;
    refused = option_to_list (refusal_in (length w.seen) answer);
    hosts = host_lines w e;
    clients = client_lines w e;
  }

  -- what a world shows behind so many messages and slots, and an event
  pub record Shows (w : World) (made executed : ℕ) (e : WorldEvent) (t : Telling) : Type 0 where
    pub messages : t.messages ≡ new_messages y.schedule w made
    pub news_are : t.news ≡ news_behind w executed e (as_answer t.seen)

  -- what the event answered, and what it added to the world before it
  pub record IsTelling (before behind : World) (e : WorldEvent) (t : Telling) : Type 0 where
    pub answered : behind.seen ≡ as_answer t.seen ∷ before.seen
    pub shows : Shows behind (length before.pool) (length before.line) e t
