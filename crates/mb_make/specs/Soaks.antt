-- A soak: a long schedule each of whose events is drawn as the world stands before it.
use Rattle.std.specs.Prelude.{◌≡◌, ℕ, zero, suc, ◌++◌, true, false, List, [], ◌∷◌, length, replicate, Option, Some}
use Rattle.mb_base.specs.Shapes.{max_faults, interval, client_count}
use Rattle.mb_msg.specs.declared.message.Message.{Message}
use Rattle.mb_msg.specs.declared.message.Message.TheVariants as message
use Rattle.mb_schedule.specs.declared.schedule.Schedule.{Schedule}
use Rattle.mb_schedule.specs.declared.schedule.WorldEvent.{WorldEvent}
use Rattle.mb_schedule.specs.declared.schedule.WorldEvent.TheVariants.{Give, Take}
use Rattle.mb_world_model.specs.World.{World, System, message_at}
use Rattle.mb_world_model.specs.WorldSteps.{world}
use Rattle.mb_make.specs.Draws.{Generator, seeded, draw}

-- ---- what is played of a draw

-- A REPLY goes to its client, and any other message to the host.
abbrev pub to_host_or_client : ℕ → ℕ → Option Message → WorldEvent
to_host_or_client m h (Some (message.Reply r)) = Take m r.client
to_host_or_client m h o = Give m h

-- A REPLY that is drawn for a host is taken by its client.
abbrev pub played : Schedule → World → WorldEvent → WorldEvent
played s w (Give m h) = to_host_or_client m h (message_at s w m)
played s w e = e

-- ---- the events

-- these hosts and clients, with other events
abbrev pub with_events : {S : Type 0} → System S → List WorldEvent → System S
with_events system events = record system { schedule = record system.schedule { events = events } }

module _ {S : Type 0} (system : System S) (seed : ℕ) where
  -- where the generator stands after as many draws as events, each of which saw the messages that were made by then
  unfoldable pub generator_after : ℕ → Generator
  generator_after zero = seeded seed
  generator_after (suc k) = (draw (length (world system k).pool) (generator_after k)).left

  -- the event that is drawn behind the first k
  abbrev pub event_drawn : ℕ → WorldEvent
  event_drawn k = played system.schedule (world system k) (draw (length (world system k).pool) (generator_after k)).event

module _ {S : Type 0} (system : System S) (seed : ℕ) where
  -- the first so many
  unfoldable pub events_drawn : ℕ → List WorldEvent
  events_drawn zero = []
  events_drawn (suc n) = events_drawn n ++ event_drawn (with_events system (events_drawn n)) seed n ∷ []

  -- the hosts and clients of a soak of so many events
  abbrev pub soak : ℕ → System S
  soak n = with_events system (events_drawn n)

-- Three hosts with checkpoints at each 16th position, of which host 2 is faulty, and four correct clients.
pub record IsSoaked (s : Schedule) : Type 0 where
  pub faults : max_faults s.shape ≡ 1
  pub every : interval s.shape ≡ 16
  pub clients : client_count s.shape ≡ 4
  pub secret : s.secret ≡ replicate 32 7
  pub faulty : s.faulty_hosts ≡ false ∷ false ∷ true ∷ []
  pub correct : s.faulty_clients ≡ replicate 4 false
