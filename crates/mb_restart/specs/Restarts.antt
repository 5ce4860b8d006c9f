-- What holds of a host over all its runs.
use Rattle.std.specs.Prelude.{◌≡◌, ◌≢◌, ◌⊎◌, ℕ, zero, suc, List, [], ◌∷◌, ◌++◌, Option, Some, None, Contains, slice_get, option_and_then, if◌then◌else◌, ◌==◌}
use Rattle.std.specs.List.{AllByRecursion}
use Rattle.mb_base.specs.Shapes.{Bytes}
use Rattle.mb_parts.specs.Bares.{Bare}
use Rattle.mb_parts.specs.Counters.{at_counter, IsBeginning}
use Rattle.mb_msg.specs.Spelling.{spelling}
use Rattle.mb_msg.specs.declared.event.Event.{Event}
use Rattle.mb_model.specs.Histories.{Identity, said}
use Rattle.mb_model.specs.Sending.{Letter}
use Rattle.mb_model.specs.HostStep.{after}
use Rattle.mb_edge.specs.Disks.{Content, IsImage}
use Rattle.mb_journal.specs.Files.{Holds}
use Rattle.mb_journal.specs.Keeping.{RestsAt}
use Rattle.mb_journal.specs.Opening.{KeepsEvents}
use Rattle.mb_schedule.specs.declared.schedule.WorldEvent.TheVariants.{Nudge}
use Rattle.mb_world_model.specs.World.{World, System, self_of}
use Rattle.mb_world_model.specs.WorldEvents.{IsCorrect}
use Rattle.mb_world_model.specs.WorldSteps.{world}
use Rattle.mb_world_model.specs.EventsStep.{arrival}
use Rattle.mb_restart.specs.Runs.{sent_by, Run, events_of, known_to, IsLeft, AreRuns}

-- ---- what a run opens

-- the acknowledged events, and behind them none but the one whose append had begun
abbrev pub HasAllAndOne : List Event → Option Event → List Event → Type 0
HasAllAndOne known begun kept = (kept ≡ known) ⊎ ((one : Event) × (begun ≡ Some one) × (kept ≡ known ++ one ∷ []))

-- Whatever a crash leaves of a disk at rest at these events is a file that says them. So runs can begin with a journal that was made.
abbrev pub RestingFilesAreLeft : Type 0
RestingFilesAreLeft = (header : Bytes) (end : ℕ) (events : List Event) (content : Content) (image : Bytes) → RestsAt header end events content → IsImage content image → IsLeft header events None image

-- Whatever file a run left, and whatever crashes made of it while it was opened again: it says such events, so that it is a journal of this host.
abbrev pub LeftFilesOpen : Type 0
LeftFilesOpen = (header : Bytes) (events : List Event) (begun : Option Event) (left file : Bytes) → IsLeft header events begun left → KeepsEvents header left file
    → (kept : List Event) × Holds header kept file × HasAllAndOne events begun kept

abbrev pub OpensAll : Run → List Run → Type 0
OpensAll run [] = run.kept ≡ []
OpensAll run (before ∷ runs) = HasAllAndOne (known_to before) before.begun run.kept

abbrev pub JournalsKeep : Type 0 → Type 0
JournalsKeep S = (self : Identity S) (header made : Bytes) (run : Run) (runs : List Run) → AreRuns self header made (run ∷ runs) → OpensAll run runs

-- ---- one host

-- some letters stand one behind the other among others
pub record IsWithin (part whole : List Letter) : Type 0 where
  pub before : List Letter
  pub behind : List Letter
  pub is : before ++ (part ++ behind) ≡ whole

-- What a run sent is among what a host sends to which these events came; what it stamped is what that host stamped first.
pub record IsPartOf {S : Type 0} (self : Identity S) (es : List Event) (run : Run) : Type 0 where
  pub sends : IsWithin run.sent (sent_by self es)
  pub stamps : IsBeginning (said (after self (events_of run))) (said (after self es))

abbrev pub HostsGoOn : Type 0 → Type 0
HostsGoOn S = (self : Identity S) (header made : Bytes) (last : Run) (runs : List Run) → AreRuns self header made (last ∷ runs) → AllByRecursion (IsPartOf self (events_of last)) (last ∷ runs)

-- What both runs stamped at a counter is the same.
abbrev pub StampAlike : {S : Type 0} → Identity S → Run → Run → Type 0
StampAlike self one two = (counter : ℕ) (a b : Bare) → at_counter (said (after self (events_of one))) counter ≡ Some a → at_counter (said (after self (events_of two))) counter ≡ Some b → a ≡ b

-- So is what any two runs stamped.
abbrev pub NoCounterTwice : Type 0 → Type 0
NoCounterTwice S = (self : Identity S) (header made : Bytes) (last : Run) (runs : List Run) → AreRuns self header made (last ∷ runs)
    → AllByRecursion (λ (one : Run). AllByRecursion (StampAlike self one) (last ∷ runs)) (last ∷ runs)

-- ---- in a world

-- with what came to the host, where something did
abbrev pub with_arrival : ℕ → Option (ℕ × Event) → List Event → List Event
with_arrival h None es = es
with_arrival h (Some a) es = if a.0 == h then a.1 ∷ es else es

-- what came to a host in the first events of a schedule, the last first
unfoldable pub came : {S : Type 0} → System S → ℕ → ℕ → List Event
came system h zero = []
came system h (suc k) = with_arrival h (option_and_then (arrival (world system k)) (slice_get system.schedule.events k)) (came system h k)

-- Each letter that a run sent says one of the messages that were made in this world.
abbrev pub SendsMade : World → Run → Type 0
SendsMade w run = (letter : Letter) → Contains run.sent letter → Contains w.pool (spelling letter.says)

-- The world's host stands where the last run does, and what all runs sent and stamped is part of what that host sent and stamped.
pub record AreInWorld {S : Type 0} (system : System S) (h k : ℕ) (last : Run) (runs : List Run) : Type 0 where
  pub stands : (world system k).histories h ≡ after (self_of system h) (events_of last)
  pub parts : AllByRecursion (IsPartOf (self_of system h) (came system h k)) (last ∷ runs)
  pub made : AllByRecursion (SendsMade (world system k)) (last ∷ runs)

abbrev pub HostsAreInWorlds : Type 0 → Type 0
HostsAreInWorlds S = (system : System S) (h k : ℕ) (header made : Bytes) (last : Run) (runs : List Run) → IsCorrect system.schedule h → AreRuns (self_of system h) header made (last ∷ runs) → came system h k ≡ events_of last
    → AreInWorld system h k last runs

-- ---- that there are such runs

-- Two runs with a crash between them, in which the event that was being appended was lost. What came to the host are the events of the last one.
pub record IsMet {S : Type 0} (system : System S) (h k : ℕ) (header : Bytes) : Type 0 where
  pub made : Bytes
  pub first : Run
  pub second : Run
  pub are : AreRuns (self_of system h) header made (second ∷ first ∷ [])
  pub some : first.acknowledged ≢ []
  pub lost : (one : Event) × (first.begun ≡ Some one) × (second.kept ≡ known_to first)
  pub come : came system h k ≡ events_of second

-- So it is where a host is nudged, and nothing else happens.
abbrev pub RunsAreMet : Type 0 → Type 0
RunsAreMet S = (system : System S) (h : ℕ) (header : Bytes) → system.schedule.events ≡ Nudge h ∷ [] → IsMet system h 1 header
