-- That what a node with a journal does is a run of its host, as `mb_restart` has them, and its host one of a world.
use Rattle.std.specs.Prelude.{◌≡◌, ◌⊎◌, ℕ, ◌<◌, List, ◌∷◌, Option, Some, Result}
use Rattle.mb_base.specs.Shapes.{Bytes, host_count}
use Rattle.mb_msg.specs.declared.event.Event.{Event}
use Rattle.mb_edge.specs.Disks.{Moments, WhereTold}
use Rattle.mb_journal.specs.Files.{Holds}
use Rattle.mb_journal.specs.Headers.{header_text}
use Rattle.mb_journal.specs.Opening.{KeepsFile}
use Rattle.mb_node.specs.declared.stops.ServeStop.{ServeStop}
use Rattle.mb_node.specs.Receives.{Receives}
use Rattle.mb_node.specs.Events.{events}
use Rattle.mb_sched.specs.declared.configs.Config.{Config}
use Rattle.mb_schedule.specs.declared.schedule.Schedule.{Schedule}
use Rattle.mb_world_model.specs.World.{self_of}
use Rattle.mb_world_model.specs.WorldEvents.{IsCorrect}
use Rattle.mb_answer.specs.Configs.{IsConfigText}
use Rattle.mb_edge.specs.Seen.{LinkState, DiskState}
use Rattle.mb_serving.specs.Nodes.{served_status, HasListened}
use Rattle.mb_serving.specs.Records.{host_of}
use Rattle.mb_serving.specs.Journals.{start_of}
use Rattle.mb_restart.specs.Runs.{Run, events_of, AreRuns}
use Rattle.mb_restart.specs.Restarts.{came, AreInWorld}
use Rattle.mb_restart.specs.Servings.{EndsRun}
use Rattle.mb_top.specs.Systems.{system_of}

-- The file said these events, and kept them while it was opened. What followed was a run behind them with the events of what was received: whatever a crash
-- leaves of the file, in the end or at a moment before, is what a run leaves, and what was sent is a first part of what a run sends. The status tells how it
-- ended.
pub record IsRerun (c : Config) (host status : ℕ) (l l' : LinkState) (old : Moments) (after : DiskState) : Type 0 where
  pub kept : List Event
  pub says : Holds (header_text c host) kept old.now.reads
  pub opened : Moments
  pub opens : KeepsFile (header_text c host) old (Some opened)
  pub receives : Receives
  pub heard : HasListened c host l l' receives
  pub ended : Result (Unit {0}) ServeStop
  pub status_is : status ≡ served_status ended
  pub ends : EndsRun (host_of c host) (header_text c host) kept (events (host_of c host) (start_of c host kept) receives) ended opened l.sent l'.sent after.moments

-- Nothing was sent, and the file kept its events.
pub record IsUnsent (c : Config) (host : ℕ) (l l' : LinkState) (old : Moments) (after : DiskState) : Type 0 where
  pub unsent : l'.sent ≡ l.sent
  pub opens : KeepsFile (header_text c host) old after.moments

-- what a node with a journal did with the text of a config that has its host, where the disk tells what stands on it
abbrev pub Reruns : Bytes → ℕ → ℕ → LinkState → LinkState → DiskState → DiskState → Type 0
Reruns text host status l l' before after = (c : Config) → IsConfigText text c → host < host_count c.shape → WhereTold before.moments (λ old. IsRerun c host status l l' old after ⊎ IsUnsent c host l l' old after)

-- ---- in a world

-- The hosts of a config are those of each schedule that has its shape and its secret.
abbrev pub HostsAreOne : Type 0
HostsAreOne = (c : Config) (s : Schedule) (h : ℕ) → c.shape ≡ s.shape → c.secret ≡ s.secret → host_of c h ≡ self_of (system_of s) h

-- So the runs of a node with a journal, whose events came to its host in such a schedule, are those of one host of its world.
abbrev pub NodesAreInWorlds : Type 0
NodesAreInWorlds = (c : Config) (s : Schedule) (h k : ℕ) (made : Bytes) (last : Run) (runs : List Run) → c.shape ≡ s.shape → c.secret ≡ s.secret → IsCorrect s h → AreRuns (host_of c h) (header_text c h) made (last ∷ runs)
    → came (system_of s) h k ≡ events_of last → AreInWorld (system_of s) h k last runs
