-- What a cluster's client program does with a config: whom it starts, what it asks, hears and writes, and how it ends.
use Rattle.std.specs.Prelude.{◌≡◌, ℕ, ◌≤◌, ◌⊎◌, List, [], ◌∷◌, Option, IfSome, Result, Ok, Err}
use Rattle.mb_base.specs.Shapes.{Bytes}
use Rattle.mb_cluster.specs.declared.stop.ClusterStop.{ClusterStop}
use Rattle.mb_cluster.specs.declared.stop.ClusterStop.TheVariants as stop
use Rattle.mb_cluster.specs.Nodes.{Spawned, RunsNodes, EndsAs, spawned}
use Rattle.mb_cluster.specs.Runs.{Asks, Opens, wire}
use Rattle.mb_cluster.specs.Missing.{EndsByStops, AwaitsEach}
use Rattle.mb_cluster.specs.Order.{GoesInOrder}
use Rattle.mb_edge.specs.Faults.{Rose}
use Rattle.mb_edge.specs.Seen.{Device, LinkState, SpawnerState}
use Rattle.mb_sched.specs.declared.configs.Config.{Config}
use Rattle.mb_answer.specs.Configs.{IsConfigText, Uses}
use Rattle.mb_answer.specs.Devices.{Devices}

-- the status of how a run ended
abbrev pub run_status : Result (Unit {0}) ClusterStop → ℕ
run_status (Ok _) = 0
run_status (Err (stop.ChildEnded host status)) = 18
run_status (Err (stop.Budget seq matching)) = 9
run_status (Err stop.LinkFault) = 7
run_status (Err stop.SpawnFault) = 8
run_status (Err stop.SinkFault) = 6
run_status (Err stop.NoMemory) = 4

-- those of the word `cluster`: of a run, and where there is no config
abbrev pub cluster_statuses : List ℕ
cluster_statuses = 0 ∷ 2 ∷ 4 ∷ 5 ∷ 6 ∷ 7 ∷ 8 ∷ 9 ∷ 18 ∷ []

-- A device's stop comes where its count of faults rose, and a bad end where that count rose.
abbrev pub HasRisen : Result (Unit {0}) ClusterStop → Devices → Devices → Type 0
HasRisen (Ok _) old new = Unit {0}
HasRisen (Err (stop.ChildEnded host status)) old new = Rose old.spawner.bad_ends new.spawner.bad_ends
HasRisen (Err (stop.Budget seq matching)) old new = Unit {0}
HasRisen (Err stop.LinkFault) old new = Rose old.link.faults new.link.faults
HasRisen (Err stop.SpawnFault) old new = Rose old.spawner.faults new.spawner.faults
HasRisen (Err stop.SinkFault) old new = Rose old.sink.faults new.sink.faults
HasRisen (Err stop.NoMemory) old new = Unit {0}

-- There is a run that ended with this status, and this is what it did.
pub record RunsCluster (c : Config) (turns status : ℕ) (old new : Devices) : Type 0 where
  pub ended : Result (Unit {0}) ClusterStop
  pub status_is : status ≡ run_status ended
  pub asks : Asks c turns ended (wire old.link.received old.link.sent) (wire new.link.received new.link.sent) old.sink.bytes new.sink.bytes
  pub opens : Opens c ended old.link.opens new.link.opens
  pub nodes : RunsNodes c ended (spawned old.spawner.starts old.spawner.waits) (spawned new.spawner.starts new.spawner.waits)
  pub order : GoesInOrder c turns old.link.opens new.link.opens (wire old.link.received old.link.sent) (wire new.link.received new.link.sent) old.sink.bytes new.sink.bytes
      (spawned old.spawner.starts old.spawner.waits) (spawned new.spawner.starts new.spawner.waits)
  pub cause : HasRisen ended old new
  pub bad_ends : EndsAs ended old.spawner.bad_ends new.spawner.bad_ends

-- Link and spawner stay as they were.
pub record StayIdle (old new : Devices) : Type 0 where
  pub link : old.link ≡ new.link
  pub spawner : old.spawner ≡ new.spawner

-- what a cluster's client program does with a text
abbrev pub Clusters : Bytes → ℕ → ℕ → Devices → Devices → Type 0
Clusters text turns status old new = Uses text (λ c. RunsCluster c turns status old new) (StayIdle old new) status old.source new.source old.sink new.sink

-- with the text that the source tells
abbrev pub RunsWith : ℕ → ℕ → Devices → Devices → Type 0
RunsWith turns status old new = IfSome old.source.bytes (λ text. Clusters text turns status old new)

-- No node was started, or by the config of the text STOP was sent to every host three times, behind all else, but for as many as the link failed.
abbrev pub TellsToStop : Option Bytes → Spawned → Spawned → ℕ → ℕ → Option (List (ℕ × Bytes)) → Option (List (ℕ × Bytes)) → Type 0
TellsToStop text old new faults faults' sent sent' = (new.starts ≡ old.starts) ⊎ IfSome text (λ t. (c : Config) → IsConfigText t c → EndsByStops c faults faults' sent sent')

-- By the config of the text each node that was started was waited for, but for as many as the spawner failed.
abbrev pub AwaitsStarted : Option Bytes → ℕ → ℕ → Spawned → Spawned → Type 0
AwaitsStarted text faults faults' old new = IfSome text (λ t. (c : Config) → IsConfigText t c → AwaitsEach c faults faults' old new)

-- So it is of a link and a spawner before and after.
abbrev pub TellsStops : Device → SpawnerState → SpawnerState → LinkState → LinkState → Type 0
TellsStops source old new link link' =
    TellsToStop source.bytes (spawned old.starts old.waits) (spawned new.starts new.waits) link.faults link'.faults link.sent link'.sent

abbrev pub AwaitsNodes : Device → SpawnerState → SpawnerState → Type 0
AwaitsNodes source old new = AwaitsStarted source.bytes old.faults new.faults (spawned old.starts old.waits) (spawned new.starts new.waits)

-- A count of bad ends never falls, and rose where a bad end is told. None is told where all are known to end well.
pub record TellsBadEnds (well : Type 0) (before now : ℕ) (told : Type 0) : Type 0 where
  pub later : before ≤ now
  pub rose : told → Rose before now
  pub none : well → ¬ told

-- ---- where nothing fails

-- done, or memory ran out, or the budget is spent
abbrev pub IsUnbroken : ℕ → Type 0
IsUnbroken status = (status ≡ 0) ⊎ ((status ≡ 4) ⊎ (status ≡ 9))

-- By the text of a config its operations are asked, unless memory runs out, a device fails, or a node ends badly.
abbrev pub IsRun : Bytes → ℕ → Type 0 → Type 0
IsRun text status fault = (c : Config) → IsConfigText text c → ¬ fault → IsUnbroken status
