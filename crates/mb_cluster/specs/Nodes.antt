-- The nodes: how they are started, and how they end.
use Rattle.std.specs.Prelude.{◌≡◌, ◌≢◌, ◌≤◌, ℕ, ◌+◌, ◌==◌, List, [], ◌∷◌, ◌++◌, codes, length, map, if◌then◌else◌, Option, Some, None, Result, Ok, Err}
use Rattle.std.specs.List.{range_with_len, zip}
use Rattle.std.specs.Fmt.{decimal}
use Rattle.mb_base.specs.Shapes.{Bytes, host_count}
use Rattle.mb_edge.specs.declared.spawner.Start.{Start}
use Rattle.mb_edge.specs.Seen.{SpawnerState}
use Rattle.mb_edge.specs.Children.{start_of}
use Rattle.mb_edge.specs.Faults.{Rose}
use Rattle.mb_edge.specs.Told.{with_more}
use Rattle.mb_sched.specs.declared.configs.Config.{Config}
use Rattle.mb_sched.specs.Configs.{config_text}
use Rattle.mb_cluster.specs.Posts.{AreSome}
use Rattle.mb_cluster.specs.declared.stop.ClusterStop.{ClusterStop}
use Rattle.mb_cluster.specs.declared.stop.ClusterStop.TheVariants.{ChildEnded, Budget, LinkFault, SpawnFault, SinkFault, NoMemory}

-- how many receives a node of a cluster makes, as the word of its command: it ends behind them where no STOP reaches it
abbrev pub node_receives : Bytes
node_receives = codes "100000"

-- `node H 100000`
abbrev pub node_words : ℕ → List Bytes
node_words host = codes "node" ∷ decimal host ∷ node_receives ∷ []

-- `node-H.record`
abbrev pub record_name : ℕ → Bytes
record_name host = codes "node-" ++ (decimal host ++ codes ".record")

-- the node of a host gets the config, and its record goes to a file
abbrev pub node_start : Bytes → ℕ → Start
node_start config host = start_of (node_words host) config (record_name host)

-- the starts of the first nodes
abbrev pub node_starts : Config → ℕ → List Start
node_starts c count = map (node_start (config_text c)) (range_with_len 0 count)

-- ---- ends

-- the lowest host, from this one on, whose node ended with another status than 0, and the status
abbrev pub first_bad : ℕ → List ℕ → Option (ℕ × ℕ)
first_bad host [] = None
first_bad host (status ∷ rest) = if status == 0 then first_bad (host + 1) rest else Some (host, status)

-- how a run ends by its nodes alone
abbrev pub ended_as : Option (ℕ × ℕ) → Result (Unit {0}) ClusterStop
ended_as None = Ok tt
ended_as (Some bad) = Err (ChildEnded bad.0 bad.1)

-- Each child was waited for, in order, and this is how that ends.
pub record AreAwaited (children : List ℕ) (result : Result (Unit {0}) ClusterStop) (old new : Option (List (ℕ × ℕ))) : Type 0 where
  pub statuses : List ℕ
  pub each : length statuses ≡ length children
  pub waits : new ≡ with_more old (zip children statuses)
  pub ended : result ≡ ended_as (first_bad 0 statuses)

-- what a spawner tells of its starts and waits
pub record Spawned : Type 0 where
  pub starts : Option (List (ℕ × Start))
  pub waits : Option (List (ℕ × ℕ))

abbrev pub spawned : Option (List (ℕ × Start)) → Option (List (ℕ × ℕ)) → Spawned
spawned starts waits = record { starts = starts; waits = waits }

abbrev pub spawned_by : SpawnerState → Spawned
spawned_by s = spawned s.starts s.waits

-- the nodes of the first so many hosts were started, in order, as these children
pub record AreStarted (c : Config) (count : ℕ) (children : List ℕ) (old new : Option (List (ℕ × Start))) : Type 0 where
  pub each : length children ≡ count
  pub starts : new ≡ with_more old (zip children (node_starts c count))

-- and waited for
pub record RunNodes (c : Config) (result : Result (Unit {0}) ClusterStop) (old new : Spawned) : Type 0 where
  pub children : List ℕ
  pub started : AreStarted c (host_count c.shape) children old.starts new.starts
  pub awaited : AreAwaited children result old.waits new.waits

-- Each of these waits was for one of the children, in their order.
pub record AwaitsSome (children : List ℕ) (old new : Option (List (ℕ × ℕ))) : Type 0 where
  pub some : List (ℕ × ℕ)
  pub told : new ≡ with_more old some
  pub among : AreSome (map (λ wait. wait.0) some) children

-- The nodes of the first hosts were started, in order, and those that were waited for are among them.
pub record RunFirst (c : Config) (old new : Spawned) : Type 0 where
  pub children : List ℕ
  pub few : length children ≤ host_count c.shape
  pub started : AreStarted c (length children) children old.starts new.starts
  pub awaited : AwaitsSome children old.waits new.waits

-- the nodes of all hosts were
pub record RunEach (c : Config) (old new : Spawned) : Type 0 where
  pub children : List ℕ
  pub started : AreStarted c (host_count c.shape) children old.starts new.starts
  pub awaited : AwaitsSome children old.waits new.waits

-- the nodes that stand started where a run ends or stops: all where something was asked
abbrev pub StartsNodes : Config → Result (Unit {0}) ClusterStop → List ℕ → Option (List (ℕ × Start)) → Option (List (ℕ × Start)) → Type 0
StartsNodes c (Ok done) children old new = AreStarted c (host_count c.shape) children old new
StartsNodes c (Err (Budget seq matching)) children old new = AreStarted c (host_count c.shape) children old new
StartsNodes c (Err SinkFault) children old new = AreStarted c (host_count c.shape) children old new
StartsNodes c (Err e) children old new = AreStarted c (length children) children old new

-- What is done to the nodes: the first ones are started, in order, and then each wait is for one of them, in order. At the end all were started and waited for.
abbrev pub RunsNodes : Config → Result (Unit {0}) ClusterStop → Spawned → Spawned → Type 0
RunsNodes c (Ok done) old new = RunNodes c (Ok done) old new
RunsNodes c (Err (ChildEnded host status)) old new = RunNodes c (Err (ChildEnded host status)) old new
RunsNodes c (Err (Budget seq matching)) old new = RunEach c old new
RunsNodes c (Err SinkFault) old new = RunEach c old new
RunsNodes c (Err LinkFault) old new = RunFirst c old new
RunsNodes c (Err SpawnFault) old new = RunFirst c old new
RunsNodes c (Err NoMemory) old new = RunFirst c old new

-- A count of bad ends never falls. It stays where all is well, and rose where a bad end is told.
abbrev pub EndsAs : Result (Unit {0}) ClusterStop → ℕ → ℕ → Type 0
EndsAs (Ok done) before now = now ≡ before
EndsAs (Err (ChildEnded host status)) before now = (before ≤ now) × Rose before now × (status ≢ 0)
EndsAs (Err e) before now = before ≤ now
