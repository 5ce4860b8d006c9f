-- In which order a run goes on: the link is opened, then every node is started, and only then anything is asked.
use Rattle.std.specs.Prelude.{◌≡◌, ◌⊎◌, ℕ, List, Option}
use Rattle.mb_base.specs.Shapes.{Bytes, host_count}
use Rattle.mb_edge.specs.declared.spawner.Start.{Start}
use Rattle.mb_edge.specs.Seen.{Device, LinkState, SpawnerState}
use Rattle.mb_sched.specs.declared.configs.Config.{Config}
use Rattle.mb_cluster.specs.declared.asking.Program.{Program}
use Rattle.mb_cluster.specs.Nodes.{AreStarted, Spawned, spawned_by, RunEach}
use Rattle.mb_cluster.specs.Runs.{Wire, wire_of, AsksNone, OpensOnce}
use Rattle.mb_cluster.specs.Plays.{PlaysNone}

-- The link was opened, or no node was started. The node of each host was started, or nothing was asked.
pub record GoesInOrder (c : Config) (turns : ℕ) (opens opens' : Option (List (ℕ × ℕ))) (old new : Wire) (written written' : Option Bytes) (before after : Spawned) : Type 0 where
  pub opened : OpensOnce c opens opens' ⊎ ((opens' ≡ opens) × (after.starts ≡ before.starts))
  pub started : RunEach c before after ⊎ AsksNone c turns old new written written'

-- The same before the nodes are told to end: these children were started.
pub record PlaysInOrder (c : Config) (before after : Program) (opens opens' : Option (List (ℕ × ℕ))) (old new : Wire) (written written' : Option Bytes) (children : List ℕ) (starts starts' : Option (List (ℕ × Start))) : Type 0 where
  pub opened : OpensOnce c opens opens' ⊎ ((opens' ≡ opens) × (starts' ≡ starts))
  pub started : AreStarted c (host_count c.shape) children starts starts' ⊎ PlaysNone before after old new written written'

-- ---- of devices

abbrev pub RunsInOrder : Config → ℕ → LinkState → LinkState → Device → Device → SpawnerState → SpawnerState → Type 0
RunsInOrder c turns link link' sink sink' spawner spawner' =
    GoesInOrder c turns link.opens link'.opens (wire_of link) (wire_of link') sink.bytes sink'.bytes (spawned_by spawner) (spawned_by spawner')

abbrev pub StartsInOrder : Config → Program → Program → LinkState → LinkState → Device → Device → List ℕ → SpawnerState → SpawnerState → Type 0
StartsInOrder c before after link link' sink sink' children spawner spawner' =
    PlaysInOrder c before after link.opens link'.opens (wire_of link) (wire_of link') sink.bytes sink'.bytes children spawner.starts spawner'.starts
