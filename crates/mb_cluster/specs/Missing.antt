-- What is missing at the end of a run, where a device failed.
use Rattle.std.specs.Prelude.{◌≡◌, ℕ, ◌+◌, ◌-◌, ◌^◌, ◌≤◌, ◌⊎◌, List, ◌++◌, length, map, Option}
use Rattle.mb_base.specs.Shapes.{Bytes, host_count}
use Rattle.mb_edge.specs.Seen.{LinkState, SpawnerState}
use Rattle.mb_edge.specs.Told.{with_more}
use Rattle.mb_sched.specs.declared.configs.Config.{Config}
use Rattle.mb_cluster.specs.Posts.{posts, stops, AreSome}
use Rattle.mb_cluster.specs.Nodes.{Spawned, AreStarted}

-- Some of these, in their order. No more are missing than a count of faults rose by, unless that stands at its last value.
pub record MissesFew {A : Type 0} (some all : List A) (before now : ℕ) : Type 0 where
  pub among : AreSome some all
  pub few : (2 ^ 64 - 1 ≤ now) ⊎ (length all + before ≤ length some + now)

-- Some of these datagrams were sent. No more are missing than the link's count of faults rose by.
pub record SendsBut (datagrams : List (ℕ × Bytes)) (before now : ℕ) (old new : Option (List (ℕ × Bytes))) : Type 0 where
  pub some : List (ℕ × Bytes)
  pub told : new ≡ with_more old some
  pub few : MissesFew some datagrams before now

-- Behind all else that was sent, STOP was sent to every host, three times. No more of these are missing than the link's count of faults rose by.
pub record EndsByStops (c : Config) (before now : ℕ) (old new : Option (List (ℕ × Bytes))) : Type 0 where
  pub front : List (ℕ × Bytes)
  pub number : ℕ
  pub stopped : List (ℕ × Bytes)
  pub few : MissesFew stopped (posts (host_count c.shape) number (stops c.secret)) before now
  pub sent : new ≡ with_more old (front ++ stopped)

-- The children were waited for, in order. No more waits are missing than the spawner's count of faults rose by.
pub record AwaitsBut (children : List ℕ) (before now : ℕ) (old new : Option (List (ℕ × ℕ))) : Type 0 where
  pub some : List (ℕ × ℕ)
  pub told : new ≡ with_more old some
  pub few : MissesFew (map (λ wait. wait.0) some) children before now

-- So was each node that was started: the first ones, in order.
pub record AwaitsEach (c : Config) (before now : ℕ) (old new : Spawned) : Type 0 where
  pub children : List ℕ
  pub started : AreStarted c (length children) children old.starts new.starts
  pub awaited : AwaitsBut children before now old.waits new.waits

-- ---- of devices

-- No node was started, or STOP was sent to every host three times, but for as many as the link failed.
abbrev pub StopsStarted : Config → SpawnerState → SpawnerState → LinkState → LinkState → Type 0
StopsStarted c old new link link' = (new.starts ≡ old.starts) ⊎ EndsByStops c link.faults link'.faults link.sent link'.sent

-- Each of these was sent, but for as many as the link failed.
abbrev pub SendsMost : List (ℕ × Bytes) → LinkState → LinkState → Type 0
SendsMost datagrams link link' = SendsBut datagrams link.faults link'.faults link.sent link'.sent
