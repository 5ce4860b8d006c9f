-- How the code starts nodes and waits for them.
use Rattle.std.specs.Prelude.{ℕ, List, [], ◌∷◌, Option, Result, Ok, Err}
use Rattle.mb_edge.specs.declared.outside.Failed.{Failed}
use Rattle.mb_cluster.specs.declared.stop.ClusterStop.{ClusterStop}
use Rattle.mb_cluster.specs.declared.stop.ClusterStop.TheVariants.{ChildEnded, Budget, LinkFault, SpawnFault, SinkFault, NoMemory}
use Rattle.mb_cluster.specs.Stops.{spawn_stop}
use Rattle.mb_cluster.specs.Sends.{first_failure}
use Rattle.mb_cluster.specs.Nodes.{first_bad, ended_as, AreAwaited}

-- the stops at a start
abbrev pub IsSpawnStop : {T : Type 0} → Result T ClusterStop → Type 0
IsSpawnStop (Ok done) = Unit {0}
IsSpawnStop (Err SpawnFault) = Unit {0}
IsSpawnStop (Err NoMemory) = Unit {0}
IsSpawnStop (Err LinkFault) = ⊥
IsSpawnStop (Err SinkFault) = ⊥
IsSpawnStop (Err (ChildEnded host status)) = ⊥
IsSpawnStop (Err (Budget seq matching)) = ⊥

-- a wait that failed
abbrev pub after_failure : Failed → Result (Unit {0}) ClusterStop → Result (Unit {0}) ClusterStop
after_failure cause (Ok done) = Err (spawn_stop cause)
after_failure cause (Err (ChildEnded host status)) = Err (spawn_stop cause)
after_failure cause (Err e) = Err e

-- how the nodes of a host and of all lower ones ended: the first failed wait is told before the first bad end
abbrev pub after_wait : ℕ → Result ℕ Failed → Result (Unit {0}) ClusterStop → Result (Unit {0}) ClusterStop
after_wait host (Ok status) before = first_failure before (ended_as (first_bad host (status ∷ [])))
after_wait host (Err cause) before = after_failure cause before

-- how the waits for these children end
abbrev pub AwaitsNodes : List ℕ → Result (Unit {0}) ClusterStop → Option (List (ℕ × ℕ)) → Option (List (ℕ × ℕ)) → Type 0
AwaitsNodes children (Ok done) old new = AreAwaited children (Ok done) old new
AwaitsNodes children (Err (ChildEnded host status)) old new = AreAwaited children (Err (ChildEnded host status)) old new
AwaitsNodes children (Err SpawnFault) old new = Unit {0}
AwaitsNodes children (Err NoMemory) old new = Unit {0}
AwaitsNodes children (Err LinkFault) old new = ⊥
AwaitsNodes children (Err SinkFault) old new = ⊥
AwaitsNodes children (Err (Budget seq matching)) old new = ⊥

-- no bad end is told
abbrev pub EndsWell : Result (Unit {0}) ClusterStop → Type 0
EndsWell (Err (ChildEnded host status)) = ⊥
EndsWell _ = Unit {0}
