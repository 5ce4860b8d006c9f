-- How a line is written.
use Rattle.std.specs.Prelude.{Option, Result, Ok, Err}
use Rattle.std.specs.Io.KnownBytes.{Appends}
use Rattle.mb_base.specs.Shapes.{Bytes}
use Rattle.mb_cluster.specs.declared.stop.ClusterStop.{ClusterStop}
use Rattle.mb_cluster.specs.declared.stop.ClusterStop.TheVariants.{ChildEnded, Budget, LinkFault, SpawnFault, SinkFault, NoMemory}
use Rattle.mb_cluster.specs.Runs.{AppendsFront}

-- all of it, or a first part where the sink failed or memory ran out
abbrev pub WritesLine : Result (Unit {0}) ClusterStop → Bytes → Option Bytes → Option Bytes → Type 0
WritesLine (Ok done) line old new = Appends old new line
WritesLine (Err SinkFault) line old new = AppendsFront line old new
WritesLine (Err NoMemory) line old new = AppendsFront line old new
WritesLine (Err LinkFault) line old new = ⊥
WritesLine (Err SpawnFault) line old new = ⊥
WritesLine (Err (ChildEnded host status)) line old new = ⊥
WritesLine (Err (Budget seq matching)) line old new = ⊥
