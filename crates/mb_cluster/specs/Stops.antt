-- How a run stops where a call of a device failed.
use Rattle.mb_edge.specs.declared.outside.Failed.{Failed}
use Rattle.mb_edge.specs.declared.outside.Failed.TheVariants.{Device, NoMemory}
use Rattle.mb_edge.specs.declared.writing.WriteStop.{WriteStop}
use Rattle.mb_edge.specs.declared.writing.WriteStop.TheVariants as writing
use Rattle.mb_cluster.specs.declared.stop.ClusterStop.{ClusterStop}
use Rattle.mb_cluster.specs.declared.stop.ClusterStop.TheVariants as stop

abbrev pub link_stop : Failed → ClusterStop
link_stop Device = stop.LinkFault
link_stop NoMemory = stop.NoMemory

abbrev pub spawn_stop : Failed → ClusterStop
spawn_stop Device = stop.SpawnFault
spawn_stop NoMemory = stop.NoMemory

abbrev pub sink_stop : WriteStop → ClusterStop
sink_stop writing.Fault = stop.SinkFault
sink_stop writing.NoMemory = stop.NoMemory
