-- What a failed call means to a node.
use Rattle.mb_edge.specs.declared.outside.Failed.{Failed}
use Rattle.mb_edge.specs.declared.outside.Failed.TheVariants as failed
use Rattle.mb_edge.specs.declared.writing.WriteStop.{WriteStop}
use Rattle.mb_edge.specs.declared.writing.WriteStop.TheVariants as writing
use Rattle.mb_node.specs.declared.stops.ServeStop.{ServeStop}
use Rattle.mb_node.specs.declared.stops.ServeStop.TheVariants.{LinkFault, SinkFault, DiskFault, Full, NoMemory}

-- of the link
abbrev pub link_stop : Failed → ServeStop
link_stop failed.Device = LinkFault
link_stop failed.NoMemory = NoMemory

-- of the sink
abbrev pub sink_stop : WriteStop → ServeStop
sink_stop writing.Fault = SinkFault
sink_stop writing.NoMemory = NoMemory

-- a stop that only a node with a journal has
abbrev pub IsOfDisk : ServeStop → Type 0
IsOfDisk DiskFault = Unit {0}
IsOfDisk (Full length) = Unit {0}
IsOfDisk s = ⊥

-- a stop of keeping an event
abbrev pub IsOfKeeping : ServeStop → Type 0
IsOfKeeping DiskFault = Unit {0}
IsOfKeeping (Full length) = Unit {0}
IsOfKeeping NoMemory = Unit {0}
IsOfKeeping s = ⊥
