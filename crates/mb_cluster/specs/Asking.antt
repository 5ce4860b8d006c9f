-- Asking over a link, with the results written to a sink.
use Rattle.std.specs.Prelude.{List, Result}
use Rattle.mb_base.specs.Shapes.{Bytes}
use Rattle.mb_base.specs.declared.shape.Shape.{Shape}
use Rattle.mb_edge.specs.Seen.{Device, LinkState}
use Rattle.mb_cluster.specs.declared.stop.ClusterStop.{ClusterStop}
use Rattle.mb_cluster.specs.declared.asking.Program.{Program}
use Rattle.mb_cluster.specs.Hearing.{Hearing}
use Rattle.mb_cluster.specs.Runs.{wire_of}
use Rattle.mb_cluster.specs.Listens.{Listens}
use Rattle.mb_cluster.specs.Steps.{AsksOps}

-- Whatever the client's side stands for, these operations are asked, and their results written.
abbrev pub AsksAll : List Bytes → Result (Unit {0}) ClusterStop → Program → Program → LinkState → LinkState → Device → Device → Type 0
AsksAll ops result before after link link' sink sink' =
    (s : Shape) (secret : Bytes) (c : Hearing) → Listens s secret before.listener c → AsksOps s secret ops result c before after (wire_of link) (wire_of link') sink.bytes sink'.bytes
