use Rattle.std.proofs.Common.{◌≡◌, take}
use Rattle.mb_base.specs.Shapes.{Bytes}
use Rattle.mb_base.specs.declared.shape.Shape.{Shape}
use Rattle.mb_edge.specs.Faults.{TellsFaults}
use Rattle.mb_cluster.specs.Hearing.{Hearing}
use Rattle.mb_cluster.specs.Listens.{Listens}
use Rattle.mb_cluster.specs.Runs.{wire}
use Rattle.mb_cluster.specs.Steps.{AsksThese}
use Rattle.mb_cluster.proofs.asking.Program.ask_all.Given as goal

abbrev pub invariant-loop-op : goal.invariant-loop-op
invariant-loop-op g l =
    let link = g.L.Link in
    let sink = g.K.Sink in
    record {
      asks : (s : Shape) (secret : Bytes) (c : Hearing) → Listens s secret l.fn.self.listener c
          → AsksThese s secret (take l.op-index l.ops) c l.fn.self l.self (wire (link.seen l.fn.link).received (link.seen l.fn.link).sent) (wire (link.seen l.link).received (link.seen l.link).sent) (sink.seen l.fn.sink).bytes (sink.seen l.sink).bytes;
      number : l.self.listener.asker.number ≡ l.op-index;
      turns : l.self.turns ≡ l.fn.self.turns;
      hosts : l.self.post.hosts ≡ l.fn.self.post.hosts;
      opens : (link.seen l.link).opens ≡ (link.seen l.fn.link).opens;
      link_faults : TellsFaults (link.never_fails l.fn.link) (link.never_fails l.link) (link.seen l.fn.link).faults (link.seen l.link).faults ⊥;
      sink_faults : TellsFaults (sink.never_fails l.fn.sink) (sink.never_fails l.sink) (sink.seen l.fn.sink).faults (sink.seen l.sink).faults ⊥;
    }
