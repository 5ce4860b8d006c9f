use Rattle.std.proofs.Common.{◌≡◌, true}
use Rattle.mb_base.specs.Shapes.{Bytes}
use Rattle.mb_base.specs.declared.shape.Shape.{Shape}
use Rattle.mb_edge.specs.Faults.{TellsFaults}
use Rattle.mb_cluster.specs.Hearing.{Hearing}
use Rattle.mb_cluster.specs.Listens.{Listens}
use Rattle.mb_cluster.specs.Runs.{wire}
use Rattle.mb_cluster.specs.Steps.{WaitsOn}
use Rattle.mb_cluster.proofs.asking.Program.await_answer.Given as goal

abbrev pub invariant-loop : goal.invariant-loop
invariant-loop g l =
    let link = g.L.Link in
    record {
      waits : (s : Shape) (secret : Bytes) (c : Hearing) → Listens s secret l.fn.self.listener c → c.asker.waits ≡ true
          → WaitsOn s secret l.counter l.request c l.fn.self l.self (wire (link.seen l.fn.link).received (link.seen l.fn.link).sent) (wire (link.seen l.link).received (link.seen l.link).sent);
      number : l.self.listener.asker.number ≡ l.fn.self.listener.asker.number;
      turns : l.self.turns ≡ l.fn.self.turns;
      hosts : l.self.post.hosts ≡ l.fn.self.post.hosts;
      opens : (link.seen l.link).opens ≡ (link.seen l.fn.link).opens;
      faults : TellsFaults (link.never_fails l.fn.link) (link.never_fails l.link) (link.seen l.fn.link).faults (link.seen l.link).faults ⊥;
    }
