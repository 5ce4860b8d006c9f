use Rattle.std.proofs.Common.{◌≤◌, ◌+◌, refl, ◌∙◌, arith}
use Rattle.mb_cluster.specs.Hearing.{hears_all}
use Rattle.mb_cluster.specs.Runs.{wire}
use Rattle.mb_edge.proofs.FaultLemmas.{tells_both, tells_none}
use Rattle.mb_cluster.proofs.StepLemmas.{waits_first, nothing_more, answer_more, stops_more}
use Rattle.mb_cluster.proofs.asking.Program.await_answer.Goals as goal

pub loop-init : goal.loop-init
loop-init g c =
    let link = g.L.Link in
    record {
      waits = λ s secret side listens waits. waits_first s secret c.args.request.now side c.args.self.now (wire (link.seen c.args.link.now).received (link.seen c.args.link.now).sent) listens waits;
      number = refl;
      turns = refl;
      hosts = refl;
      opens = refl;
      faults = tells_none (link.seen c.args.link.now).faults (λ no. no);
    }

pub returns-in-Ok-Some-clause-awaits : goal.returns-in-Ok-Some-clause-awaits
returns-in-Ok-Some-clause-awaits g c = λ s secret side listens waits.
    let link = g.L.Link in
    let now = c.loop.invariant in
    let w = now.waits s secret side listens waits in
    let few : c.loop.counter + 1 ≤ c.args.self.now.turns = omega arith in
    answer_more s secret c.args.request.now side c.args.self.now c.loop.self c.receive.new.self
    (wire (link.seen c.args.link.now).received (link.seen c.args.link.now).sent) (wire (link.seen c.loop.link).received (link.seen c.loop.link).sent) (wire (link.seen c.receive.new.link).received (link.seen c.receive.new.link).sent)
    now.hosts c.loop.counter c.in-Ok-Some.reply few w (rw c.in-Ok-Some.field-0-is at (c.in-Ok-Some.ensures.receives s secret (hears_all s secret side w.got) w.does.listens))

pub returns-in-Err-clause-awaits : goal.returns-in-Err-clause-awaits
returns-in-Err-clause-awaits g c = λ s secret side listens waits.
    let link = g.L.Link in
    let now = c.loop.invariant in
    let w = now.waits s secret side listens waits in
    let few : c.loop.counter + 1 ≤ c.args.self.now.turns = omega arith in
    stops_more s secret c.loop.counter c.args.self.now.turns c.args.request.now c.in-Err.cause side c.args.self.now c.loop.self c.receive.new.self
    (wire (link.seen c.args.link.now).received (link.seen c.args.link.now).sent) (wire (link.seen c.loop.link).received (link.seen c.loop.link).sent) (wire (link.seen c.receive.new.link).received (link.seen c.receive.new.link).sent)
    now.hosts few w waits (c.in-Err.ensures.receives s secret (hears_all s secret side w.got) w.does.listens)

pub loop-preserved : goal.loop-preserved
loop-preserved g c =
    let link = g.L.Link in
    let now = c.loop.invariant in
    record {
      waits = λ s secret side listens waits.
          let w = now.waits s secret side listens waits in
          nothing_more s secret c.args.request.now side c.args.self.now c.loop.self c.receive.new.self
          (wire (link.seen c.args.link.now).received (link.seen c.args.link.now).sent) (wire (link.seen c.loop.link).received (link.seen c.loop.link).sent) (wire (link.seen c.receive.new.link).received (link.seen c.receive.new.link).sent)
          now.hosts c.loop.counter w (rw c.in-Ok-None.field-0-is at (c.in-Ok-None.ensures.receives s secret (hears_all s secret side w.got) w.does.listens));
      number = c.receive.ensures.number ∙ now.number;
      turns = c.receive.ensures.turns ∙ now.turns;
      hosts = c.receive.ensures.hosts ∙ now.hosts;
      opens = c.receive.ensures.opens ∙ now.opens;
      faults = tells_both (link.seen c.args.link.now).faults (link.seen c.loop.link).faults (link.seen c.receive.new.link).faults now.faults c.receive.ensures.faults (λ no. absurd no);
    }
