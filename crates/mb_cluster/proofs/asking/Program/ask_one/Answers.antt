use Rattle.std.proofs.Common.{◌≡◌, ◌+◌, refl, arith}
use Rattle.mb_cluster.specs.Runs.{wire}
use Rattle.mb_cluster.proofs.StepLemmas.{line_written, spends_one, link_stops}
use Rattle.mb_cluster.proofs.asking.Program.ask_one.Goals as goal

pub returns-in-Ok-Some-clause-asks : goal.returns-in-Ok-Some-clause-asks
returns-in-Ok-Some-clause-asks g c = λ s secret side listens.
    let link = g.L.Link in
    let sink = g.K.Sink in
    line_written s secret c.args.op.now c.write_result.result c.in-Ok-Some.reply side c.args.self.now c.exchange.new.self
    (wire (link.seen c.args.link.now).received (link.seen c.args.link.now).sent) (wire (link.seen c.exchange.new.link).received (link.seen c.exchange.new.link).sent) (sink.seen c.args.sink.now).bytes (sink.seen c.write_result.new.sink).bytes
    (rw c.in-Ok-Some.field-0-is at (c.in-Ok-Some.ensures.exchanges s secret side listens)) c.write_result.ensures.written

pub returns-in-Ok-None-clause-asks : goal.returns-in-Ok-None-clause-asks
returns-in-Ok-None-clause-asks g c = λ s secret side listens.
    let link = g.L.Link in
    let sink = g.K.Sink in
    let seq : side.asker.number + 1 ≡ c.asked.result = omega (arith, c.asked.ensures.value, c.in-Ok-None.ensures.number, listens.asker.number) in
    spends_one s secret c.args.op.now c.asked.result c.exchange.new.self.listener.most side c.args.self.now c.exchange.new.self
    (wire (link.seen c.args.link.now).received (link.seen c.args.link.now).sent) (wire (link.seen c.exchange.new.link).received (link.seen c.exchange.new.link).sent) (sink.seen c.args.sink.now).bytes
    (rw c.in-Ok-None.field-0-is at (c.in-Ok-None.ensures.exchanges s secret side listens)) seq refl

pub returns-in-Err-clause-asks : goal.returns-in-Err-clause-asks
returns-in-Err-clause-asks g c = λ s secret side listens.
    let link = g.L.Link in
    let sink = g.K.Sink in
    rw c.link_stop.ensures
    (link_stops s secret c.args.op.now c.in-Err.cause side c.args.self.now c.exchange.new.self
    (wire (link.seen c.args.link.now).received (link.seen c.args.link.now).sent) (wire (link.seen c.exchange.new.link).received (link.seen c.exchange.new.link).sent) (sink.seen c.args.sink.now).bytes
    (c.in-Err.ensures.exchanges s secret side listens))
