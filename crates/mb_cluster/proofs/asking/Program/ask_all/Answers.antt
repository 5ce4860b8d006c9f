use Rattle.std.proofs.Common.{◌≡◌, ◌+◌, ◌∷◌, [], length, take, drop, List, Some, Err, refl, subst, ◌∙◌, arith}
use Rattle.std.specs.Prelude.{slice_get}
use Rattle.std.proofs.lemmas.List.{take_all}
use Rattle.std.proofs.lemmas.Option.{slice_get_read}
use Rattle.std.proofs.lemmas.Result.{err_from_is_err_and}
use Rattle.mb_base.specs.Shapes.{Bytes}
use Rattle.mb_parts.specs.Fits.{FitsText}
use Rattle.mb_cluster.specs.Exchanges.{hearing_after}
use Rattle.mb_cluster.specs.Runs.{wire}
use Rattle.mb_cluster.specs.Steps.{AsksThese, AsksOps}
use Rattle.mb_edge.proofs.FaultLemmas.{tells_both, tells_none}
use Rattle.mb_cluster.proofs.SendLemmas.{take_next, parts_at, all_at}
use Rattle.mb_cluster.proofs.StepLemmas.{asks_none, asks_both, stops_behind}
use Rattle.mb_cluster.proofs.asking.Program.ask_all.Goals as goal

pub loop-op-init : goal.loop-op-init
loop-op-init g c =
    let link = g.L.Link in
    let sink = g.K.Sink in
    record {
      asks = λ s secret side listens. asks_none s secret side c.args.self.now (wire (link.seen c.args.link.now).received (link.seen c.args.link.now).sent) (sink.seen c.args.sink.now).bytes listens;
      number = c.requires.none;
      turns = refl;
      hosts = refl;
      opens = refl;
      link_faults = tells_none (link.seen c.args.link.now).faults (λ no. no);
      sink_faults = tells_none (sink.seen c.args.sink.now).faults (λ no. no);
    }

pub ask_one-requires-clause-op : goal.ask_one-requires-clause-op
ask_one-requires-clause-op g c =
    let ops = c.args.ops.now in
    let i = c.loop-op.op-index in
    let op = c.op-item.result in
    let at : slice_get ops i ≡ Some op = slice_get_read ops (length ops) i op refl c.loop-op-test.true c.op-item.is in
    rw c.as_slice.ensures (all_at FitsText ops i op c.requires.ops at)

pub loop-op-preserved : goal.loop-op-preserved
loop-op-preserved g c =
    let link = g.L.Link in
    let sink = g.K.Sink in
    let now = c.loop-op.invariant in
    let ops = c.args.ops.now in
    let i = c.loop-op.op-index in
    let op = c.op-item.result in
    let at : slice_get ops i ≡ Some op = slice_get_read ops (length ops) i op refl c.loop-op-test.true c.op-item.is in
    record {
      asks = λ s secret side listens.
          let first = now.asks s secret side listens in
          rw (take_next ops i op at)
          (asks_both s secret (take i ops) side c.args.self.now c.loop-op.self c.ask_one.new.self
          (wire (link.seen c.args.link.now).received (link.seen c.args.link.now).sent) (wire (link.seen c.loop-op.link).received (link.seen c.loop-op.link).sent) (wire (link.seen c.ask_one.new.link).received (link.seen c.ask_one.new.link).sent)
          (sink.seen c.args.sink.now).bytes (sink.seen c.loop-op.sink).bytes (sink.seen c.ask_one.new.sink).bytes first now.turns now.hosts (op ∷ [])
          (rw c.as_slice.ensures at (c.in_ok-ask_one.ensures.asks s secret (hearing_after s secret side first.exchanges) first.does.listens)));
      number = omega (arith, c.in_ok-ask_one.ensures.number, now.number);
      turns = c.ask_one.ensures.turns ∙ now.turns;
      hosts = c.ask_one.ensures.hosts ∙ now.hosts;
      opens = c.ask_one.ensures.opens ∙ now.opens;
      link_faults = tells_both (link.seen c.args.link.now).faults (link.seen c.loop-op.link).faults (link.seen c.ask_one.new.link).faults now.link_faults c.in_ok-ask_one.ensures.link_faults (λ no. absurd no);
      sink_faults = tells_both (sink.seen c.args.sink.now).faults (sink.seen c.loop-op.sink).faults (sink.seen c.ask_one.new.sink).faults now.sink_faults c.in_ok-ask_one.ensures.sink_faults (λ no. absurd no);
    }

pub returns-in_err-ask_one-clause-asks : goal.returns-in_err-ask_one-clause-asks
returns-in_err-ask_one-clause-asks g c = λ s secret side listens.
    let link = g.L.Link in
    let sink = g.K.Sink in
    let now = c.loop-op.invariant in
    let ops = c.args.ops.now in
    let i = c.loop-op.op-index in
    let op = c.op-item.result in
    let at : slice_get ops i ≡ Some op = slice_get_read ops (length ops) i op refl c.loop-op-test.true c.op-item.is in
    let first = now.asks s secret side listens in
    let old = wire (link.seen c.args.link.now).received (link.seen c.args.link.now).sent in
    let new = wire (link.seen c.ask_one.new.link).received (link.seen c.ask_one.new.link).sent in
    let mid = wire (link.seen c.loop-op.link).received (link.seen c.loop-op.link).sent in
    let w0 = (sink.seen c.args.sink.now).bytes in
    let w1 = (sink.seen c.loop-op.sink).bytes in
    let w2 = (sink.seen c.ask_one.new.sink).bytes in
    let stop = c.in_err-ask_one.field-0.0 in
    let asked = subst (λ (o : Bytes). AsksOps s secret (o ∷ []) (Err stop) (hearing_after s secret side first.exchanges) c.loop-op.self c.ask_one.new.self mid new w1 w2) c.as_slice.ensures
    (c.in_err-ask_one.ensures.asks s secret (hearing_after s secret side first.exchanges) first.does.listens) in
    let stopped = stops_behind s secret (take i ops) side c.args.self.now c.loop-op.self c.ask_one.new.self old mid new w0 w1 w2 first now.turns now.hosts (op ∷ []) (drop (i + 1) ops) stop asked in
    let p = err_from_is_err_and c.from_residual.result c.from_residual.ensures.1 in
    rw (p.1, p.2)
    (subst (λ (xs : List Bytes). AsksOps s secret xs (Err c.in_err-ask_one.field-0.0) side c.args.self.now c.ask_one.new.self old new (sink.seen c.args.sink.now).bytes (sink.seen c.ask_one.new.sink).bytes) (parts_at ops i op at) stopped)

pub returns-clause-asks : goal.returns-clause-asks
returns-clause-asks g c = λ s secret side listens.
    let link = g.L.Link in
    let sink = g.K.Sink in
    let ops = c.args.ops.now in
    let all : take c.loop-op.op-index ops ≡ ops = take_all c.loop-op.op-index ops (omega arith) in
    subst (λ (xs : List Bytes). AsksThese s secret xs side c.args.self.now c.loop-op.self (wire (link.seen c.args.link.now).received (link.seen c.args.link.now).sent) (wire (link.seen c.loop-op.link).received (link.seen c.loop-op.link).sent)
    (sink.seen c.args.sink.now).bytes (sink.seen c.loop-op.sink).bytes) all (c.loop-op.invariant.asks s secret side listens)
