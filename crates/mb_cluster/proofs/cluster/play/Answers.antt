use Rattle.std.proofs.Common.{ℕ, List, Option, ◌∙◌, inl, subst}
use Rattle.std.proofs.lemmas.Result.{err_from_is_err_and}
use Rattle.mb_base.specs.Shapes.{Bytes}
use Rattle.mb_cluster.specs.Hearing.{Receive, no_hearing}
use Rattle.mb_cluster.specs.Runs.{wire}
use Rattle.mb_cluster.specs.Steps.{AsksOps}
use Rattle.mb_edge.proofs.FaultLemmas.{tells_as}
use Rattle.mb_cluster.specs.Nodes.{AreStarted}
use Rattle.mb_cluster.proofs.PlayLemmas.{plays_unopened, plays_unstarted, plays_asked, plays_in_no_order, plays_unasked, no_spawn_fault}
use Rattle.mb_cluster.proofs.cluster.play.Goals as goal

pub returns-in-Err-clause-plays : goal.returns-in-Err-clause-plays
returns-in-Err-clause-plays g c =
    let link = g.L.Link in
    let sink = g.K.Sink in
    rw c.link_stop.ensures
    (plays_unopened c.args.config.now c.args.program.now (wire (link.seen c.args.link.now).received (link.seen c.args.link.now).sent) (wire (link.seen c.open.new.self).received (link.seen c.open.new.self).sent)
    (sink.seen c.args.sink.now).bytes c.open.ensures.received c.open.ensures.sent c.in-Err.cause)

pub returns-in_err-start_nodes-clause-plays : goal.returns-in_err-start_nodes-clause-plays
returns-in_err-start_nodes-clause-plays g c =
    let link = g.L.Link in
    let sink = g.K.Sink in
    let p = err_from_is_err_and c.from_residual.result c.from_residual.ensures.1 in
    rw (p.1, p.2)
    (plays_unstarted c.args.config.now c.args.program.now (wire (link.seen c.args.link.now).received (link.seen c.args.link.now).sent) (wire (link.seen c.open.new.self).received (link.seen c.open.new.self).sent) (sink.seen c.args.sink.now).bytes
    c.open.ensures.received c.open.ensures.sent c.in_err-start_nodes.field-0.0 c.in_err-start_nodes.ensures.kind)

pub returns-clause-plays : goal.returns-clause-plays
returns-clause-plays g c =
    let link = g.L.Link in
    let sink = g.K.Sink in
    let config = c.args.config.now in
    let before = c.args.program.now in
    let after = c.ask_all.new.self in
    let new = wire (link.seen c.ask_all.new.link).received (link.seen c.ask_all.new.link).sent in
    let w0 = (sink.seen c.args.sink.now).bytes in
    let w1 = (sink.seen c.ask_all.new.sink).bytes in
    let asks = c.ask_all.ensures.asks config.shape config.secret (no_hearing config.shape) c.requires.listens in
    let of_ops = subst (λ (xs : List Bytes). AsksOps config.shape config.secret xs c.ask_all.result (no_hearing config.shape) before after (wire (link.seen c.open.new.self).received (link.seen c.open.new.self).sent) new w0 w1) c.as_slice.ensures asks in
    let of_received = subst (λ (r : Option (List Receive)). AsksOps config.shape config.secret config.ops c.ask_all.result (no_hearing config.shape) before after (wire r (link.seen c.open.new.self).sent) new w0 w1) c.open.ensures.received of_ops in
    let of_sent = subst (λ (x : Option (List (ℕ × Bytes))). AsksOps config.shape config.secret config.ops c.ask_all.result (no_hearing config.shape) before after (wire (link.seen c.args.link.now).received x) new w0 w1) c.open.ensures.sent of_received in
    plays_asked config c.ask_all.result before after (wire (link.seen c.args.link.now).received (link.seen c.args.link.now).sent) new w0 w1 of_sent

-- ---- the order

pub returns-in-Err-clause-order : goal.returns-in-Err-clause-order
returns-in-Err-clause-order g c =
    let link = g.L.Link in
    plays_in_no_order c.args.config.now c.args.program.now (link.seen c.args.link.now).opens (link.seen c.open.new.self).opens (wire (link.seen c.args.link.now).received (link.seen c.args.link.now).sent) (wire (link.seen c.open.new.self).received (link.seen c.open.new.self).sent)
    (g.K.Sink.seen c.args.sink.now).bytes c.args.children.now.items (g.P.Spawner.seen c.args.spawner.now).starts c.open.ensures.received c.open.ensures.sent c.in-Err.ensures.opens

pub returns-in_err-start_nodes-clause-order : goal.returns-in_err-start_nodes-clause-order
returns-in_err-start_nodes-clause-order g c =
    let link = g.L.Link in
    plays_unasked c.args.config.now c.args.program.now (link.seen c.args.link.now).opens (link.seen c.open.new.self).opens (wire (link.seen c.args.link.now).received (link.seen c.args.link.now).sent) (wire (link.seen c.open.new.self).received (link.seen c.open.new.self).sent)
    (g.K.Sink.seen c.args.sink.now).bytes c.start_nodes.new.children.items (g.P.Spawner.seen c.args.spawner.now).starts (g.P.Spawner.seen c.start_nodes.new.spawner).starts c.open.ensures.received c.open.ensures.sent c.in-Ok.ensures.opens

pub returns-clause-order : goal.returns-clause-order
returns-clause-order g c =
    let spawner = g.P.Spawner in
    let config = c.args.config.now in
    let children = c.start_nodes.new.children.items in
    record {
      opened = inl (c.ask_all.ensures.opens ∙ c.in-Ok.ensures.opens);
      started = inl (subst (λ (n : ℕ). AreStarted config n children (spawner.seen c.args.spawner.now).starts (spawner.seen c.start_nodes.new.spawner).starts) c.in_ok-start_nodes.ensures.all c.start_nodes.ensures.started);
    }

pub returns-clause-spawner_faults : goal.returns-clause-spawner_faults
returns-clause-spawner_faults g c =
    let link = g.L.Link in
    let sink = g.K.Sink in
    let spawner = g.P.Spawner in
    let config = c.args.config.now in
    let asks = c.ask_all.ensures.asks config.shape config.secret (no_hearing config.shape) c.requires.listens in
    tells_as (spawner.seen c.args.spawner.now).faults (spawner.seen c.start_nodes.new.spawner).faults c.in_ok-start_nodes.ensures.faults
    (λ is. absurd (no_spawn_fault config.shape config.secret c.as_slice.result.now c.ask_all.result (no_hearing config.shape) c.args.program.now c.ask_all.new.self
    (wire (link.seen c.open.new.self).received (link.seen c.open.new.self).sent) (wire (link.seen c.ask_all.new.link).received (link.seen c.ask_all.new.link).sent) (sink.seen c.args.sink.now).bytes (sink.seen c.ask_all.new.sink).bytes asks is))
