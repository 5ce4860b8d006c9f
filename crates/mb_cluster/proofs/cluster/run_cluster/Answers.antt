use Rattle.std.proofs.Common.{refl, inl, inr, arith}
use Rattle.std.proofs.lemmas.Result.{err_from_is_err_and}
use Rattle.mb_cluster.specs.Runs.{wire}
use Rattle.mb_cluster.proofs.EndLemmas.{none_awaited}
use Rattle.mb_cluster.proofs.PlayLemmas.{cut_at_once, in_order_at_once, stays_in_order, asks_stopped, asks_ended, asks_unstopped, ends_by_stops, nodes_at_once, nodes_ended, nodes_unstopped, nodes_stopped, waits_each}
use Rattle.mb_cluster.proofs.cluster.run_cluster.Goals as goal

-- ---- nothing was begun

pub returns-in_err-program-clause-asks : goal.returns-in_err-program-clause-asks
returns-in_err-program-clause-asks g c =
    let link = g.L.Link in
    let p = err_from_is_err_and c.from_residual.result c.from_residual.ensures.1 in
    rw (p.1, p.2) (cut_at_once c.args.config.now c.args.turns (wire (link.seen c.args.link.now).received (link.seen c.args.link.now).sent) (g.K.Sink.seen c.args.sink.now).bytes)

pub returns-in_err-stop-clause-asks : goal.returns-in_err-stop-clause-asks
returns-in_err-stop-clause-asks g c =
    let link = g.L.Link in
    let p = err_from_is_err_and c.from_residual-in_err-stop.result c.from_residual-in_err-stop.ensures.1 in
    rw (p.1, p.2) (cut_at_once c.args.config.now c.args.turns (wire (link.seen c.args.link.now).received (link.seen c.args.link.now).sent) (g.K.Sink.seen c.args.sink.now).bytes)

pub returns-in_err-children-clause-asks : goal.returns-in_err-children-clause-asks
returns-in_err-children-clause-asks g c =
    let link = g.L.Link in
    let p = err_from_is_err_and c.from_residual-in_err-children.result c.from_residual-in_err-children.ensures.1 in
    rw (p.1, p.2) (cut_at_once c.args.config.now c.args.turns (wire (link.seen c.args.link.now).received (link.seen c.args.link.now).sent) (g.K.Sink.seen c.args.sink.now).bytes)

pub returns-in_err-program-clause-opens : goal.returns-in_err-program-clause-opens
returns-in_err-program-clause-opens g c = let p = err_from_is_err_and c.from_residual.result c.from_residual.ensures.1 in rw (p.1, p.2) (inl refl)

pub returns-in_err-stop-clause-opens : goal.returns-in_err-stop-clause-opens
returns-in_err-stop-clause-opens g c = let p = err_from_is_err_and c.from_residual-in_err-stop.result c.from_residual-in_err-stop.ensures.1 in rw (p.1, p.2) (inl refl)

pub returns-in_err-children-clause-opens : goal.returns-in_err-children-clause-opens
returns-in_err-children-clause-opens g c = let p = err_from_is_err_and c.from_residual-in_err-children.result c.from_residual-in_err-children.ensures.1 in rw (p.1, p.2) (inl refl)

pub returns-in_err-program-clause-nodes : goal.returns-in_err-program-clause-nodes
returns-in_err-program-clause-nodes g c =
    let p = err_from_is_err_and c.from_residual.result c.from_residual.ensures.1 in
    rw (p.1, p.2) (nodes_at_once c.args.config.now (g.P.Spawner.seen c.args.spawner.now).starts (g.P.Spawner.seen c.args.spawner.now).waits)

pub returns-in_err-stop-clause-nodes : goal.returns-in_err-stop-clause-nodes
returns-in_err-stop-clause-nodes g c =
    let p = err_from_is_err_and c.from_residual-in_err-stop.result c.from_residual-in_err-stop.ensures.1 in
    rw (p.1, p.2) (nodes_at_once c.args.config.now (g.P.Spawner.seen c.args.spawner.now).starts (g.P.Spawner.seen c.args.spawner.now).waits)

pub returns-in_err-children-clause-nodes : goal.returns-in_err-children-clause-nodes
returns-in_err-children-clause-nodes g c =
    let p = err_from_is_err_and c.from_residual-in_err-children.result c.from_residual-in_err-children.ensures.1 in
    rw (p.1, p.2) (nodes_at_once c.args.config.now (g.P.Spawner.seen c.args.spawner.now).starts (g.P.Spawner.seen c.args.spawner.now).waits)

pub returns-in_err-program-clause-stops : goal.returns-in_err-program-clause-stops
returns-in_err-program-clause-stops g c = λ never. inl refl

pub returns-in_err-stop-clause-stops : goal.returns-in_err-stop-clause-stops
returns-in_err-stop-clause-stops g c = λ never. inl refl

pub returns-in_err-children-clause-stops : goal.returns-in_err-children-clause-stops
returns-in_err-children-clause-stops g c = λ never. inl refl

pub returns-in_err-program-clause-waits : goal.returns-in_err-program-clause-waits
returns-in_err-program-clause-waits g c = λ never. none_awaited c.args.config.now (g.P.Spawner.seen c.args.spawner.now).faults (g.P.Spawner.seen c.args.spawner.now).faults (g.P.Spawner.seen c.args.spawner.now).starts (g.P.Spawner.seen c.args.spawner.now).waits (omega arith)

pub returns-in_err-stop-clause-waits : goal.returns-in_err-stop-clause-waits
returns-in_err-stop-clause-waits g c = λ never. none_awaited c.args.config.now (g.P.Spawner.seen c.args.spawner.now).faults (g.P.Spawner.seen c.args.spawner.now).faults (g.P.Spawner.seen c.args.spawner.now).starts (g.P.Spawner.seen c.args.spawner.now).waits (omega arith)

pub returns-in_err-children-clause-waits : goal.returns-in_err-children-clause-waits
returns-in_err-children-clause-waits g c = λ never. none_awaited c.args.config.now (g.P.Spawner.seen c.args.spawner.now).faults (g.P.Spawner.seen c.args.spawner.now).faults (g.P.Spawner.seen c.args.spawner.now).starts (g.P.Spawner.seen c.args.spawner.now).waits (omega arith)

-- ---- the run stopped

pub returns-in_err-played-clause-asks : goal.returns-in_err-played-clause-asks
returns-in_err-played-clause-asks g c =
    let link = g.L.Link in
    let sink = g.K.Sink in
    let p = err_from_is_err_and c.from_residual-in_err-played.result c.from_residual-in_err-played.ensures.1 in
    rw (p.1, p.2)
    (asks_stopped c.args.config.now c.args.turns c.in_ok-program.program c.play-played.new.program
    (wire (link.seen c.args.link.now).received (link.seen c.args.link.now).sent) (wire (link.seen c.play-played.new.link).received (link.seen c.play-played.new.link).sent) (wire (link.seen c.send-stopped.new.link).received (link.seen c.send-stopped.new.link).sent)
    (sink.seen c.args.sink.now).bytes (sink.seen c.play-played.new.sink).bytes
    c.in_ok-program.ensures.turns c.in_ok-program.ensures.hosts c.play-played.ensures.hosts c.in_ok-program.ensures.first c.send-stopped.ensures.received
    c.in_err-played.field-0.0 c.send-stopped.result c.in_err-played.ensures.plays (c.send-stopped.ensures.sent c.args.config.now.secret c.in_ok-stop.ensures.stop))

pub returns-in_err-played-clause-nodes : goal.returns-in_err-played-clause-nodes
returns-in_err-played-clause-nodes g c =
    let link = g.L.Link in
    let sink = g.K.Sink in
    let spawner = g.P.Spawner in
    let p = err_from_is_err_and c.from_residual-in_err-played.result c.from_residual-in_err-played.ensures.1 in
    rw (p.1, p.2)
    (nodes_stopped c.args.config.now c.play-played.new.children.items (spawner.seen c.args.spawner.now).starts (spawner.seen c.play-played.new.spawner).starts (spawner.seen c.await_nodes-awaited.new.spawner).starts
    (spawner.seen c.args.spawner.now).waits (spawner.seen c.play-played.new.spawner).waits (spawner.seen c.await_nodes-awaited.new.spawner).waits
    c.await_nodes-awaited.ensures.starts c.play-played.ensures.waits c.play-played.ensures.few (rw c.deref.ensures.value at c.await_nodes-awaited.ensures.some)
    c.in_err-played.field-0.0 c.in_ok-program.program c.play-played.new.program (wire (link.seen c.args.link.now).received (link.seen c.args.link.now).sent) (wire (link.seen c.play-played.new.link).received (link.seen c.play-played.new.link).sent)
    (sink.seen c.args.sink.now).bytes (sink.seen c.play-played.new.sink).bytes c.in_err-played.ensures.plays c.in_err-played.ensures.starts)

-- ---- it came to its end

pub returns-in-Ok-clause-asks : goal.returns-in-Ok-clause-asks
returns-in-Ok-clause-asks g c =
    let link = g.L.Link in
    let sink = g.K.Sink in
    let spawner = g.P.Spawner in
    asks_ended c.args.config.now c.args.turns c.in_ok-program.program c.play-played.new.program
    (wire (link.seen c.args.link.now).received (link.seen c.args.link.now).sent) (wire (link.seen c.play-played.new.link).received (link.seen c.play-played.new.link).sent) (wire (link.seen c.send-stopped.new.link).received (link.seen c.send-stopped.new.link).sent)
    (sink.seen c.args.sink.now).bytes (sink.seen c.play-played.new.sink).bytes
    c.in_ok-program.ensures.turns c.in_ok-program.ensures.hosts c.play-played.ensures.hosts c.in_ok-program.ensures.first c.send-stopped.ensures.received
    c.await_nodes-awaited.result c.deref.result.now (spawner.seen c.play-played.new.spawner).waits (spawner.seen c.await_nodes-awaited.new.spawner).waits c.in_ok-played.ensures.plays
    (c.in-Ok.ensures.sent c.args.config.now.secret c.in_ok-stop.ensures.stop) c.await_nodes-awaited.ensures.awaited

pub returns-in-Ok-clause-nodes : goal.returns-in-Ok-clause-nodes
returns-in-Ok-clause-nodes g c =
    let spawner = g.P.Spawner in
    nodes_ended c.args.config.now c.play-played.new.children.items (spawner.seen c.args.spawner.now).starts (spawner.seen c.play-played.new.spawner).starts (spawner.seen c.await_nodes-awaited.new.spawner).starts
    (spawner.seen c.args.spawner.now).waits (spawner.seen c.play-played.new.spawner).waits (spawner.seen c.await_nodes-awaited.new.spawner).waits
    c.await_nodes-awaited.ensures.starts c.play-played.ensures.waits c.play-played.ensures.few (rw c.deref.ensures.value at c.await_nodes-awaited.ensures.some)
    c.await_nodes-awaited.result c.in_ok-played.ensures.starts (rw c.deref.ensures.value at c.await_nodes-awaited.ensures.awaited)

pub returns-clause-asks : goal.returns-clause-asks
returns-clause-asks g c =
    let link = g.L.Link in
    let sink = g.K.Sink in
    rw c.link_stop.ensures
    (asks_unstopped c.args.config.now c.args.turns c.in_ok-program.program c.play-played.new.program
    (wire (link.seen c.args.link.now).received (link.seen c.args.link.now).sent) (wire (link.seen c.play-played.new.link).received (link.seen c.play-played.new.link).sent) (wire (link.seen c.send-stopped.new.link).received (link.seen c.send-stopped.new.link).sent)
    (sink.seen c.args.sink.now).bytes (sink.seen c.play-played.new.sink).bytes
    c.in_ok-program.ensures.turns c.in_ok-program.ensures.hosts c.play-played.ensures.hosts c.in_ok-program.ensures.first c.send-stopped.ensures.received
    c.in-Err.cause c.in_ok-played.ensures.plays (c.in-Err.ensures.sent c.args.config.now.secret c.in_ok-stop.ensures.stop))

pub returns-clause-nodes : goal.returns-clause-nodes
returns-clause-nodes g c =
    let spawner = g.P.Spawner in
    rw c.link_stop.ensures
    (nodes_unstopped c.args.config.now c.play-played.new.children.items (spawner.seen c.args.spawner.now).starts (spawner.seen c.play-played.new.spawner).starts (spawner.seen c.await_nodes-awaited.new.spawner).starts
    (spawner.seen c.args.spawner.now).waits (spawner.seen c.play-played.new.spawner).waits (spawner.seen c.await_nodes-awaited.new.spawner).waits
    c.await_nodes-awaited.ensures.starts c.play-played.ensures.waits c.play-played.ensures.few (rw c.deref.ensures.value at c.await_nodes-awaited.ensures.some)
    c.in-Err.cause c.play-played.ensures.first)

-- ---- whatever was played

pub returns-in_err-played-clause-stops : goal.returns-in_err-played-clause-stops
returns-in_err-played-clause-stops g c = λ never.
    let link = g.L.Link in
    let sink = g.K.Sink in
    inr
    (ends_by_stops c.args.config.now c.args.turns c.in_ok-program.program c.play-played.new.program
    (wire (link.seen c.args.link.now).received (link.seen c.args.link.now).sent) (wire (link.seen c.play-played.new.link).received (link.seen c.play-played.new.link).sent) (wire (link.seen c.send-stopped.new.link).received (link.seen c.send-stopped.new.link).sent)
    (sink.seen c.args.sink.now).bytes (sink.seen c.play-played.new.sink).bytes
    c.in_ok-program.ensures.turns c.in_ok-program.ensures.hosts c.play-played.ensures.hosts c.in_ok-program.ensures.first c.send-stopped.ensures.received
    c.play-played.result (link.seen c.args.link.now).faults (link.seen c.play-played.new.link).faults (link.seen c.send-stopped.new.link).faults c.play-played.ensures.link_faults.later c.play-played.ensures.plays
    (c.send-stopped.ensures.few never c.args.config.now.secret c.in_ok-stop.ensures.stop))

pub returns-in_err-played-clause-waits : goal.returns-in_err-played-clause-waits
returns-in_err-played-clause-waits g c = λ never.
    let spawner = g.P.Spawner in
    waits_each c.args.config.now c.play-played.new.children.items (spawner.seen c.args.spawner.now).starts (spawner.seen c.play-played.new.spawner).starts (spawner.seen c.await_nodes-awaited.new.spawner).starts
    (spawner.seen c.args.spawner.now).waits (spawner.seen c.play-played.new.spawner).waits (spawner.seen c.await_nodes-awaited.new.spawner).waits
    c.await_nodes-awaited.ensures.starts c.play-played.ensures.waits c.play-played.ensures.few (rw c.deref.ensures.value at c.await_nodes-awaited.ensures.some)
    (spawner.seen c.args.spawner.now).faults (spawner.seen c.play-played.new.spawner).faults (spawner.seen c.await_nodes-awaited.new.spawner).faults c.play-played.ensures.spawner_faults.later c.play-played.ensures.first
    (rw c.deref.ensures.value at (c.await_nodes-awaited.ensures.few never))

pub returns-in-Ok-clause-stops : goal.returns-in-Ok-clause-stops
returns-in-Ok-clause-stops g c = λ never.
    let link = g.L.Link in
    let sink = g.K.Sink in
    inr
    (ends_by_stops c.args.config.now c.args.turns c.in_ok-program.program c.play-played.new.program
    (wire (link.seen c.args.link.now).received (link.seen c.args.link.now).sent) (wire (link.seen c.play-played.new.link).received (link.seen c.play-played.new.link).sent) (wire (link.seen c.send-stopped.new.link).received (link.seen c.send-stopped.new.link).sent)
    (sink.seen c.args.sink.now).bytes (sink.seen c.play-played.new.sink).bytes
    c.in_ok-program.ensures.turns c.in_ok-program.ensures.hosts c.play-played.ensures.hosts c.in_ok-program.ensures.first c.send-stopped.ensures.received
    c.play-played.result (link.seen c.args.link.now).faults (link.seen c.play-played.new.link).faults (link.seen c.send-stopped.new.link).faults c.play-played.ensures.link_faults.later c.play-played.ensures.plays
    (c.send-stopped.ensures.few never c.args.config.now.secret c.in_ok-stop.ensures.stop))

pub returns-in-Ok-clause-waits : goal.returns-in-Ok-clause-waits
returns-in-Ok-clause-waits g c = λ never.
    let spawner = g.P.Spawner in
    waits_each c.args.config.now c.play-played.new.children.items (spawner.seen c.args.spawner.now).starts (spawner.seen c.play-played.new.spawner).starts (spawner.seen c.await_nodes-awaited.new.spawner).starts
    (spawner.seen c.args.spawner.now).waits (spawner.seen c.play-played.new.spawner).waits (spawner.seen c.await_nodes-awaited.new.spawner).waits
    c.await_nodes-awaited.ensures.starts c.play-played.ensures.waits c.play-played.ensures.few (rw c.deref.ensures.value at c.await_nodes-awaited.ensures.some)
    (spawner.seen c.args.spawner.now).faults (spawner.seen c.play-played.new.spawner).faults (spawner.seen c.await_nodes-awaited.new.spawner).faults c.play-played.ensures.spawner_faults.later c.play-played.ensures.first
    (rw c.deref.ensures.value at (c.await_nodes-awaited.ensures.few never))

pub returns-clause-stops : goal.returns-clause-stops
returns-clause-stops g c = λ never.
    let link = g.L.Link in
    let sink = g.K.Sink in
    inr
    (ends_by_stops c.args.config.now c.args.turns c.in_ok-program.program c.play-played.new.program
    (wire (link.seen c.args.link.now).received (link.seen c.args.link.now).sent) (wire (link.seen c.play-played.new.link).received (link.seen c.play-played.new.link).sent) (wire (link.seen c.send-stopped.new.link).received (link.seen c.send-stopped.new.link).sent)
    (sink.seen c.args.sink.now).bytes (sink.seen c.play-played.new.sink).bytes
    c.in_ok-program.ensures.turns c.in_ok-program.ensures.hosts c.play-played.ensures.hosts c.in_ok-program.ensures.first c.send-stopped.ensures.received
    c.play-played.result (link.seen c.args.link.now).faults (link.seen c.play-played.new.link).faults (link.seen c.send-stopped.new.link).faults c.play-played.ensures.link_faults.later c.play-played.ensures.plays
    (c.send-stopped.ensures.few never c.args.config.now.secret c.in_ok-stop.ensures.stop))

pub returns-clause-waits : goal.returns-clause-waits
returns-clause-waits g c = λ never.
    let spawner = g.P.Spawner in
    waits_each c.args.config.now c.play-played.new.children.items (spawner.seen c.args.spawner.now).starts (spawner.seen c.play-played.new.spawner).starts (spawner.seen c.await_nodes-awaited.new.spawner).starts
    (spawner.seen c.args.spawner.now).waits (spawner.seen c.play-played.new.spawner).waits (spawner.seen c.await_nodes-awaited.new.spawner).waits
    c.await_nodes-awaited.ensures.starts c.play-played.ensures.waits c.play-played.ensures.few (rw c.deref.ensures.value at c.await_nodes-awaited.ensures.some)
    (spawner.seen c.args.spawner.now).faults (spawner.seen c.play-played.new.spawner).faults (spawner.seen c.await_nodes-awaited.new.spawner).faults c.play-played.ensures.spawner_faults.later c.play-played.ensures.first
    (rw c.deref.ensures.value at (c.await_nodes-awaited.ensures.few never))

-- ---- the order

pub returns-in_err-program-clause-order : goal.returns-in_err-program-clause-order
returns-in_err-program-clause-order g c =
    let link = g.L.Link in
    in_order_at_once c.args.config.now c.args.turns (link.seen c.args.link.now).opens (wire (link.seen c.args.link.now).received (link.seen c.args.link.now).sent) (g.K.Sink.seen c.args.sink.now).bytes (g.P.Spawner.seen c.args.spawner.now).starts (g.P.Spawner.seen c.args.spawner.now).waits

pub returns-in_err-stop-clause-order : goal.returns-in_err-stop-clause-order
returns-in_err-stop-clause-order g c =
    let link = g.L.Link in
    in_order_at_once c.args.config.now c.args.turns (link.seen c.args.link.now).opens (wire (link.seen c.args.link.now).received (link.seen c.args.link.now).sent) (g.K.Sink.seen c.args.sink.now).bytes (g.P.Spawner.seen c.args.spawner.now).starts (g.P.Spawner.seen c.args.spawner.now).waits

pub returns-in_err-children-clause-order : goal.returns-in_err-children-clause-order
returns-in_err-children-clause-order g c =
    let link = g.L.Link in
    in_order_at_once c.args.config.now c.args.turns (link.seen c.args.link.now).opens (wire (link.seen c.args.link.now).received (link.seen c.args.link.now).sent) (g.K.Sink.seen c.args.sink.now).bytes (g.P.Spawner.seen c.args.spawner.now).starts (g.P.Spawner.seen c.args.spawner.now).waits

pub returns-in_err-played-clause-order : goal.returns-in_err-played-clause-order
returns-in_err-played-clause-order g c =
    let link = g.L.Link in
    let sink = g.K.Sink in
    let spawner = g.P.Spawner in
    stays_in_order c.args.config.now c.args.turns c.in_ok-program.program c.play-played.new.program
    (wire (link.seen c.args.link.now).received (link.seen c.args.link.now).sent) (wire (link.seen c.play-played.new.link).received (link.seen c.play-played.new.link).sent) (wire (link.seen c.send-stopped.new.link).received (link.seen c.send-stopped.new.link).sent)
    (sink.seen c.args.sink.now).bytes (sink.seen c.play-played.new.sink).bytes
    c.in_ok-program.ensures.turns c.in_ok-program.ensures.hosts c.play-played.ensures.hosts c.in_ok-program.ensures.first c.send-stopped.ensures.received
    (link.seen c.args.link.now).opens (link.seen c.play-played.new.link).opens (link.seen c.send-stopped.new.link).opens c.play-played.new.children.items
    (spawner.seen c.args.spawner.now).starts (spawner.seen c.play-played.new.spawner).starts (spawner.seen c.await_nodes-awaited.new.spawner).starts
    (spawner.seen c.args.spawner.now).waits (spawner.seen c.play-played.new.spawner).waits (spawner.seen c.await_nodes-awaited.new.spawner).waits
    c.send-stopped.result c.send-stopped.ensures.opens c.await_nodes-awaited.ensures.starts c.play-played.ensures.waits (rw c.deref.ensures.value at c.await_nodes-awaited.ensures.some)
    (c.send-stopped.ensures.sent c.args.config.now.secret c.in_ok-stop.ensures.stop) c.play-played.ensures.order

pub returns-in-Ok-clause-order : goal.returns-in-Ok-clause-order
returns-in-Ok-clause-order g c =
    let link = g.L.Link in
    let sink = g.K.Sink in
    let spawner = g.P.Spawner in
    stays_in_order c.args.config.now c.args.turns c.in_ok-program.program c.play-played.new.program
    (wire (link.seen c.args.link.now).received (link.seen c.args.link.now).sent) (wire (link.seen c.play-played.new.link).received (link.seen c.play-played.new.link).sent) (wire (link.seen c.send-stopped.new.link).received (link.seen c.send-stopped.new.link).sent)
    (sink.seen c.args.sink.now).bytes (sink.seen c.play-played.new.sink).bytes
    c.in_ok-program.ensures.turns c.in_ok-program.ensures.hosts c.play-played.ensures.hosts c.in_ok-program.ensures.first c.send-stopped.ensures.received
    (link.seen c.args.link.now).opens (link.seen c.play-played.new.link).opens (link.seen c.send-stopped.new.link).opens c.play-played.new.children.items
    (spawner.seen c.args.spawner.now).starts (spawner.seen c.play-played.new.spawner).starts (spawner.seen c.await_nodes-awaited.new.spawner).starts
    (spawner.seen c.args.spawner.now).waits (spawner.seen c.play-played.new.spawner).waits (spawner.seen c.await_nodes-awaited.new.spawner).waits
    c.send-stopped.result c.send-stopped.ensures.opens c.await_nodes-awaited.ensures.starts c.play-played.ensures.waits (rw c.deref.ensures.value at c.await_nodes-awaited.ensures.some)
    (c.send-stopped.ensures.sent c.args.config.now.secret c.in_ok-stop.ensures.stop) c.play-played.ensures.order

pub returns-clause-order : goal.returns-clause-order
returns-clause-order g c =
    let link = g.L.Link in
    let sink = g.K.Sink in
    let spawner = g.P.Spawner in
    stays_in_order c.args.config.now c.args.turns c.in_ok-program.program c.play-played.new.program
    (wire (link.seen c.args.link.now).received (link.seen c.args.link.now).sent) (wire (link.seen c.play-played.new.link).received (link.seen c.play-played.new.link).sent) (wire (link.seen c.send-stopped.new.link).received (link.seen c.send-stopped.new.link).sent)
    (sink.seen c.args.sink.now).bytes (sink.seen c.play-played.new.sink).bytes
    c.in_ok-program.ensures.turns c.in_ok-program.ensures.hosts c.play-played.ensures.hosts c.in_ok-program.ensures.first c.send-stopped.ensures.received
    (link.seen c.args.link.now).opens (link.seen c.play-played.new.link).opens (link.seen c.send-stopped.new.link).opens c.play-played.new.children.items
    (spawner.seen c.args.spawner.now).starts (spawner.seen c.play-played.new.spawner).starts (spawner.seen c.await_nodes-awaited.new.spawner).starts
    (spawner.seen c.args.spawner.now).waits (spawner.seen c.play-played.new.spawner).waits (spawner.seen c.await_nodes-awaited.new.spawner).waits
    c.send-stopped.result c.send-stopped.ensures.opens c.await_nodes-awaited.ensures.starts c.play-played.ensures.waits (rw c.deref.ensures.value at c.await_nodes-awaited.ensures.some)
    (c.send-stopped.ensures.sent c.args.config.now.secret c.in_ok-stop.ensures.stop) c.play-played.ensures.order
