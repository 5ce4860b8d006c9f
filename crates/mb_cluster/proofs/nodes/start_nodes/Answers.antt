use Rattle.std.proofs.Common.{◌≡◌, ◌∷◌, [], refl, ◌∙◌, arith}
use Rattle.mb_edge.specs.Told.{with_more}
use Rattle.mb_sched.specs.Configs.{config_text}
use Rattle.mb_cluster.specs.Nodes.{node_start}
use Rattle.mb_edge.proofs.FaultLemmas.{tells_both, tells_none}
use Rattle.mb_cluster.proofs.EndLemmas.{started_none, started_more, started_kept, started_as}
use Rattle.mb_cluster.proofs.nodes.start_nodes.Goals as goal

pub loop-host-init : goal.loop-host-init
loop-host-init g c =
    let spawner = g.P.Spawner in
    record {
      started = started_none c.args.config.now c.args.children.now.items (spawner.seen c.args.spawner.now).starts c.requires.none;
      room = c.requires.room;
      waits = refl;
      bad_ends = refl;
      well = λ well. well;
      faults = tells_none (spawner.seen c.args.spawner.now).faults (λ no. no);
    }

pub loop-host-preserved : goal.loop-host-preserved
loop-host-preserved g c =
    let spawner = g.P.Spawner in
    let now = c.loop-host.invariant in
    let host = c.loop-host.host in
    let config = c.args.config.now in
    let child = c.in_ok-start_node.field-0 in
    let told : (spawner.seen c.start_node.new.spawner).starts ≡ with_more (spawner.seen c.loop-host.spawner).starts ((child, node_start (config_text config) host) ∷ []) =
    rw (c.deref.ensures.value, c.in_ok-text.ensures) at c.in_ok-start_node.ensures.starts in
    record {
      started = rw c.push_reserved.ensures.items (started_more config host c.loop-host.children.items child (spawner.seen c.args.spawner.now).starts (spawner.seen c.loop-host.spawner).starts (spawner.seen c.start_node.new.spawner).starts now.started told);
      room = rw c.push_reserved.ensures.capacity now.room;
      waits = c.start_node.ensures.waits ∙ now.waits;
      bad_ends = c.start_node.ensures.bad_ends ∙ now.bad_ends;
      well = λ well. c.start_node.ensures.well (now.well well);
      faults = tells_both (spawner.seen c.args.spawner.now).faults (spawner.seen c.loop-host.spawner).faults (spawner.seen c.start_node.new.spawner).faults now.faults c.in_ok-start_node.ensures.faults (λ no. absurd no);
    }

-- nothing was started yet
pub returns-in_err-text-clause-started : goal.returns-in_err-text-clause-started
returns-in_err-text-clause-started g c =
    let spawner = g.P.Spawner in
    started_as c.args.config.now 0 c.args.children.now.items (spawner.seen c.args.spawner.now).starts (spawner.seen c.args.spawner.now).starts
    (started_none c.args.config.now c.args.children.now.items (spawner.seen c.args.spawner.now).starts c.requires.none)

-- the next start failed
pub returns-in_err-start_node-clause-started : goal.returns-in_err-start_node-clause-started
returns-in_err-start_node-clause-started g c =
    let spawner = g.P.Spawner in
    started_kept c.args.config.now c.loop-host.host c.loop-host.children.items (spawner.seen c.args.spawner.now).starts (spawner.seen c.loop-host.spawner).starts (spawner.seen c.start_node.new.spawner).starts c.loop-host.invariant.started c.in_err-start_node.ensures.starts

pub returns-clause-started : goal.returns-clause-started
returns-clause-started g c =
    let spawner = g.P.Spawner in
    started_as c.args.config.now c.loop-host.host c.loop-host.children.items (spawner.seen c.args.spawner.now).starts (spawner.seen c.loop-host.spawner).starts c.loop-host.invariant.started

-- the list has room for each node
pub push_reserved-requires : goal.push_reserved-requires
push_reserved-requires g c = omega (arith, c.loop-host.invariant.room, c.loop-host.invariant.started.each, c.loop-host.children.ok.0)
