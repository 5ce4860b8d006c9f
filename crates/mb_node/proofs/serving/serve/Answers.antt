use Rattle.std.proofs.Common.{◌≡◌, ◌∙◌, ℕ, Bool, [], refl, ap, sym, subst, arith}
use Rattle.std.proofs.lemmas.Result.{err_from_is_err_and}
use Rattle.mb_base.specs.Shapes.{host_count}
use Rattle.mb_base.specs.declared.shape.Shape.{Shape}
use Rattle.mb_parts.specs.declared.floor.Floor.{Floor}
use Rattle.mb_node.specs.declared.outbox.Outbox.{Outbox}
use Rattle.mb_node.specs.declared.patience.Patience.{Patience}
use Rattle.mb_node.specs.Patience.{fresh}
use Rattle.mb_node.specs.Inboxes.{HasReceived}
use Rattle.mb_node.specs.Rounds.{GoesOn}
use Rattle.mb_node.proofs.Faults.{calm_none, calm_both, calm_of}
use Rattle.mb_node.proofs.Runs.{SoFar, so_far_none, so_far_more, ends_by_stop, ends_by_budget, ends_cut, ends_unbegun, round_stopped}
use Rattle.mb_node.proofs.serving.serve.Goals as goal

pub returns-in_err-node-clause-serves : goal.returns-in_err-node-clause-serves
returns-in_err-node-clause-serves g c =
    let p = err_from_is_err_and c.from_residual.result c.from_residual.ensures.1 in
    rw (p.1, p.2) (ends_unbegun _ _ _ _ c.args.events)

pub loop-init : goal.loop-init
loop-init g c =
    let made = c.in_ok-node.ensures in
    let node = c.in_ok-node.node in
    record {
      so_far = so_far_none _ c.args.replica.now _ _ node c.requires.runs
          (λ me d rep. subst (λ (s : Shape). HasReceived s [] node.receiver.inbox) (c.shape.ensures ∙ sym rep.who.shape) made.inbox)
          (λ me d rep.
          let outbox_of : ℕ → Shape → Outbox = λ h s. record { host = h; hosts = host_count s; number = 0 } in
          made.outbox ∙ ap (λ (h : ℕ). outbox_of h c.shape.result) (c.host.ensures ∙ sym rep.who.host) ∙ ap (outbox_of me.host) (c.shape.ensures ∙ sym rep.who.shape))
          (λ me d rep. made.patience ∙ ap (λ (f : Floor). fresh f.view) (c.at.ensures me d rep));
      few = omega (arith, ap (λ (p : Patience). p.quiets) made.patience);
      runs = c.requires.runs;
      rests = c.requires.rests;
      opens = refl;
      links = calm_none _ _;
      sinks = calm_none _ _;
    }

pub returns-in_err-round-clause-serves : goal.returns-in_err-round-clause-serves
returns-in_err-round-clause-serves g c =
    let p = err_from_is_err_and c.from_residual-in_err-round.result c.from_residual-in_err-round.ensures.1 in
    let stopped = round_stopped _ c.loop.node c.round.new.self c.loop.replica c.round.new.replica _ _ _ _ c.in_err-round.field-0.0 c.in_err-round.ensures.rounds in
    rw (p.1, p.2) (ends_cut _ c.args.replica.now _ _ c.loop.replica c.round.new.replica _ _ _ _ c.loop.node c.round.new.self c.loop.counter c.loop.invariant.so_far c.args.events c.in_err-round.field-0.0 stopped.0 (omega (arith, c.loop-test.true)) stopped.1)

pub returns-then-branch-clause-serves : goal.returns-then-branch-clause-serves
returns-then-branch-clause-serves g c =
    let v = g.V.Service in
    let on = subst (λ (b : Bool). GoesOn v.machine c.loop.node c.round.new.self c.loop.replica c.round.new.replica (g.L.Link.seen c.loop.link).received (g.L.Link.seen c.round.new.link).received
    (record { written = (g.K.Sink.seen c.loop.out).bytes; sent = (g.L.Link.seen c.loop.link).sent }) (record { written = (g.K.Sink.seen c.round.new.out).bytes; sent = (g.L.Link.seen c.round.new.link).sent }) b) c.if-branch.true c.in_ok-round.ensures.rounds in
    ends_by_stop _ c.args.replica.now _ _ c.loop.replica c.round.new.replica _ _ _ _ c.loop.node c.round.new.self c.loop.counter c.loop.invariant.so_far c.args.events (omega (arith, c.loop-test.true)) on

pub loop-preserved : goal.loop-preserved
loop-preserved g c =
    let so_far = c.loop.invariant in
    let v = g.V.Service in
    let on = subst (λ (b : Bool). GoesOn v.machine c.loop.node c.round.new.self c.loop.replica c.round.new.replica (g.L.Link.seen c.loop.link).received (g.L.Link.seen c.round.new.link).received
    (record { written = (g.K.Sink.seen c.loop.out).bytes; sent = (g.L.Link.seen c.loop.link).sent }) (record { written = (g.K.Sink.seen c.round.new.out).bytes; sent = (g.L.Link.seen c.round.new.link).sent }) b) c.if-branch.false c.in_ok-round.ensures.rounds in
    record {
      so_far = so_far_more _ c.args.replica.now _ _ c.loop.replica c.round.new.replica _ _ _ _ c.loop.node c.round.new.self c.loop.counter so_far.so_far on;
      few = omega (arith, so_far.few, c.in_ok-round.ensures.few);
      runs = c.in_ok-round.ensures.runs;
      rests = c.in_ok-round.ensures.rests c.in_ok-round.ensures.runs;
      opens = c.in_ok-round.ensures.opens ∙ so_far.opens;
      links = calm_both _ _ _ _ _ _ so_far.links (calm_of _ _ _ _ _ c.in_ok-round.ensures.link);
      sinks = calm_both _ _ _ _ _ _ so_far.sinks (calm_of _ _ _ _ _ c.in_ok-round.ensures.sink);
    }

pub returns-clause-serves : goal.returns-clause-serves
returns-clause-serves g c =
    let v = g.V.Service in
    let all : c.loop.counter ≡ c.args.events = omega (arith, c.loop-test.false, c.loop.auto.counter-end) in
    ends_by_budget _ c.args.replica.now _ _ c.loop.replica _ _ c.loop.node c.args.events
    (subst (λ (n : ℕ). SoFar v.machine c.args.replica.now (g.L.Link.seen c.args.link.now).received (record { written = (g.K.Sink.seen c.args.out.now).bytes; sent = (g.L.Link.seen c.args.link.now).sent })
    c.loop.replica (g.L.Link.seen c.loop.link).received (record { written = (g.K.Sink.seen c.loop.out).bytes; sent = (g.L.Link.seen c.loop.link).sent }) c.loop.node n) all c.loop.invariant.so_far)

pub returns-in_err-node-clause-alone : goal.returns-in_err-node-clause-alone
returns-in_err-node-clause-alone g c =
    let p = err_from_is_err_and c.from_residual.result c.from_residual.ensures.1 in
    rw (p.1, p.2) (λ of. of)

pub returns-in_err-round-clause-alone : goal.returns-in_err-round-clause-alone
returns-in_err-round-clause-alone g c =
    let p = err_from_is_err_and c.from_residual-in_err-round.result c.from_residual-in_err-round.ensures.1 in
    rw (p.1, p.2) (c.in_err-round.ensures.alone)
