use Rattle.std.proofs.Common.{◌≡◌, ◌∙◌, ℕ, Bool, [], refl, ap, sym, subst, arith}
use Rattle.std.proofs.lemmas.Result.{err_from_is_err_and}
use Rattle.mb_base.specs.Shapes.{host_count}
use Rattle.mb_base.specs.declared.shape.Shape.{Shape}
use Rattle.mb_parts.specs.declared.floor.Floor.{Floor}
use Rattle.mb_node.specs.declared.outbox.Outbox.{Outbox}
use Rattle.mb_node.specs.declared.patience.Patience.{Patience}
use Rattle.mb_node.specs.Patience.{fresh}
use Rattle.mb_node.specs.Inboxes.{HasReceived}
use Rattle.mb_node.specs.Keeping.{KeepsOn}
use Rattle.mb_node.proofs.Faults.{calm_none, calm_both, calm_of}
use Rattle.mb_node.proofs.KeptRounds.{KeptSoFar, kept_begins, kept_more, kept_to_stop, kept_until, kept_by_budget, kept_unbegun, kept_stopped}
use Rattle.mb_node.proofs.serving.serve_kept.Goals as goal

pub returns-in_err-node-clause-serves : goal.returns-in_err-node-clause-serves
returns-in_err-node-clause-serves g c =
    let p = err_from_is_err_and c.from_residual.result c.from_residual.ensures.1 in
    rw (p.1, p.2) (kept_unbegun _ _ _ _ _ _ c.requires.keeps c.args.receives)

pub loop-init : goal.loop-init
loop-init g c =
    let made = c.in_ok-node.ensures in
    let node = c.in_ok-node.node in
    record {
      so_far = kept_begins _ c.args.replica.now _ _ _ _ node c.requires.runs
          (λ me d rep. subst (λ (s : Shape). HasReceived s [] node.receiver.inbox) (c.shape.ensures ∙ sym rep.who.shape) made.inbox)
          (λ me d rep.
          let outbox_of : ℕ → Shape → Outbox = λ h s. record { host = h; hosts = host_count s; number = 0 } in
          made.outbox ∙ ap (λ (h : ℕ). outbox_of h c.shape.result) (c.host.ensures ∙ sym rep.who.host) ∙ ap (outbox_of me.host) (c.shape.ensures ∙ sym rep.who.shape))
          (λ me d rep. made.patience ∙ ap (λ (f : Floor). fresh f.view) (c.at.ensures me d rep));
      few = omega (arith, ap (λ (p : Patience). p.quiets) made.patience);
      runs = c.requires.runs;
      rests = c.requires.rests;
      keeps = c.requires.keeps;
      opens = refl;
      links = calm_none _ _;
      sinks = calm_none _ _;
      disks = calm_none _ _;
    }

pub returns-in_err-kept_round-clause-serves : goal.returns-in_err-kept_round-clause-serves
returns-in_err-kept_round-clause-serves g c =
    let p = err_from_is_err_and c.from_residual-in_err-kept_round.result c.from_residual-in_err-kept_round.ensures.1 in
    let stopped = kept_stopped _ c.loop.node c.kept_round.new.self c.loop.replica c.kept_round.new.replica _ _ _ _ _ _ _ _ c.in_err-kept_round.field-0.0 c.in_err-kept_round.ensures.rounds in
    rw (p.1, p.2) (kept_until _ c.args.replica.now _ _ _ _ c.loop.replica c.kept_round.new.replica _ _ _ _ _ _ _ _ c.loop.node c.kept_round.new.self c.loop.counter c.loop.invariant.so_far c.loop.invariant.keeps
    c.args.receives c.in_err-kept_round.field-0.0 stopped.0 (omega (arith, c.loop-test.true)) stopped.1)

pub returns-then-branch-clause-serves : goal.returns-then-branch-clause-serves
returns-then-branch-clause-serves g c =
    let v = g.V.Service in
    let on = subst (λ (b : Bool). KeepsOn v.machine c.loop.node c.kept_round.new.self c.loop.replica c.kept_round.new.replica c.loop.journal c.kept_round.new.journal (g.D.Disk.seen c.loop.disk).moments (g.D.Disk.seen c.kept_round.new.disk).moments
    (g.L.Link.seen c.loop.link).received (g.L.Link.seen c.kept_round.new.link).received
    (record { written = (g.K.Sink.seen c.loop.out).bytes; sent = (g.L.Link.seen c.loop.link).sent }) (record { written = (g.K.Sink.seen c.kept_round.new.out).bytes; sent = (g.L.Link.seen c.kept_round.new.link).sent }) b) c.if-branch.true c.in_ok-kept_round.ensures.rounds in
    kept_to_stop _ c.args.replica.now _ _ _ _ c.loop.replica c.kept_round.new.replica _ _ _ _ _ _ _ _ c.loop.node c.kept_round.new.self c.loop.counter c.loop.invariant.so_far c.loop.invariant.keeps c.args.receives (omega (arith, c.loop-test.true)) c.in_ok-kept_round.ensures.keeps on

pub loop-preserved : goal.loop-preserved
loop-preserved g c =
    let so_far = c.loop.invariant in
    let v = g.V.Service in
    let on = subst (λ (b : Bool). KeepsOn v.machine c.loop.node c.kept_round.new.self c.loop.replica c.kept_round.new.replica c.loop.journal c.kept_round.new.journal (g.D.Disk.seen c.loop.disk).moments (g.D.Disk.seen c.kept_round.new.disk).moments
    (g.L.Link.seen c.loop.link).received (g.L.Link.seen c.kept_round.new.link).received
    (record { written = (g.K.Sink.seen c.loop.out).bytes; sent = (g.L.Link.seen c.loop.link).sent }) (record { written = (g.K.Sink.seen c.kept_round.new.out).bytes; sent = (g.L.Link.seen c.kept_round.new.link).sent }) b) c.if-branch.false c.in_ok-kept_round.ensures.rounds in
    record {
      so_far = kept_more _ c.args.replica.now _ _ _ _ c.loop.replica c.kept_round.new.replica _ _ _ _ _ _ _ _ c.loop.node c.kept_round.new.self c.loop.counter so_far.so_far so_far.keeps on;
      few = omega (arith, so_far.few, c.in_ok-kept_round.ensures.few);
      runs = c.in_ok-kept_round.ensures.runs;
      rests = c.in_ok-kept_round.ensures.rests c.in_ok-kept_round.ensures.runs;
      keeps = c.in_ok-kept_round.ensures.keeps;
      opens = c.in_ok-kept_round.ensures.opens ∙ so_far.opens;
      links = calm_both _ _ _ _ _ _ so_far.links (calm_of _ _ _ _ _ c.in_ok-kept_round.ensures.link);
      sinks = calm_both _ _ _ _ _ _ so_far.sinks (calm_of _ _ _ _ _ c.in_ok-kept_round.ensures.sink);
      disks = calm_both _ _ _ _ _ _ so_far.disks (calm_of _ _ _ _ _ c.in_ok-kept_round.ensures.disk);
    }

pub returns-clause-serves : goal.returns-clause-serves
returns-clause-serves g c =
    let v = g.V.Service in
    let all : c.loop.counter ≡ c.args.receives = omega (arith, c.loop-test.false, c.loop.auto.counter-end) in
    kept_by_budget _ c.args.replica.now _ _ _ _ c.loop.replica _ _ _ _ c.loop.node c.args.receives c.loop.invariant.keeps
    (subst (λ (n : ℕ). KeptSoFar v.machine c.args.replica.now c.args.journal.now (g.D.Disk.seen c.args.disk.now).moments (g.L.Link.seen c.args.link.now).received (record { written = (g.K.Sink.seen c.args.out.now).bytes; sent = (g.L.Link.seen c.args.link.now).sent })
    c.loop.replica c.loop.journal (g.D.Disk.seen c.loop.disk).moments (g.L.Link.seen c.loop.link).received (record { written = (g.K.Sink.seen c.loop.out).bytes; sent = (g.L.Link.seen c.loop.link).sent }) c.loop.node n) all c.loop.invariant.so_far)
