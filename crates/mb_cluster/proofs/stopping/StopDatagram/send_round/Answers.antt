use Rattle.std.proofs.Common.{◌≡◌, ◌∷◌, [], refl, sym, subst, ◌∙◌, arith}
use Rattle.mb_edge.specs.declared.outside.Failed.TheVariants.{Device}
use Rattle.mb_cluster.specs.Sends.{SendsSome}
use Rattle.mb_cluster.specs.Missing.{SendsBut}
use Rattle.mb_cluster.specs.Stopping.{round}
use Rattle.mb_edge.proofs.FaultLemmas.{tells_both, tells_none, tells_call}
use Rattle.mb_cluster.proofs.FaultLemmas.{either_failed}
use Rattle.mb_cluster.proofs.SendLemmas.{sends_none, sends_both, sends_call}
use Rattle.mb_cluster.proofs.FewLemmas.{buts_none, buts_both, buts_call}
use Rattle.mb_cluster.proofs.StopLemmas.{round_more}
use Rattle.mb_cluster.proofs.stopping.StopDatagram.send_round.Goals as goal

pub loop-host-init : goal.loop-host-init
loop-host-init g c =
    let link = g.L.Link in
    record {
      sent = sends_none (link.seen c.args.link.now).sent;
      few = λ never. buts_none (link.seen c.args.link.now).faults (link.seen c.args.link.now).sent;
      received = refl;
      opens = refl;
      faults = tells_none (link.seen c.args.link.now).faults (λ is. absurd cc);
    }

pub loop-host-preserved : goal.loop-host-preserved
loop-host-preserved g c =
    let link = g.L.Link in
    let now = c.loop-host.invariant in
    let host = c.loop-host.host in
    let datagram = c.args.self.now.bytes.items in
    record {
      sent = rw (round_more host datagram, c.first_failure-sent.ensures)
          (sends_both (round host datagram) ((host, datagram) ∷ []) c.loop-host.sent c.send.result (link.seen c.args.link.now).sent (link.seen c.loop-host.link).sent (link.seen c.send.new.self).sent now.sent
          (sends_call (host, datagram) c.send.result (link.seen c.loop-host.link).sent (link.seen c.send.new.self).sent (rw c.deref.ensures.value at c.send.ensures.sent)));
      few = λ never. rw (round_more host datagram)
          (buts_both (round host datagram) ((host, datagram) ∷ []) (link.seen c.args.link.now).faults (link.seen c.loop-host.link).faults (link.seen c.send.new.self).faults (link.seen c.args.link.now).sent (link.seen c.loop-host.link).sent (link.seen c.send.new.self).sent (now.few never)
          (buts_call (host, datagram) c.send.result (link.seen c.loop-host.link).faults (link.seen c.send.new.self).faults (link.seen c.loop-host.link).sent (link.seen c.send.new.self).sent (rw c.deref.ensures.value at c.send.ensures.sent) c.send.ensures.cause (c.send.ensures.ample never))
          c.send.ensures.cause.later);
      received = c.send.ensures.received ∙ now.received;
      opens = c.send.ensures.opens ∙ now.opens;
      faults = tells_both (link.seen c.args.link.now).faults (link.seen c.loop-host.link).faults (link.seen c.send.new.self).faults now.faults
          (tells_call (link.seen c.loop-host.link).faults (link.seen c.send.new.self).faults c.send.result c.send.ensures.cause c.send.ensures.sound c.send.ensures.quiet)
          (λ is. either_failed c.loop-host.sent c.send.result Device (sym c.first_failure-sent.ensures ∙ is));
    }

pub returns-clause-sent : goal.returns-clause-sent
returns-clause-sent g c =
    let link = g.L.Link in
    let end : c.loop-host.host ≡ c.args.hosts = omega arith in
    subst (λ n. SendsSome (round n c.args.self.now.bytes.items) c.loop-host.sent (link.seen c.args.link.now).sent (link.seen c.loop-host.link).sent) end c.loop-host.invariant.sent

pub returns-clause-few : goal.returns-clause-few
returns-clause-few g c = λ never.
    let link = g.L.Link in
    let end : c.loop-host.host ≡ c.args.hosts = omega arith in
    subst (λ n. SendsBut (round n c.args.self.now.bytes.items) (link.seen c.args.link.now).faults (link.seen c.loop-host.link).faults (link.seen c.args.link.now).sent (link.seen c.loop-host.link).sent) end (c.loop-host.invariant.few never)
