use Rattle.std.proofs.Common.{◌≡◌, replicate, refl, sym, subst, ◌∙◌, arith}
use Rattle.mb_base.specs.Limits.{stop_limit}
use Rattle.mb_edge.specs.declared.outside.Failed.TheVariants.{Device}
use Rattle.mb_cluster.specs.Posts.{posts, stop_bytes}
use Rattle.mb_cluster.specs.Sends.{SendsSome}
use Rattle.mb_cluster.specs.Missing.{SendsBut}
use Rattle.mb_edge.proofs.FaultLemmas.{tells_both, tells_none}
use Rattle.mb_cluster.proofs.FaultLemmas.{either_failed}
use Rattle.mb_cluster.proofs.SendLemmas.{sends_none}
use Rattle.mb_cluster.proofs.FewLemmas.{buts_none}
use Rattle.mb_cluster.proofs.StopLemmas.{stop_renumbered, rounds_more, rounds_but, rounds_counted, renumbered_long}
use Rattle.mb_cluster.proofs.stopping.StopDatagram.send.Goals as goal

pub loop-init : goal.loop-init
loop-init g c =
    let link = g.L.Link in
    record {
      long = c.requires;
      stop = λ secret is. is;
      sent = λ secret is. sends_none (link.seen c.args.link.now).sent;
      number = λ secret. refl;
      hosts = refl;
      few = λ never secret is. buts_none (link.seen c.args.link.now).faults (link.seen c.args.link.now).sent;
      received = refl;
      opens = refl;
      faults = tells_none (link.seen c.args.link.now).faults (λ is. absurd cc);
    }

pub loop-preserved : goal.loop-preserved
loop-preserved g c =
    let link = g.L.Link in
    let now = c.loop.invariant in
    let post = c.args.post.now in
    let n = c.loop.counter in
    record {
      long = renumbered_long c.loop.self.bytes.items c.renumber.new.self.bytes.items c.take_number.result now.long c.renumber.ensures;
      stop = λ secret is. record { number = c.take_number.result; is = c.renumber.ensures ∙ stop_renumbered secret c.loop.self.bytes.items c.take_number.result (now.stop secret is) };
      sent = λ secret is.
          rw c.first_failure-sent.ensures
          (rounds_more secret c.renumber.new.self.bytes.items post.hosts post.number n c.take_number.result c.loop.sent c.send_round.result (link.seen c.args.link.now).sent (link.seen c.loop.link).sent (link.seen c.send_round.new.link).sent
          (c.renumber.ensures ∙ stop_renumbered secret c.loop.self.bytes.items c.take_number.result (now.stop secret is)) (c.take_number.ensures.number ∙ now.number secret) (now.sent secret is)
          (rw (c.take_number.ensures.hosts, now.hosts) at c.send_round.ensures.sent));
      number = λ secret. c.take_number.ensures.next ∙ rounds_counted secret post.number n c.loop.post.number (now.number secret);
      hosts = c.take_number.ensures.hosts ∙ now.hosts;
      few = λ never secret is.
          rounds_but secret c.renumber.new.self.bytes.items post.hosts post.number n c.take_number.result (link.seen c.args.link.now).faults (link.seen c.loop.link).faults (link.seen c.send_round.new.link).faults (link.seen c.args.link.now).sent (link.seen c.loop.link).sent (link.seen c.send_round.new.link).sent
          (c.renumber.ensures ∙ stop_renumbered secret c.loop.self.bytes.items c.take_number.result (now.stop secret is)) (c.take_number.ensures.number ∙ now.number secret) (now.few never secret is)
          (rw (c.take_number.ensures.hosts, now.hosts) at (c.send_round.ensures.few never)) c.send_round.ensures.faults.later;
      received = c.send_round.ensures.received ∙ now.received;
      opens = c.send_round.ensures.opens ∙ now.opens;
      faults = tells_both (link.seen c.args.link.now).faults (link.seen c.loop.link).faults (link.seen c.send_round.new.link).faults now.faults c.send_round.ensures.faults
          (λ is. either_failed c.loop.sent c.send_round.result Device (sym c.first_failure-sent.ensures ∙ is));
    }

pub returns-clause-sent : goal.returns-clause-sent
returns-clause-sent g c = λ secret is.
    let link = g.L.Link in
    let post = c.args.post.now in
    let end : c.loop.counter ≡ stop_limit = omega arith in
    subst (λ n. SendsSome (posts post.hosts post.number (replicate n (stop_bytes secret))) c.loop.sent (link.seen c.args.link.now).sent (link.seen c.loop.link).sent) end (c.loop.invariant.sent secret is)

pub returns-clause-few : goal.returns-clause-few
returns-clause-few g c = λ never secret is.
    let link = g.L.Link in
    let post = c.args.post.now in
    let end : c.loop.counter ≡ stop_limit = omega arith in
    subst (λ n. SendsBut (posts post.hosts post.number (replicate n (stop_bytes secret))) (link.seen c.args.link.now).faults (link.seen c.loop.link).faults (link.seen c.args.link.now).sent (link.seen c.loop.link).sent) end (c.loop.invariant.few never secret is)
