use Rattle.std.proofs.Common.{◌≡◌, ℕ, List, ◌+◌, ◌-◌, ◌++◌, Ok, refl, ap, subst, ◌∙◌, arith}
use Rattle.std.specs.List.{flat_map, range_with_len}
use Rattle.mb_base.specs.Shapes.{Bytes}
use Rattle.mb_frag.specs.Cutting.{pieces_of}
use Rattle.mb_cluster.specs.Posts.{program, to_host, to_all}
use Rattle.mb_cluster.specs.Sends.{SendsFront}
use Rattle.mb_edge.proofs.FaultLemmas.{tells_both, tells_none}
use Rattle.mb_cluster.proofs.SendLemmas.{fronts_none, fronts_both, fronts_nothing, fronts_stop, hosts_more, hosts_parts, not_ok}
use Rattle.mb_cluster.proofs.posting.Post.send.Goals as goal

pub loop-host-init : goal.loop-host-init
loop-host-init g c =
    let link = g.L.Link in
    record {
      sent = fronts_none (link.seen c.args.link.now).sent;
      received = refl;
      opens = refl;
      faults = tells_none (link.seen c.args.link.now).faults (λ no. no);
    }

pub loop-host-preserved : goal.loop-host-preserved
loop-host-preserved g c =
    let link = g.L.Link in
    let now = c.loop-host.invariant in
    let host = c.loop-host.host in
    let pieces = c.in_ok-pieces.pieces.items in
    record {
      sent = rw (hosts_more pieces host)
          (fronts_both (flat_map (to_host pieces) (range_with_len 0 host)) (to_host pieces host) (Ok tt) (link.seen c.args.link.now).sent (link.seen c.loop-host.link).sent (link.seen c.send_to.new.link).sent now.sent
          (rw c.deref.ensures.value at c.in_ok-send_to.ensures.sent));
      received = c.in_ok-send_to.ensures.received ∙ now.received;
      opens = c.in_ok-send_to.ensures.opens ∙ now.opens;
      faults = tells_both (link.seen c.args.link.now).faults (link.seen c.loop-host.link).faults (link.seen c.send_to.new.link).faults now.faults c.in_ok-send_to.ensures.faults (λ no. absurd no);
    }

pub returns-in_err-send_to-clause-sent : goal.returns-in_err-send_to-clause-sent
returns-in_err-send_to-clause-sent g c =
    let link = g.L.Link in
    let host = c.loop-host.host in
    let hosts = c.args.self.now.hosts in
    let pieces = c.in_ok-pieces.pieces.items in
    let earlier = flat_map (to_host pieces) (range_with_len 0 host) in
    let later = flat_map (to_host pieces) (range_with_len (host + 1) (hosts - (host + 1))) in
    let begun = fronts_both earlier (to_host pieces host) c.send_to.result (link.seen c.args.link.now).sent (link.seen c.loop-host.link).sent (link.seen c.send_to.new.link).sent c.loop-host.invariant.sent
    (rw c.deref.ensures.value at c.send_to.ensures.sent) in
    let pieces_are : pieces ≡ pieces_of program c.args.self.now.number c.args.message.now = c.in_ok-pieces.ensures.pieces ∙ ap (λ (n : ℕ). pieces_of program n c.args.message.now) c.take_number-number.ensures.number in
    subst (λ (ps : List Bytes). SendsFront (flat_map (to_host ps) (range_with_len 0 hosts)) c.from_residual-in_err-send_to.result (link.seen c.args.link.now).sent (link.seen c.send_to.new.link).sent) pieces_are
    (fronts_stop (flat_map (to_host pieces) (range_with_len 0 hosts)) (earlier ++ to_host pieces host) later c.send_to.result c.from_residual-in_err-send_to.result (link.seen c.args.link.now).sent (link.seen c.send_to.new.link).sent
    (hosts_parts pieces host hosts (omega arith)) begun (not_ok _ c.from_residual-in_err-send_to.result c.from_residual-in_err-send_to.ensures.1))

pub returns-clause-sent : goal.returns-clause-sent
returns-clause-sent g c =
    let link = g.L.Link in
    let now = c.loop-host.invariant in
    let end : c.loop-host.host ≡ c.args.self.now.hosts = omega arith in
    let pieces = c.in_ok-pieces.pieces.items in
    let pieces_are : pieces ≡ pieces_of program c.args.self.now.number c.args.message.now = c.in_ok-pieces.ensures.pieces ∙ ap (λ (n : ℕ). pieces_of program n c.args.message.now) c.take_number-number.ensures.number in
    let at_end = subst (λ n. SendsFront (flat_map (to_host pieces) (range_with_len 0 n)) (Ok tt) (link.seen c.args.link.now).sent (link.seen c.loop-host.link).sent) end now.sent in
    subst (λ ps. SendsFront (flat_map (to_host ps) (range_with_len 0 c.args.self.now.hosts)) (Ok tt) (link.seen c.args.link.now).sent (link.seen c.loop-host.link).sent) pieces_are at_end

pub returns-in_err-pieces-clause-sent : goal.returns-in_err-pieces-clause-sent
returns-in_err-pieces-clause-sent g c = fronts_nothing (to_all c.args.self.now.hosts c.args.self.now.number c.args.message.now) c.from_residual.result (g.L.Link.seen c.args.link.now).sent (not_ok _ c.from_residual.result c.from_residual.ensures.1)
