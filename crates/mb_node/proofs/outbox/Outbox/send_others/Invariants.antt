use Rattle.std.proofs.Common.{◌≡◌}
use Rattle.std.specs.Prelude.{filter, not, ◌==◌}
use Rattle.std.specs.List.{flat_map, range_with_len}
use Rattle.mb_edge.specs.Told.{with_more}
use Rattle.mb_node.specs.Sends.{to_peer}
use Rattle.mb_node.proofs.Faults.{Calm}
use Rattle.mb_node.proofs.outbox.Outbox.send_others.Given as goal

abbrev pub invariant-loop-peer : goal.invariant-loop-peer
invariant-loop-peer g l =
    let link = g.L.Link in
    record {
      sent : (link.seen l.link).sent ≡ with_more (link.seen l.fn.link).sent (flat_map (to_peer l.pieces) (filter (λ h. not (h == l.self.host)) (range_with_len 0 l.peer)));
      received : (link.seen l.link).received ≡ (link.seen l.fn.link).received;
      opens : (link.seen l.link).opens ≡ (link.seen l.fn.link).opens;
      calm : Calm (link.seen l.fn.link).faults (link.seen l.link).faults (link.never_fails l.fn.link) (link.never_fails l.link);
    }
