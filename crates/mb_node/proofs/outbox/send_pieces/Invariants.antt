use Rattle.std.proofs.Common.{◌≡◌, take}
use Rattle.mb_edge.specs.Told.{with_more}
use Rattle.mb_node.specs.Sends.{to_peer}
use Rattle.mb_node.proofs.Faults.{Calm}
use Rattle.mb_node.proofs.outbox.send_pieces.Given as goal

abbrev pub invariant-loop-piece : goal.invariant-loop-piece
invariant-loop-piece g l =
    let link = g.L.Link in
    record {
      sent : (link.seen l.link).sent ≡ with_more (link.seen l.fn.link).sent (to_peer (take l.piece-index l.pieces) l.peer);
      received : (link.seen l.link).received ≡ (link.seen l.fn.link).received;
      opens : (link.seen l.link).opens ≡ (link.seen l.fn.link).opens;
      calm : Calm (link.seen l.fn.link).faults (link.seen l.link).faults (link.never_fails l.fn.link) (link.never_fails l.link);
    }
