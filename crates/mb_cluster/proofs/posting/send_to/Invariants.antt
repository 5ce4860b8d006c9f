use Rattle.std.proofs.Common.{◌≡◌, take, Ok}
use Rattle.mb_edge.specs.declared.outside.Failed.{Failed}
use Rattle.mb_edge.specs.Faults.{TellsFaults}
use Rattle.mb_cluster.specs.Posts.{to_host}
use Rattle.mb_cluster.specs.Sends.{SendsFront}
use Rattle.mb_cluster.proofs.posting.send_to.Given as goal

abbrev pub invariant-loop-piece : goal.invariant-loop-piece
invariant-loop-piece g l =
    let link = g.L.Link in
    record {
      sent : SendsFront {E = Failed} (to_host (take l.piece-index l.pieces) l.host) (Ok tt) (link.seen l.fn.link).sent (link.seen l.link).sent;
      received : (link.seen l.link).received ≡ (link.seen l.fn.link).received;
      opens : (link.seen l.link).opens ≡ (link.seen l.fn.link).opens;
      faults : TellsFaults (link.never_fails l.fn.link) (link.never_fails l.link) (link.seen l.fn.link).faults (link.seen l.link).faults ⊥;
    }
