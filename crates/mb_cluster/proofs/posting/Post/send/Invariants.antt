use Rattle.std.proofs.Common.{◌≡◌, Ok}
use Rattle.std.specs.List.{flat_map, range_with_len}
use Rattle.mb_edge.specs.declared.outside.Failed.{Failed}
use Rattle.mb_edge.specs.Faults.{TellsFaults}
use Rattle.mb_cluster.specs.Posts.{to_host}
use Rattle.mb_cluster.specs.Sends.{SendsFront}
use Rattle.mb_cluster.proofs.posting.Post.send.Given as goal

abbrev pub invariant-loop-host : goal.invariant-loop-host
invariant-loop-host g l =
    let link = g.L.Link in
    record {
      sent : SendsFront {E = Failed} (flat_map (to_host l.pieces.items) (range_with_len 0 l.host)) (Ok tt) (link.seen l.fn.link).sent (link.seen l.link).sent;
      received : (link.seen l.link).received ≡ (link.seen l.fn.link).received;
      opens : (link.seen l.link).opens ≡ (link.seen l.fn.link).opens;
      faults : TellsFaults (link.never_fails l.fn.link) (link.never_fails l.link) (link.seen l.fn.link).faults (link.seen l.link).faults ⊥;
    }
