use Rattle.std.proofs.Common.{◌≡◌, take, drop, length, Some, Ok, refl, ◌∙◌, []}
use Rattle.std.specs.Prelude.{slice_get, ◌∷◌}
use Rattle.std.proofs.lemmas.Option.{slice_get_read}
use Rattle.mb_edge.specs.Told.{with_more}
use Rattle.mb_cluster.specs.Posts.{to_host}
use Rattle.mb_edge.proofs.FaultLemmas.{tells_both, tells_call}
use Rattle.mb_cluster.proofs.SendLemmas.{fronts_one, fronts_both, fronts_kept, fronts_stop, to_host_more, to_host_parts, not_ok}
use Rattle.mb_cluster.proofs.posting.send_to.Goals as goal

pub loop-piece-preserved : goal.loop-piece-preserved
loop-piece-preserved g c =
    let link = g.L.Link in
    let now = c.loop-piece.invariant in
    let i = c.loop-piece.piece-index in
    let host = c.args.host in
    let pieces = c.args.pieces.now in
    let piece = c.piece-item.result in
    let at : slice_get pieces i ≡ Some piece = slice_get_read pieces (length pieces) i piece refl c.loop-piece-test.true c.piece-item.is in
    let told : (link.seen c.send.new.self).sent ≡ with_more (link.seen c.loop-piece.link).sent ((host, piece) ∷ []) = rw c.as_slice.ensures at c.in_ok-send.ensures.sent in
    record {
      sent = rw (to_host_more pieces host i piece at)
          (fronts_both (to_host (take i pieces) host) ((host, piece) ∷ []) (Ok tt) (link.seen c.args.link.now).sent (link.seen c.loop-piece.link).sent (link.seen c.send.new.self).sent now.sent
          (fronts_one (host, piece) (link.seen c.loop-piece.link).sent (link.seen c.send.new.self).sent told));
      received = c.in_ok-send.ensures.received ∙ now.received;
      opens = c.in_ok-send.ensures.opens ∙ now.opens;
      faults = tells_both (link.seen c.args.link.now).faults (link.seen c.loop-piece.link).faults (link.seen c.send.new.self).faults now.faults
          (tells_call (link.seen c.loop-piece.link).faults (link.seen c.send.new.self).faults c.send.result c.send.ensures.cause c.send.ensures.sound c.send.ensures.quiet) (λ no. absurd no);
    }

pub returns-in_err-send-clause-sent : goal.returns-in_err-send-clause-sent
returns-in_err-send-clause-sent g c =
    let link = g.L.Link in
    let i = c.loop-piece.piece-index in
    let host = c.args.host in
    let pieces = c.args.pieces.now in
    fronts_stop (to_host pieces host) (to_host (take i pieces) host) (to_host (drop i pieces) host) (Ok tt) c.from_residual.result (link.seen c.args.link.now).sent (link.seen c.send.new.self).sent
    (to_host_parts pieces host i)
    (fronts_kept (to_host (take i pieces) host) (link.seen c.args.link.now).sent (link.seen c.loop-piece.link).sent (link.seen c.send.new.self).sent c.loop-piece.invariant.sent c.in_err-send.ensures.sent)
    (not_ok _ c.from_residual.result c.from_residual.ensures.1)
