use Rattle.std.proofs.Common.{take, ◌∙◌}
use Rattle.std.proofs.lemmas.Result.{err_from_is_err_and}
use Rattle.mb_base.specs.Shapes.{Bytes}
use Rattle.mb_edge.proofs.ToldLemmas.{with_more-nil}
use Rattle.mb_node.specs.Sends.{to_peer}
use Rattle.mb_node.proofs.Told.{part_map, stopped}
use Rattle.mb_node.proofs.outbox.send_pieces.Goals as goal

pub returns-in_err-send-clause-sends : goal.returns-in_err-send-clause-sends
returns-in_err-send-clause-sends g c =
    let p = err_from_is_err_and c.from_residual.result c.from_residual.ensures.1 in
    let xs = c.args.pieces.now in
    let i = c.loop-piece.piece-index in
    stopped _ _ _ _ p.0 p.1 (record {
      part = to_peer (take i xs) c.args.peer;
      first = part_map (λ (piece : Bytes). (c.args.peer, piece)) xs i;
      sent = c.in_err-send.ensures.sent ∙ with_more-nil _ ∙ c.loop-piece.invariant.sent;
    })
