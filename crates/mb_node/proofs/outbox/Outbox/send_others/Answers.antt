use Rattle.std.proofs.Common.{◌≡◌, ◌+◌, ◌-◌, ◌++◌, false, ap, sym, ◌∙◌}
use Rattle.std.specs.Prelude.{◌==◌}
use Rattle.std.specs.List.{range_with_len}
use Rattle.std.proofs.lemmas.Bool.{eq-eqb, ne_eqb}
use Rattle.std.proofs.lemmas.Result.{err_from_is_err_and}
use Rattle.mb_edge.specs.Told.{with_more}
use Rattle.mb_node.specs.Sends.{Sends, to_peer}
use Rattle.mb_node.proofs.Faults.{calm_both, calm_of}
use Rattle.mb_node.proofs.Told.{stopped, sends_behind, sends_before, sent_both}
use Rattle.mb_node.proofs.Peers.{others_in, others_more, others_same, others_parted}
use Rattle.mb_node.proofs.outbox.Outbox.send_others.Goals as goal
use Rattle.mb_node.proofs.outbox.Outbox.send_others.Goals.{then-peer-self+in_ok-send_pieces, else-peer-self}

pub returns-in_err-send_pieces-clause-sends : goal.returns-in_err-send_pieces-clause-sends
returns-in_err-send_pieces-clause-sends g c =
    let p = err_from_is_err_and c.from_residual.result c.from_residual.ensures.1 in
    let host = c.args.self.now.host in
    let hosts = c.args.self.now.hosts in
    let pieces = c.args.pieces.now in
    let h = c.loop-peer.peer in
    let before : Sends = others_in host pieces (range_with_len 0 h) in
    let later : Sends = others_in host pieces (range_with_len (h + 1) (hosts - (h + 1))) in
    let other : (h == host) ≡ false = ne_eqb h host c.if-peer-self.true in
    let whole = others_parted host pieces hosts h c.loop-peer-test.true other in
    stopped _ _ _ _ p.0 p.1 (rw whole (sends_before (before ++ to_peer pieces h) later _ _ (sends_behind before (to_peer pieces h) _ _ _ c.loop-peer.invariant.sent c.in_err-send_pieces.ensures.sends)))

pub loop-peer-preserved : goal.loop-peer-preserved
loop-peer-preserved g c =
    let host = c.args.self.now.host in
    let pieces = c.args.pieces.now in
    let h = c.loop-peer.peer in
    let so_far = c.loop-peer.invariant in
    let told = (g.L.Link.seen c.args.link.now).sent in
    elim c.if-peer-self.branch [
      | then-peer-self+in_ok-send_pieces w ↦ rw w.link-is (record {
        sent = sent_both told _ _ (others_in host pieces (range_with_len 0 h)) (to_peer pieces h) so_far.sent w.in_ok-send_pieces.ensures.sends ∙ ap (with_more told) (sym (others_more host pieces h (ne_eqb h host w.if-peer-self.true)));
        received = w.in_ok-send_pieces.ensures.received ∙ so_far.received;
        opens = w.in_ok-send_pieces.ensures.opens ∙ so_far.opens;
        calm = calm_both _ _ _ _ _ _ so_far.calm (calm_of _ _ _ _ _ w.in_ok-send_pieces.ensures.link);
      })
      | else-peer-self w ↦ rw w.link-is (record {
        sent = so_far.sent ∙ ap (with_more told) (sym (others_same host pieces h (eq-eqb h host w.if-peer-self.false)));
        received = so_far.received;
        opens = so_far.opens;
        calm = so_far.calm;
      })
    ]
