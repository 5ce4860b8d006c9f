use Rattle.std.proofs.Common.{arith}
use Rattle.mb_cluster.proofs.StopLemmas.{cut_some, first_cut, stop_long}
use Rattle.mb_cluster.proofs.stopping.StopDatagram.make.Goals as goal

pub index-requires : goal.index-requires
index-requires c =
    let pieces = c.in_ok-pieces.pieces in
    omega (arith, pieces.ok.0, cut_some c.args.secret.now c.in_ok-message.message.items pieces.items c.in_ok-message.ensures.bytes (rw c.deref.ensures.value at c.in_ok-pieces.ensures.pieces))

pub returns-clause-stop : goal.returns-clause-stop
returns-clause-stop c = record {
  number = 0;
  is = rw (c.in_ok-from_slice.ensures.items, c.as_slice.ensures)
      (first_cut c.args.secret.now c.in_ok-message.message.items c.in_ok-pieces.pieces.items c.in_ok-message.ensures.bytes (rw c.deref.ensures.value at c.in_ok-pieces.ensures.pieces) c.index.result.now c.index.ensures);
}

pub returns-clause-long : goal.returns-clause-long
returns-clause-long c =
    let secret = c.args.secret.now in
    let is = first_cut secret c.in_ok-message.message.items c.in_ok-pieces.pieces.items c.in_ok-message.ensures.bytes (rw c.deref.ensures.value at c.in_ok-pieces.ensures.pieces) c.index.result.now c.index.ensures in
    rw (c.in_ok-from_slice.ensures.items, c.as_slice.ensures, is) (stop_long secret 0)
