use Rattle.std.proofs.Common.{ap, ◌∙◌, arith, drop, flat_map}
use Rattle.mb_frag.proofs.CuttingLemmas.{cut_more, cut_all, pieces_joined}
use Rattle.mb_frag.proofs.cutting.cut.Goals as goal

pub loop-index-preserved : goal.loop-index-preserved
loop-index-preserved c =
    let so_far = c.loop-index.invariant in
    record {
      count_is = so_far.count_is;
      cut_so_far = cut_more _ _ _ _ _ _ _ _ _ so_far.count_is c.part_of.ensures.value c.in_ok-datagram.ensures so_far.cut_so_far c.in_ok-push.ensures.items;
    }

pub returns-clause-pieces : goal.returns-clause-pieces
returns-clause-pieces c =
    let so_far = c.loop-index.invariant in
    cut_all _ _ _ _ _ so_far.cut_so_far (omega (arith, so_far.count_is))

pub returns-clause-joined : goal.returns-clause-joined
returns-clause-joined c =
    let so_far = c.loop-index.invariant in
    ap (flat_map (drop 9)) (cut_all _ _ _ _ _ so_far.cut_so_far (omega (arith, so_far.count_is))) ∙ pieces_joined c.args.sender c.args.number c.args.message.now
