use Rattle.std.proofs.Common.{◌∷◌, []}
use Rattle.mb_model.specs.GateChecks.{stamp_claim}
use Rattle.mb_model.specs.Inside.{claims_in_stamped, stamped_claims}
use Rattle.mb_certified.proofs.Adding.{then_ok}
use Rattle.mb_certified.proofs.certified.add_stamped.Goals as goal

pub returns : goal.returns
unfolding stamped_claims
returns c =
    then_ok c.args.shape.now c.add_own.result c.args.out.now.items c.add_inside.new.out.items c.add_own.new.out.items (claims_in_stamped c.args.shape.now c.args.m.now) (stamp_claim c.args.m.now ∷ []) c.in_ok-add_inside.ensures
    (c.add_own.ensures c.args.shape.now c.requires c.in_ok-body.ensures.digest)
