use Rattle.std.proofs.Common.{◌∷◌, []}
use Rattle.mb_model.specs.GateChecks.{stamp_claim}
use Rattle.mb_certified.specs.Certified.{inner_of}
use Rattle.mb_certified.proofs.Adding.{then_ok}
use Rattle.mb_certified.proofs.certified.add_entry.Goals as goal

pub returns : goal.returns
returns c =
    then_ok c.args.shape.now c.add_own.result c.args.out.now.items c.add_inner.new.out.items c.add_own.new.out.items (inner_of c.args.shape.now c.args.m.now) (stamp_claim c.args.m.now ∷ []) c.in_ok-add_inner.ensures
    (c.add_own.ensures c.args.shape.now c.requires c.in_ok-body.ensures.digest)
