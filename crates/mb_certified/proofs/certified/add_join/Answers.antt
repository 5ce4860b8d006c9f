use Rattle.mb_parts.specs.Claims.{evidence_claims, stable_claims}
use Rattle.mb_model.specs.Compared.{inside_some}
use Rattle.mb_certified.proofs.Adding.{then_ok}
use Rattle.mb_certified.proofs.certified.add_join.Goals as goal

pub returns : goal.returns
returns c =
    then_ok c.args.shape.now c.add_stable.result c.args.out.now.items c.add_some_evidence.new.out.items c.add_stable.new.out.items (inside_some (evidence_claims c.args.shape.now) c.args.m.now.evidence)
    (stable_claims c.args.m.now.stable) c.in_ok-add_some_evidence.ensures (c.add_stable.ensures c.args.shape.now c.requires.stable)
