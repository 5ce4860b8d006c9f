use Rattle.std.proofs.Common.{List, ◌++◌, subst}
use Rattle.std.specs.Prelude.{OnOk}
use Rattle.std.specs.List.{flat_map}
use Rattle.mb_parts.specs.Claims.{Claim, floor_claims, stable_claims, evidence_claims}
use Rattle.mb_msg.specs.declared.stamped.Stamped.{Stamped}
use Rattle.mb_model.specs.Compared.{inside_some}
use Rattle.mb_model.specs.Inside.{stamped_claims, claims_in}
use Rattle.mb_certified.specs.Certified.{Adds}
use Rattle.mb_certified.proofs.Adding.{adds_then, then_ok}
use Rattle.mb_certified.proofs.certified.add_log.Goals as goal

pub returns : goal.returns
unfolding claims_in
returns c =
    let floor : List Claim = inside_some floor_claims c.args.m.now.floor in
    let stable : List Claim = stable_claims c.args.m.now.stable in
    let evidence : List Claim = inside_some (evidence_claims c.args.shape.now) c.args.m.now.evidence in
    then_ok c.args.shape.now c.add_all.result c.args.out.now.items c.add_some_evidence.new.out.items c.add_all.new.out.items (floor ++ stable ++ evidence) (flat_map (stamped_claims c.args.shape.now) c.args.m.now.entries)
    (adds_then c.args.shape.now c.args.out.now.items c.add_stable.new.out.items c.add_some_evidence.new.out.items (floor ++ stable) evidence
    (adds_then c.args.shape.now c.args.out.now.items c.add_some_floor.new.out.items c.add_stable.new.out.items floor stable
    (c.in_ok-add_some_floor.ensures c.args.shape.now c.requires.floor) (c.in_ok-add_stable.ensures c.args.shape.now c.requires.stable))
    c.in_ok-add_some_evidence.ensures)
    (subst (λ (l : List Stamped). OnOk c.add_all.result (Adds c.args.shape.now c.add_some_evidence.new.out.items c.add_all.new.out.items (flat_map (stamped_claims c.args.shape.now) l))) c.as_slice.ensures c.add_all.ensures)
