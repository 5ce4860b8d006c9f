use Rattle.std.proofs.Common.{List, ◌++◌, subst}
use Rattle.std.specs.Prelude.{OnOk}
use Rattle.std.specs.List.{flat_map}
use Rattle.mb_parts.specs.Claims.{Claim, floor_claims, stable_claims}
use Rattle.mb_msg.specs.declared.stamped.Shown.{Shown}
use Rattle.mb_model.specs.Compared.{inside_some}
use Rattle.mb_model.specs.Inside.{shown_claims}
use Rattle.mb_certified.specs.Certified.{Adds}
use Rattle.mb_certified.proofs.Adding.{adds_then, then_ok}
use Rattle.mb_certified.proofs.certified.add_change_body.Goals as goal

pub returns : goal.returns
returns c =
    let floor : List Claim = inside_some floor_claims c.args.body.now.floor in
    let stable : List Claim = stable_claims c.args.body.now.stable in
    then_ok c.args.shape.now c.add_entries.result c.args.out.now.items c.add_stable.new.out.items c.add_entries.new.out.items (floor ++ stable) (flat_map (shown_claims c.args.shape.now) c.args.body.now.entries)
    (adds_then c.args.shape.now c.args.out.now.items c.add_some_floor.new.out.items c.add_stable.new.out.items floor stable
    (c.in_ok-add_some_floor.ensures c.args.shape.now c.requires.floor) (c.in_ok-add_stable.ensures c.args.shape.now c.requires.stable))
    (subst (λ (l : List Shown). OnOk c.add_entries.result (Adds c.args.shape.now c.add_stable.new.out.items c.add_entries.new.out.items (flat_map (shown_claims c.args.shape.now) l))) c.as_slice.ensures c.add_entries.ensures)
