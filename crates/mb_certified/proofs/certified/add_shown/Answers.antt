use Rattle.std.proofs.Common.{◌∷◌, [], ◌++◌, sym, ap, subst, ◌∙◌}
use Rattle.mb_msg.specs.declared.stamped.Stamped.{Stamped}
use Rattle.mb_msg.specs.Fits.{FitsStamped}
use Rattle.mb_model.specs.GateChecks.{stamp_claim}
use Rattle.mb_model.specs.Inside.{shown_claims}
use Rattle.mb_certified.specs.Certified.{inner_of}
use Rattle.mb_certified.proofs.Adding.{same_ok}
use Rattle.mb_certified.proofs.BareForms.{shown_fits, shown_says}
use Rattle.mb_certified.proofs.certified.add_shown.Goals as goal

pub add_entry-added-requires : goal.add_entry-added-requires
add_entry-added-requires c = subst (FitsStamped c.args.shape.now) (sym c.in_ok-message.ensures) (shown_fits c.args.shape.now c.args.entry.now c.requires)

pub returns : goal.returns
returns c =
    let m : Stamped = c.in_ok-message.message in
    same_ok c.args.shape.now c.add_entry-added.result c.args.out.now.items c.add_entry-added.new.out.items (inner_of c.args.shape.now m ++ stamp_claim m ∷ []) (shown_claims c.args.shape.now c.args.entry.now)
    (ap (λ (x : Stamped). inner_of c.args.shape.now x ++ stamp_claim x ∷ []) c.in_ok-message.ensures ∙ shown_says c.args.shape.now c.args.entry.now)
    c.add_entry-added.ensures
