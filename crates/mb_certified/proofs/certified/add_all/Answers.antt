use Rattle.std.proofs.Common.{◌≡◌, Some, slice_get, refl, sym, ap, ◌∙◌}
use Rattle.std.proofs.lemmas.Option.{slice_get-get_or}
use Rattle.std.specs.List.{flat_map}
use Rattle.mb_msg.specs.Fits.{FitsStamped}
use Rattle.mb_model.specs.Inside.{stamped_claims}
use Rattle.mb_certified.proofs.Adding.{adds_none, adds_next}
use Rattle.mb_certified.proofs.BareForms.{at_all}
use Rattle.mb_certified.proofs.certified.add_all.Goals as goal

pub loop-entry-init : goal.loop-entry-init
loop-entry-init c = adds_none c.args.shape.now c.args.out.now.items

pub add_stamped-requires : goal.add_stamped-requires
add_stamped-requires c =
    at_all (FitsStamped c.args.shape.now) c.args.entries.now c.loop-entry.entry-index c.entry-item.result c.requires (slice_get-get_or _ _ c.entry-item.result c.loop-entry-test.true ∙ ap (λ x. Some x) (sym c.entry-item.is))

pub loop-entry-preserved : goal.loop-entry-preserved
loop-entry-preserved c =
    let there : slice_get c.args.entries.now c.loop-entry.entry-index ≡ Some c.entry-item.result = slice_get-get_or _ _ c.entry-item.result c.loop-entry-test.true ∙ ap (λ x. Some x) (sym c.entry-item.is) in
    adds_next c.args.shape.now (flat_map (stamped_claims c.args.shape.now)) (stamped_claims c.args.shape.now) (λ x l. refl) refl c.args.entries.now c.loop-entry.entry-index c.entry-item.result
    c.args.out.now.items c.loop-entry.out.items c.add_stamped.new.out.items there c.loop-entry.invariant c.in_ok-add_stamped.ensures
