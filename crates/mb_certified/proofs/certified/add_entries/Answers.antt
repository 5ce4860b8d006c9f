use Rattle.std.proofs.Common.{◌≡◌, Some, slice_get, refl, sym, ap, ◌∙◌}
use Rattle.std.proofs.lemmas.Option.{slice_get-get_or}
use Rattle.std.specs.List.{flat_map}
use Rattle.mb_msg.specs.Fits.{FitsShown}
use Rattle.mb_model.specs.Inside.{shown_claims}
use Rattle.mb_certified.proofs.Adding.{adds_none, adds_next}
use Rattle.mb_certified.proofs.BareForms.{at_all}
use Rattle.mb_certified.proofs.certified.add_entries.Goals as goal

pub loop-entry-init : goal.loop-entry-init
loop-entry-init c = adds_none c.args.shape.now c.args.out.now.items

pub add_shown-requires : goal.add_shown-requires
add_shown-requires c =
    at_all (FitsShown c.args.shape.now) c.args.entries.now c.loop-entry.entry-index c.entry-item.result c.requires (slice_get-get_or _ _ c.entry-item.result c.loop-entry-test.true ∙ ap (λ x. Some x) (sym c.entry-item.is))

pub loop-entry-preserved : goal.loop-entry-preserved
loop-entry-preserved c =
    let there : slice_get c.args.entries.now c.loop-entry.entry-index ≡ Some c.entry-item.result = slice_get-get_or _ _ c.entry-item.result c.loop-entry-test.true ∙ ap (λ x. Some x) (sym c.entry-item.is) in
    adds_next c.args.shape.now (flat_map (shown_claims c.args.shape.now)) (shown_claims c.args.shape.now) (λ x l. refl) refl c.args.entries.now c.loop-entry.entry-index c.entry-item.result
    c.args.out.now.items c.loop-entry.out.items c.add_shown.new.out.items there c.loop-entry.invariant c.in_ok-add_shown.ensures
