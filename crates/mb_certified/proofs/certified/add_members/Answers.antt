use Rattle.std.proofs.Common.{◌≡◌, Some, slice_get, refl, sym, ap, ◌∙◌}
use Rattle.std.proofs.lemmas.Option.{slice_get-get_or}
use Rattle.std.specs.List.{flat_map}
use Rattle.mb_msg.specs.Fits.{FitsViewChange}
use Rattle.mb_model.specs.Inside.{member_claims}
use Rattle.mb_certified.proofs.Adding.{adds_none, adds_next}
use Rattle.mb_certified.proofs.BareForms.{at_all}
use Rattle.mb_certified.proofs.certified.add_members.Goals as goal

pub loop-member-init : goal.loop-member-init
loop-member-init c = adds_none c.args.shape.now c.args.out.now.items

pub add_member-requires : goal.add_member-requires
add_member-requires c =
    at_all (FitsViewChange c.args.shape.now) c.args.members.now c.loop-member.member-index c.member-item.result c.requires (slice_get-get_or _ _ c.member-item.result c.loop-member-test.true ∙ ap (λ x. Some x) (sym c.member-item.is))

pub loop-member-preserved : goal.loop-member-preserved
loop-member-preserved c =
    let there : slice_get c.args.members.now c.loop-member.member-index ≡ Some c.member-item.result = slice_get-get_or _ _ c.member-item.result c.loop-member-test.true ∙ ap (λ x. Some x) (sym c.member-item.is) in
    adds_next c.args.shape.now (flat_map (member_claims c.args.shape.now)) (member_claims c.args.shape.now) (λ x l. refl) refl c.args.members.now c.loop-member.member-index c.member-item.result
    c.args.out.now.items c.loop-member.out.items c.add_member.new.out.items there c.loop-member.invariant c.in_ok-add_member.ensures
