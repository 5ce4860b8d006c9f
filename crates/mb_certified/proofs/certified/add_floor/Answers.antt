use Rattle.std.proofs.Common.{◌≡◌, List, [], ◌∷◌, ◌++◌, Some, slice_get, refl, sym, ap, subst, ◌∙◌}
use Rattle.std.proofs.lemmas.Option.{slice_get-get_or}
use Rattle.mb_parts.specs.declared.certificates.FloorMember.{FloorMember}
use Rattle.mb_msg.specs.declared.stamped.Stamped.{Stamped}
use Rattle.mb_model.specs.GateChecks.{stamp_claim}
use Rattle.mb_certified.specs.Certified.{floor_stamp}
use Rattle.mb_certified.proofs.Adding.{floor_with, adds_none, adds_one, adds_next}
use Rattle.mb_certified.proofs.BareForms.{floor_bare}
use Rattle.mb_certified.proofs.certified.add_floor.Goals as goal

pub loop-member-init : goal.loop-member-init
loop-member-init c = record { items = c.as_slice-member-items.ensures; adds = λ s f. adds_none s c.args.out.now.items }

pub loop-member-preserved : goal.loop-member-preserved
loop-member-preserved c =
    let x : FloorMember = c.member-item.result in
    let there : slice_get c.args.cert.now.members c.loop-member.member-index ≡ Some x =
    subst (λ (z : List FloorMember). slice_get z c.loop-member.member-index ≡ Some x) c.loop-member.invariant.items (slice_get-get_or _ _ x c.loop-member-test.true ∙ ap (λ y. Some y) (sym c.member-item.is)) in
    record {
      items = c.loop-member.invariant.items;
      adds = λ s f. adds_next s (floor_with c.args.cert.now) (λ m. stamp_claim (floor_stamp c.args.cert.now m) ∷ []) (λ m l. refl) refl c.args.cert.now.members c.loop-member.member-index x
          c.args.out.now.items c.loop-member.out.items c.push.new.self.items there (c.loop-member.invariant.adds s f)
          (adds_one s c.loop-member.out.items c.push.new.self.items (floor_stamp c.args.cert.now x)
          (c.in_ok-push.ensures.items ∙ ap (λ (v : Stamped). c.loop-member.out.items ++ v ∷ []) c.floor_stamp.ensures) (floor_bare s c.args.cert.now c.loop-member.member-index x f there));
    }
