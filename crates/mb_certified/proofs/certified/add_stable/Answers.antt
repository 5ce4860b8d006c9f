use Rattle.std.proofs.Common.{◌≡◌, List, [], ◌∷◌, ◌++◌, Some, slice_get, get_or, refl, ap, subst, ◌∙◌}
use Rattle.std.proofs.lemmas.Option.{slice_get-get_or}
use Rattle.mb_parts.specs.declared.certificates.StableMember.{StableMember}
use Rattle.mb_msg.specs.declared.stamped.Stamped.{Stamped}
use Rattle.mb_model.specs.GateChecks.{stamp_claim}
use Rattle.mb_certified.specs.Certified.{stable_stamp}
use Rattle.mb_certified.proofs.Adding.{stable_with, adds_none, adds_one, adds_next}
use Rattle.mb_certified.proofs.BareForms.{stable_bare}
use Rattle.mb_certified.proofs.certified.add_stable.Goals as goal

pub loop-member-init : goal.loop-member-init
loop-member-init c = record { items = c.as_slice-member-items.ensures; adds = λ s f. adds_none s c.args.out.now.items }

pub loop-member-preserved : goal.loop-member-preserved
loop-member-preserved c =
    let none : StableMember = record { host = 0; counter = 0; floors = []; cert = [] } in
    let x : StableMember = get_or c.as_slice-member-items.result.now c.loop-member.member-index none in
    let there : slice_get c.args.cert.now.members c.loop-member.member-index ≡ Some x =
    subst (λ (z : List StableMember). slice_get z c.loop-member.member-index ≡ Some x) c.loop-member.invariant.items (slice_get-get_or c.as_slice-member-items.result.now c.loop-member.member-index none c.loop-member-test.true) in
    record {
      items = c.loop-member.invariant.items;
      adds = λ s f. adds_next s (stable_with c.args.cert.now) (λ m. stamp_claim (stable_stamp c.args.cert.now m) ∷ []) (λ m l. refl) refl c.args.cert.now.members c.loop-member.member-index x
          c.args.out.now.items c.loop-member.out.items c.push.new.self.items there (c.loop-member.invariant.adds s f)
          (adds_one s c.loop-member.out.items c.push.new.self.items (stable_stamp c.args.cert.now x)
          (c.in_ok-push.ensures.items ∙ ap (λ (v : Stamped). c.loop-member.out.items ++ v ∷ []) c.stable_stamp.ensures) (stable_bare s c.args.cert.now c.loop-member.member-index x f there));
    }
