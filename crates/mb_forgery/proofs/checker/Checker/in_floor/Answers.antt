use Rattle.std.proofs.Common.{◌≡◌, Some, slice_get, refl, sym, ap, subst, ◌∙◌, ◌∷◌, []}
use Rattle.std.proofs.lemmas.Option.{slice_get-get_or}
use Rattle.mb_forgery.specs.Checks.{floor_claim}
use Rattle.mb_forgery.proofs.MemberLaws.{floor_fits}
use Rattle.mb_forgery.proofs.Walks.{floor_with}
use Rattle.mb_forgery.proofs.Walks.{walk_found, walk_on}
use Rattle.mb_forgery.proofs.checker.Checker.in_floor.Goals as goal

pub in_floor_member-requires : goal.in_floor_member-requires
in_floor_member-requires c =
    let there : slice_get c.args.cert.now.members c.loop-member.member-index ≡ Some c.member-item.result = subst (λ l. slice_get l c.loop-member.member-index ≡ Some c.member-item.result) c.loop-member.invariant.items (slice_get-get_or _ _ c.member-item.result c.loop-member-test.true ∙ ap (λ x. Some x) (sym c.member-item.is)) in
    floor_fits c.args.self.now.shape.now c.args.cert.now c.loop-member.member-index c.member-item.result c.requires there

pub returns-in-Some : goal.returns-in-Some
returns-in-Some c =
    let there : slice_get c.args.cert.now.members c.loop-member.member-index ≡ Some c.member-item.result = subst (λ l. slice_get l c.loop-member.member-index ≡ Some c.member-item.result) c.loop-member.invariant.items (slice_get-get_or _ _ c.member-item.result c.loop-member-test.true ∙ ap (λ x. Some x) (sym c.member-item.is)) in
    walk_found c.args.self.now (floor_with c.args.cert.now) (λ s m. floor_claim c.args.cert.now m ∷ []) (λ s x l. refl) (λ s. refl) c.args.cert.now.members c.loop-member.member-index c.loop-member.invariant.left c.member-item.result c.in-Some.found there (λ s w a. sym c.in-Some.is ∙ c.in_ok-found.ensures s w a)

pub loop-member-preserved : goal.loop-member-preserved
loop-member-preserved c =
    let there : slice_get c.args.cert.now.members c.loop-member.member-index ≡ Some c.member-item.result = subst (λ l. slice_get l c.loop-member.member-index ≡ Some c.member-item.result) c.loop-member.invariant.items (slice_get-get_or _ _ c.member-item.result c.loop-member-test.true ∙ ap (λ x. Some x) (sym c.member-item.is)) in
    record { items = c.loop-member.invariant.items; left = walk_on c.args.self.now (floor_with c.args.cert.now) (λ s m. floor_claim c.args.cert.now m ∷ []) (λ s x l. refl) (λ s. refl) c.args.cert.now.members c.loop-member.member-index c.loop-member.invariant.left c.member-item.result there (λ s w a. sym c.in_default.is ∙ c.in_ok-found.ensures s w a) }
