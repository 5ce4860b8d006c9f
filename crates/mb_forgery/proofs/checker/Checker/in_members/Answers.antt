use Rattle.std.proofs.Common.{◌≡◌, Some, slice_get, refl, sym, ap, ◌∙◌}
use Rattle.std.proofs.lemmas.Option.{slice_get-get_or}
use Rattle.std.specs.List.{flat_map}
use Rattle.mb_model.specs.Inside.{member_claims}
use Rattle.mb_forgery.proofs.Walks.{walk_found, walk_on}
use Rattle.mb_forgery.proofs.checker.Checker.in_members.Goals as goal

pub returns-in-Some : goal.returns-in-Some
returns-in-Some c =
    let there : slice_get c.args.members.now c.loop-member.member-index ≡ Some c.member-item.result = slice_get-get_or _ _ c.member-item.result c.loop-member-test.true ∙ ap (λ x. Some x) (sym c.member-item.is) in
    walk_found c.args.self.now (λ s. flat_map (member_claims s.shape)) (λ s. member_claims s.shape) (λ s x l. refl) (λ s. refl) c.args.members.now c.loop-member.member-index c.loop-member.invariant c.member-item.result c.in-Some.found there (λ s w a. sym c.in-Some.is ∙ c.in_ok-found.ensures s w a)

pub loop-member-preserved : goal.loop-member-preserved
loop-member-preserved c =
    let there : slice_get c.args.members.now c.loop-member.member-index ≡ Some c.member-item.result = slice_get-get_or _ _ c.member-item.result c.loop-member-test.true ∙ ap (λ x. Some x) (sym c.member-item.is) in
    walk_on c.args.self.now (λ s. flat_map (member_claims s.shape)) (λ s. member_claims s.shape) (λ s x l. refl) (λ s. refl) c.args.members.now c.loop-member.member-index c.loop-member.invariant c.member-item.result there (λ s w a. sym c.in_default.is ∙ c.in_ok-found.ensures s w a)
