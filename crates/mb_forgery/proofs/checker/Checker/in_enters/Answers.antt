use Rattle.std.proofs.Common.{◌≡◌, Some, slice_get, get_or, refl, sym, ◌∙◌, ◌∷◌, []}
use Rattle.mb_parts.specs.declared.certificates.EvidenceMember.{EvidenceMember}
use Rattle.mb_forgery.specs.Checks.{enter_claim}
use Rattle.mb_forgery.proofs.Walks.{enters_with, found_at, walk_found, walk_on}
use Rattle.mb_forgery.proofs.checker.Checker.in_enters.Goals as goal

pub returns-in-Some : goal.returns-in-Some
returns-in-Some c =
    let x : EvidenceMember = get_or c.as_slice-member-items.result.now c.loop-member.member-index (record { host = 0; counter = 0; cert = [] }) in
    let there : slice_get c.args.e.now.members c.loop-member.member-index ≡ Some x = found_at _ _ c.loop-member.invariant.items c.loop-member.member-index _ c.loop-member-test.true in
    walk_found c.args.self.now (enters_with c.args.e.now) (λ s m. enter_claim c.args.e.now m ∷ []) (λ s x l. refl) (λ s. refl) c.args.e.now.members c.loop-member.member-index c.loop-member.invariant.left x c.in-Some.found there (λ s w a. sym c.in-Some.is ∙ c.in_ok-found.ensures s w a)

pub loop-member-preserved : goal.loop-member-preserved
loop-member-preserved c =
    let x : EvidenceMember = get_or c.as_slice-member-items.result.now c.loop-member.member-index (record { host = 0; counter = 0; cert = [] }) in
    let there : slice_get c.args.e.now.members c.loop-member.member-index ≡ Some x = found_at _ _ c.loop-member.invariant.items c.loop-member.member-index _ c.loop-member-test.true in
    record { items = c.loop-member.invariant.items; left = walk_on c.args.self.now (enters_with c.args.e.now) (λ s m. enter_claim c.args.e.now m ∷ []) (λ s x l. refl) (λ s. refl) c.args.e.now.members c.loop-member.member-index c.loop-member.invariant.left x there (λ s w a. sym c.in_default.is ∙ c.in_ok-found.ensures s w a) }
