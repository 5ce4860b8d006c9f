use Rattle.std.proofs.Common.{◌≡◌, ◌∙◌, Some, slice_get, sym, ap, arith}
use Rattle.std.proofs.lemmas.Option.{slice_get-get_or}
use Rattle.mb_plan.proofs.MemberFaults.{member_fails, member_passes, none_fails}
use Rattle.mb_plan.proofs.new_view.check_members.Goals as goal

pub returns-in-Some-clause-fault : goal.returns-in-Some-clause-fault
returns-in-Some-clause-fault c =
    let ms = c.args.members.now in
    let there : slice_get ms c.loop-index.index ≡ Some c.index-members-index.result = slice_get-get_or _ _ c.index-members-index.result c.loop-index-test.true ∙ ap (λ x. Some x) (sym c.index-members-index.is) in
    (member_fails c.args.shape.now c.args.usig.now.secret c.args.view ms c.loop-index.index c.index-members-index.result there c.loop-index.invariant.members c.in-Some.reason (sym c.in_ok-reason.ensures.fault ∙ c.in-Some.is), omega arith)

pub loop-index-preserved : goal.loop-index-preserved
loop-index-preserved c =
    let ms = c.args.members.now in
    let there : slice_get ms c.loop-index.index ≡ Some c.index-members-index.result = slice_get-get_or _ _ c.index-members-index.result c.loop-index-test.true ∙ ap (λ x. Some x) (sym c.index-members-index.is) in
    record {
      members = member_passes c.args.shape.now c.args.usig.now.secret c.args.view ms c.loop-index.index c.index-members-index.result there c.loop-index.invariant.members (sym c.in_ok-reason.ensures.fault ∙ c.in_default.is);
      places = c.in_ok-reason.ensures.places;
    }

pub returns-clause-fault : goal.returns-clause-fault
returns-clause-fault c = none_fails c.args.shape.now c.args.usig.now.secret c.args.view c.args.members.now c.loop-index.index c.loop-index-test.false c.loop-index.invariant.members
