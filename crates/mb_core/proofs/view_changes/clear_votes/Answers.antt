use Rattle.std.proofs.Common.{◌∙◌}
use Rattle.mb_normal.specs.Searches.{without_votes}
use Rattle.mb_refinement.proofs.Positions.{left_by_call}
use Rattle.mb_core.proofs.view_changes.clear_votes.Goals as goal

-- src/view_changes.rt
pub invariant_of-replica-clause-normal_is : goal.invariant_of-replica-clause-normal_is
invariant_of-replica-clause-normal_is g c =
    let a = c.args.replica.now.protocol in
    let left = left_by_call a.normal c.clear.new.self without_votes c.clear.ensures in
    (left.shape_is ∙ a.normal_is.0, left.host_is ∙ a.normal_is.1)

pub invariant_of-replica-clause-low_is : goal.invariant_of-replica-clause-low_is
invariant_of-replica-clause-low_is g c =
    let a = c.args.replica.now.protocol in
    let left = left_by_call a.normal c.clear.new.self without_votes c.clear.ensures in
    left.low_is ∙ a.low_is
