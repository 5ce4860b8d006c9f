-- What is answered to a whole NEW_VIEW, from what is answered of its members and of their plan.
use Rattle.std.proofs.Common.{◌≡◌, true, false, None, Result, Ok, Err, sym, ap, subst, ◌∙◌}
use Rattle.mb_base.specs.Shapes.{Bytes}
use Rattle.mb_base.specs.declared.shape.Shape.{Shape}
use Rattle.mb_msg.specs.declared.change.NewView.{NewView}
use Rattle.mb_msg.specs.declared.change.NewViewBody.{NewViewBody}
use Rattle.mb_msg.specs.declared.change.Plan.{Plan}
use Rattle.mb_msg.specs.Fits.{FitsNewViewBody}
use Rattle.mb_msg.specs.Plans.{CanHash}
use Rattle.mb_model.specs.Plans.{are_of_plan, by_host, plan_of}
use Rattle.mb_model.specs.Held.{logs_of}
use Rattle.mb_model.specs.KindChecks.{members_fault}
use Rattle.mb_plan.specs.NewViews.{checker, AnswersMembers, Announced, OfMembers, FollowsFrom}
use Rattle.mb_plan.specs.declared.new_view.NewViewFault.{NewViewFault}
use Rattle.mb_plan.specs.declared.new_view.NewViewFault.TheVariants.{Few, Unusable, OtherPlan, NoMemory}
use Rattle.mb_plan.proofs.MemberFaults.{member_at_fault, plan_at_fault, none_at_fault, members_are_quorum}
use Rattle.mb_plan.proofs.PlanFits.{by_host_fit, plan_fits}

module _ (s : Shape) (secret : Bytes) (m : NewView) (b : NewViewBody) where
  pub member_fails : (e : NewViewFault) → AnswersMembers (members_fault (checker s secret) m.view 0 b.changes) (Err e) → FollowsFrom s secret m b (Err e)
  member_fails Few none = absurd none
  member_fails (Unusable index reason) (at, few) = (member_at_fault s secret m b (index, reason) at, few)
  member_fails OtherPlan none = absurd none
  member_fails NoMemory any = tt

  module _ (fits : FitsNewViewBody s b) where
    pub no_plan : (e : NewViewFault) → OfMembers s b.changes (Err e) → FollowsFrom s secret m b (Err e)
    no_plan Few none = let same : true ≡ false = sym (members_are_quorum s b fits) ∙ none in absurd cc
    no_plan (Unusable index reason) none = absurd none
    no_plan OtherPlan none = absurd none
    no_plan NoMemory any = tt

    pub plan_can_hash : (plan : Plan) → plan ≡ plan_of s (logs_of b.changes) → CanHash plan
    plan_can_hash plan is = subst CanHash (sym is) (plan_fits s (by_host s (logs_of b.changes)) (by_host_fit s b.changes fits.1.1))

  module _ (none : members_fault (checker s secret) m.view 0 b.changes ≡ None) (plan : Plan) (is : plan ≡ plan_of s (logs_of b.changes)) where
    pub as_announced : (r : Result Plan NewViewFault) → Announced m plan r → FollowsFrom s secret m b r
    as_announced (Ok x) (of, same) = (none_at_fault s secret m b none (ap (are_of_plan m.base m.end m.plan) (sym is) ∙ of), same ∙ is)
    as_announced (Err Few) never = absurd never
    as_announced (Err (Unusable index reason)) never = absurd never
    as_announced (Err OtherPlan) other = plan_at_fault s secret m b none (ap (are_of_plan m.base m.end m.plan) (sym is) ∙ other)
    as_announced (Err NoMemory) never = absurd never
