use Rattle.std.proofs.Common.{◌≡◌, ◌∙◌, true, false, ap, sym, subst, Some, Err}
use Rattle.mb_base.specs.declared.shape.Shape.{Shape}
use Rattle.mb_model.specs.Held.{logs_of}
use Rattle.mb_model.specs.Plans.{plan_of}
use Rattle.mb_plan.specs.declared.planning.PlanFault.{PlanFault}
use Rattle.mb_plan.specs.Planned.{are_quorum, Leaves}
use Rattle.mb_replica.proofs.PlansOfChanges.{plan_may_be_held}
use Rattle.mb_replica.proofs.state.ReplicaState.plan_from.Goals as goal

-- src/new_views.rt
pub returns-in-Ok-clause-fits : goal.returns-in-Ok-clause-fits
returns-in-Ok-clause-fits g c = plan_may_be_held c.args.self.now.protocol.shape c.args.changes.now c.in-Ok.plan c.requires c.in-Ok.ensures.1

pub returns-in-Ok-clause-plan : goal.returns-in-Ok-clause-plan
returns-in-Ok-clause-plan g c = λ me d r many. ap Some (c.in-Ok.ensures.1 ∙ ap (λ (s : Shape). plan_of s (logs_of c.args.changes.now)) (sym r.who.shape))

pub returns-in-Err-Few-clause-plan : goal.returns-in-Err-Few-clause-plan
returns-in-Err-Few-clause-plan g c = λ me d r many.
    let few : are_quorum me.shape c.args.changes.now ≡ false = subst (λ (s : Shape). are_quorum s c.args.changes.now ≡ false) (sym r.who.shape) (subst (λ (f : PlanFault). Leaves c.args.self.now.protocol.shape c.args.changes.now (Err f)) c.in-Err-Few.field-0-is c.in-Err-Few.ensures) in
    absurd (let e : true ≡ false = sym many ∙ few in cc)
