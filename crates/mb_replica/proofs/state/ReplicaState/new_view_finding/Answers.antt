use Rattle.std.proofs.Common.{rules, ◌≡◌, ◌∙◌, ℕ, Bool, Some, sym, ap, subst, Ok, Err}
use Rattle.mb_msg.specs.declared.event.Outcome.TheVariants as outcome
use Rattle.mb_model.specs.KindChecks.{only_where}
use Rattle.mb_plan.specs.declared.new_view.NewViewFault.{NewViewFault}
use Rattle.mb_plan.specs.NewViews.{Follows}
use Rattle.mb_plan.specs.declared.new_view.NewViewFault.TheVariants.{Unusable, OtherPlan}
use Rattle.mb_replica.proofs.NewViewRefusals.{fault_in, for_host, follows, fails, has_other_plan, refused_announces, plan_announces}
use Rattle.mb_replica.proofs.state.ReplicaState.new_view_finding.Goals as goal

-- src/new_views.rt
pub returns-in-Ok : goal.returns-in-Ok
returns-in-Ok g c =
    let m = c.args.m.now in
    let a = c.args.self.now.protocol in record {
      refusal = λ me d r.
          follows me m m.body c.in-Ok.plan (for_host me m a.shape a.usig.secret r.who.shape r.who.secret (Ok c.in-Ok.plan) c.in-Ok.ensures)
          ∙ ap (λ (b : Bool). only_where b (fault_in me m m.body)) (c.if-not-is_current.ensures me d r);
      plan = λ none. plan_announces c.args.self.now m c.in-Ok.plan c.requires.body c.in-Ok.ensures (λ me d r. sym (c.if-not-is_current.ensures me d r));
    }

pub returns-in-Err-Unusable : goal.returns-in-Err-Unusable
returns-in-Err-Unusable g c =
    let m = c.args.m.now in
    let a = c.args.self.now.protocol in
    let x = c.in-Err-Unusable in
    let is : x.field-0 ≡ Unusable x.index x.reason = search rules in
    let refused = c.without_plan-in-Err-Unusable.ensures.refusal in record {
      refusal = λ me d r.
          refused
          ∙ ap (λ (i : ℕ). Some (outcome.Unusable i x.reason)) c.from-index.ensures
          ∙ fails me m m.body x.index x.reason (for_host me m a.shape a.usig.secret r.who.shape r.who.secret (Err (Unusable x.index x.reason)) (subst (λ (f : NewViewFault). Follows a.shape a.usig.secret m m.body (Err f)) is x.ensures))
          ∙ ap (λ (b : Bool). only_where b (fault_in me m m.body)) (c.if-not-is_current.ensures me d r);
      plan = λ none. refused_announces c.args.self.now m _ _ (sym refused ∙ none);
    }

pub returns-in-Err-OtherPlan : goal.returns-in-Err-OtherPlan
returns-in-Err-OtherPlan g c =
    let m = c.args.m.now in
    let a = c.args.self.now.protocol in
    let is : c.in-Err-OtherPlan.field-0 ≡ OtherPlan = search rules in
    let refused = c.without_plan-in-Err-OtherPlan.ensures.refusal in record {
      refusal = λ me d r.
          refused
          ∙ has_other_plan me m m.body (for_host me m a.shape a.usig.secret r.who.shape r.who.secret (Err OtherPlan) (subst (λ (f : NewViewFault). Follows a.shape a.usig.secret m m.body (Err f)) is c.in-Err-OtherPlan.ensures))
          ∙ ap (λ (b : Bool). only_where b (fault_in me m m.body)) (c.if-not-is_current.ensures me d r);
      plan = λ none. refused_announces c.args.self.now m _ _ (sym refused ∙ none);
    }
