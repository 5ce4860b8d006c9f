-- What the check of a NEW_VIEW answers is what the history says of it, and its plan is the one that it announces.
use Rattle.std.proofs.Common.{◌≡◌, ◌∙◌, ℕ, true, refl, Option, Some, None, sym, ap, subst, Result, Ok, Err}
use Rattle.std.specs.Prelude.{option_and_then}
use Rattle.mb_base.specs.Shapes.{Bytes}
use Rattle.mb_msg.specs.declared.change.Plan.{Plan}
use Rattle.mb_base.specs.declared.shape.Shape.{Shape}
use Rattle.mb_msg.specs.declared.message.Body.{Body}
use Rattle.mb_msg.specs.declared.message.Body.TheVariants.{Whole, Bare as Short}
use Rattle.mb_msg.specs.declared.change.NewView.{NewView}
use Rattle.mb_msg.specs.declared.change.NewViewBody.{NewViewBody}
use Rattle.mb_msg.specs.Bodies.{FitsBody, whole_body}
use Rattle.mb_msg.specs.Fits.{FitsNewViewBody}
use Rattle.mb_msg.specs.declared.stamped.Stamped.TheVariants as stamped
use Rattle.mb_msg.specs.declared.event.Outcome.{Outcome}
use Rattle.mb_msg.specs.declared.event.Outcome.TheVariants as outcome
use Rattle.mb_model.specs.Histories.{Identity, History}
use Rattle.mb_model.specs.Held.{is_current, logs_of}
use Rattle.mb_model.specs.Plans.{plan_of}
use Rattle.mb_model.specs.KindChecks.{new_view_fault, unusable}
use Rattle.mb_plan.specs.declared.new_view.NewViewFault.{NewViewFault}
use Rattle.mb_plan.specs.declared.new_view.NewViewFault.TheVariants.{Unusable, OtherPlan}
use Rattle.mb_plan.specs.NewViews.{Follows}
use Rattle.mb_plan.proofs.MemberFaults.{same_fault}
use Rattle.mb_replica.specs.declared.state.ReplicaState.{ReplicaState}
use Rattle.mb_replica.specs.Represents.{Represents}
use Rattle.mb_replica.specs.Holding.{Announces}
use Rattle.mb_replica.proofs.PlansOfChanges.{plan_may_be_held}

module _ {S : Type 0} (me : Identity S) (m : NewView) where
  -- what is looked for where its view is current
  abbrev pub fault_in : Body NewViewBody → Option Outcome
  fault_in body = unusable (option_and_then (new_view_fault me m) (whole_body body))

  -- the same system and the same key
  pub for_host : (s : Shape) (secret : Bytes) → me.shape ≡ s → me.secret ≡ secret → (result : Result Plan NewViewFault) → Follows s secret m m.body result → Follows me.shape me.secret m m.body result
  for_host s secret e f result is = subst (λ (t : Shape). Follows t me.secret m m.body result) (sym e) (subst (λ (t : Bytes). Follows s t m m.body result) (sym f) is)

  pub follows : (body : Body NewViewBody) (plan : Plan) → Follows me.shape me.secret m body (Ok plan) → None ≡ fault_in body
  follows (Whole b) plan is = ap unusable (sym (same_fault me m b ∙ is.0))
  follows (Short digest) plan is = absurd cc

  pub fails : (body : Body NewViewBody) (index reason : ℕ) → Follows me.shape me.secret m body (Err (Unusable index reason)) → Some (outcome.Unusable index reason) ≡ fault_in body
  fails (Whole b) index reason is = ap unusable (sym (same_fault me m b ∙ is.0))
  fails (Short digest) index reason is = absurd cc

  pub has_other_plan : (body : Body NewViewBody) → Follows me.shape me.secret m body (Err OtherPlan) → Some (outcome.Unusable 255 11) ≡ fault_in body
  has_other_plan (Whole b) is = ap unusable (sym (same_fault me m b ∙ is))
  has_other_plan (Short digest) is = absurd cc

module _ {V : Type 0} (r : ReplicaState V) (m : NewView) where
  -- It is refused.
  pub refused_announces : (plan : Option Plan) (o : Outcome) → Some o ≡ None → Announces r (stamped.NewView m) plan
  refused_announces plan o never = absurd cc

  -- The plan of its members was found.
  pub plan_announces : (plan : Plan) → FitsBody (FitsNewViewBody r.protocol.shape) m.body → Follows r.protocol.shape r.protocol.usig.secret m m.body (Ok plan)
      → ((me : Identity V) (d : History) → Represents me r d → is_current me d m.view ≡ true) → Announces r (stamped.NewView m) (Some plan)
  plan_announces plan fits follows current = by_body m.body refl fits follows where
    by_body : (b : Body NewViewBody) → m.body ≡ b → FitsBody (FitsNewViewBody r.protocol.shape) b → Follows r.protocol.shape r.protocol.usig.secret m b (Ok plan) → Announces r (stamped.NewView m) (Some plan)
    by_body (Whole x) whole fits follows =
        let may = plan_may_be_held r.protocol.shape x.changes plan fits.1.1 follows.1 in record {
          hashed = may.0;
          base = may.1;
          is = λ me d rep. rw (current me d rep, whole) (ap (λ (p : Plan). Some p) (follows.1 ∙ ap (λ (s : Shape). plan_of s (logs_of x.changes)) (sym rep.who.shape)));
        }
    by_body (Short x) short fits follows = absurd cc
