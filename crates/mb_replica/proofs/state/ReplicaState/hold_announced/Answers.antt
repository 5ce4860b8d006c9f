use Rattle.std.proofs.Common.{◌∙◌, refl, sym, subst, Option}
use Rattle.std.specs.Prelude.{IfSome}
use Rattle.std.proofs.lemmas.Result.{on_ok_weaker}
use Rattle.mb_parts.specs.Fits.{FitsStable}
use Rattle.mb_msg.specs.declared.change.Plan.{Plan}
use Rattle.mb_msg.specs.Plans.{CanHash}
use Rattle.mb_replica.proofs.Held.{none_announced, announced_held}
use Rattle.mb_replica.proofs.state.ReplicaState.hold_announced.Goals as goal

-- src/new_views.rt
pub returns-in_default : goal.returns-in_default
returns-in_default g c = λ me d r. none_announced me d c.args.self.now c.args.m (sym (c.requires.plan.is me d r) ∙ c.in_default.is)

pub hold_plan-requires : goal.hold_plan-requires
hold_plan-requires g c = record {
  hashed = subst (λ (p : Option Plan). IfSome p CanHash) c.in-Some.is c.requires.plan.hashed;
  base = subst (λ (p : Option Plan). IfSome p (λ x. FitsStable c.args.self.now.protocol.shape x.base)) c.in-Some.is c.requires.plan.base;
}

pub returns : goal.returns
returns g c = λ me d r.
    on_ok_weaker c.hold_plan.result (λ holds.
    announced_held me d c.args.self.now _ c.hold_plan.new.self c.args.m c.in-Some.plan (sym (c.requires.plan.is me d r) ∙ c.in-Some.is) (record { same = record { shape = refl; host = refl; secret = refl }; tables = refl })
    c.hold_new_view.ensures.stands holds) c.hold_plan.ensures
