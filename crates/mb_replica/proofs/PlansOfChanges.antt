-- The plan of VIEW_CHANGEs that fit may be held: it can be hashed, and its base is a certificate that fits.
use Rattle.std.proofs.Common.{◌≡◌, [], List, sym, subst, Err}
use Rattle.std.specs.List.{AllByRecursion}
use Rattle.mb_base.specs.declared.shape.Shape.{Shape}
use Rattle.mb_parts.specs.Fits.{FitsStable}
use Rattle.mb_msg.specs.declared.change.Plan.{Plan}
use Rattle.mb_msg.specs.declared.change.ViewChange.{ViewChange}
use Rattle.mb_msg.specs.Fits.{FitsMember}
use Rattle.mb_msg.specs.Plans.{CanHash}
use Rattle.mb_model.specs.Histories.{Identity}
use Rattle.mb_model.specs.Held.{logs_of}
use Rattle.mb_model.specs.Plans.{plan_of, by_host}
use Rattle.mb_plan.proofs.PlanFits.{plan_fits, by_host_fit}
use Rattle.mb_encodable.proofs.Changes.{plan_from_fits}

-- some host of a system, whatever it executes
any_host : Shape → Identity (Unit {0})
any_host s = record {
  shape = s;
  host = 0;
  secret = [];
  machine = record { after = λ x op. x; result = λ x op. [] };
  snapshots = record { part = λ x i. []; restored = λ parts. Err (0, 0) };
  initial = tt;
}

pub plan_may_be_held : (s : Shape) (changes : List ViewChange) (plan : Plan) → AllByRecursion (FitsMember s) changes → plan ≡ plan_of s (logs_of changes) → CanHash plan × FitsStable s plan.base
unfolding any_host
plan_may_be_held s changes plan fits is =
    subst (λ (p : Plan). CanHash p × FitsStable s p.base) (sym is) (plan_fits s (by_host s (logs_of changes)) (by_host_fit s changes fits), (plan_from_fits (any_host s) changes fits).0)
