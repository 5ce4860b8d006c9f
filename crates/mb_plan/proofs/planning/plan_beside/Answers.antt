use Rattle.std.proofs.Common.{List, length, map, sym, ap, subst, arith}
use Rattle.mb_plan.specs.declared.logs.ShownLog.{ShownLog as LentLog}
use Rattle.mb_plan.specs.Lent.{shown}
use Rattle.mb_plan.proofs.PlanFits.{AreFit, by_host_fit}
use Rattle.mb_plan.proofs.planning.plan_beside.Goals as goal

pub plan_in_order-requires : goal.plan_in_order-requires
plan_in_order-requires c =
    let s = c.args.shape.now in record {
      fits = (
        omega (arith, c.are_quorum.ensures.some c.if-not-are_quorum.false, ap length c.as_slice.ensures.value, ap length c.as_slice-2.ensures.value),
        subst (λ (l : List LentLog). AreFit s (map shown l)) (sym c.as_slice-2.ensures.value) (subst (AreFit s) (sym c.in_ok-logs.ensures) (by_host_fit s c.args.changes.now c.requires.fits)),
      );
      places = c.requires.places;
    }
