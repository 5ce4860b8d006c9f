use Rattle.std.proofs.Common.{List, map, sym, subst}
use Rattle.mb_model.specs.Plans.{ShownLog as TheLog}
use Rattle.mb_plan.specs.declared.logs.ShownLog.{ShownLog as LentLog}
use Rattle.mb_plan.specs.Lent.{shown}
use Rattle.mb_plan.proofs.PlanFits.{AreFit, of_view_fit}
use Rattle.mb_plan.proofs.planning.plan_in_order.Goals as goal

pub batches_from-requires-clause-fits : goal.batches_from-requires-clause-fits
batches_from-requires-clause-fits c =
    let s = c.args.shape.now in (
      c.base_of-base.ensures.place,
      subst (λ (l : List LentLog). AreFit s (map shown l)) (sym c.as_slice-2.ensures.value)
          (subst (λ (l : List TheLog). AreFit s l) (sym c.in_ok-voters.ensures) (of_view_fit s c.highest_view.result (map shown c.args.logs.now) c.requires.fits.1)),
    )
