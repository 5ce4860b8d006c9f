use Rattle.std.proofs.Common.{◌≡◌, ◌∙◌, Some, slice_get, map, sym, ap}
use Rattle.std.proofs.lemmas.Option.{slice_get-get_or}
use Rattle.mb_model.specs.Plans.{greater, highest_view}
use Rattle.mb_plan.specs.Lent.{shown}
use Rattle.mb_plan.proofs.Folds.{rest_next, rest_none}
use Rattle.mb_plan.proofs.Joins.{greater_joins, greater_none}
use Rattle.mb_plan.proofs.logs.highest_view.Goals as goal

pub loop-log-preserved : goal.loop-log-preserved
loop-log-preserved c =
    let there : slice_get c.args.logs.now c.loop-log.log-index ≡ Some c.log-item.result =
    slice_get-get_or _ _ c.log-item.result c.loop-log-test.true ∙ ap (λ x. Some x) (sym c.log-item.is) in
    rw (c.greater-highest.ensures, c.opened_view.ensures)
    (greater_joins c.loop-log.highest _ _ ∙ sym (rest_next (λ l. greater c.loop-log.highest (highest_view (map shown l))) c.args.logs.now c.loop-log.log-index c.log-item.result there) ∙ c.loop-log.invariant)

pub returns : goal.returns
returns c = sym (greater_none c.loop-log.highest) ∙ sym (rest_none (λ l. greater c.loop-log.highest (highest_view (map shown l))) c.args.logs.now c.loop-log.log-index c.loop-log-test.false) ∙ c.loop-log.invariant
