use Rattle.std.proofs.Common.{◌≡◌, ◌∙◌, ◌+◌, ◌++◌, Some, slice_get, map, drop, sym, ap, append-nil}
use Rattle.std.proofs.lemmas.Option.{slice_get-get_or}
use Rattle.mb_model.specs.Plans.{of_view}
use Rattle.mb_plan.specs.Lent.{shown}
use Rattle.mb_plan.proofs.Folds.{rest_next, rest_none}
use Rattle.mb_plan.proofs.logs.of_view.Goals as goal

pub loop-log-preserved : goal.loop-log-preserved
loop-log-preserved c =
    let there : slice_get c.args.logs.now c.loop-log.log-index ≡ Some c.log-item.result =
    slice_get-get_or _ _ c.log-item.result c.loop-log-test.true ∙ ap (λ x. Some x) (sym c.log-item.is) in
    c.in_ok-push_found.ensures _
    ∙ ap (λ t. map shown c.loop-log.found.items ++ t) (c.if_of_view.ensures (map shown (drop (c.loop-log.log-index + 1) c.args.logs.now)) ∙ sym (rest_next (λ l. of_view c.args.view (map shown l)) c.args.logs.now c.loop-log.log-index c.log-item.result there))
    ∙ c.loop-log.invariant

pub returns : goal.returns
returns c =
    sym (append-nil (map shown c.loop-log.found.items))
    ∙ sym (ap (λ t. map shown c.loop-log.found.items ++ t) (rest_none (λ l. of_view c.args.view (map shown l)) c.args.logs.now c.loop-log.log-index c.loop-log-test.false))
    ∙ c.loop-log.invariant
