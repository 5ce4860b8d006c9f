use Rattle.std.proofs.Common.{◌≡◌, ◌∙◌, ◌+◌, ◌++◌, ◌∷◌, Some, slice_get, map, drop, sym, ap}
use Rattle.std.proofs.lemmas.Option.{slice_get-get_or}
use Rattle.mb_model.specs.Plans.{stable_of}
use Rattle.mb_plan.specs.Lent.{shown}
use Rattle.mb_plan.specs.Planned.{first_greatest}
use Rattle.mb_plan.proofs.Folds.{rest_next, rest_none}
use Rattle.mb_plan.proofs.Joins.{joins_two}
use Rattle.mb_plan.proofs.planning.stable_base.Goals as goal

pub loop-log-preserved : goal.loop-log-preserved
loop-log-preserved c = λ more.
    let there : slice_get c.args.logs.now c.loop-log.log-index ≡ Some c.log-item.result =
    slice_get-get_or _ _ c.log-item.result c.loop-log-test.true ∙ ap (λ x. Some x) (sym c.log-item.is) in
    ap (λ x. first_greatest (x ∷ (map stable_of (map shown (drop (c.loop-log.log-index + 1) c.args.logs.now)) ++ more))) c.further-base.ensures
    ∙ (sym (joins_two c.loop-log.base.now c.log-item.result.body.now.stable _) ∙ sym (rest_next (λ l. first_greatest (c.loop-log.base.now ∷ (map stable_of (map shown l) ++ more))) c.args.logs.now c.loop-log.log-index c.log-item.result there) ∙ c.loop-log.invariant more)

pub returns : goal.returns
returns c = λ more. sym (rest_none (λ l. first_greatest (c.loop-log.base.now ∷ (map stable_of (map shown l) ++ more))) c.args.logs.now c.loop-log.log-index c.loop-log-test.false) ∙ c.loop-log.invariant more
