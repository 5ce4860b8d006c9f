use Rattle.std.proofs.Common.{◌≡◌, ◌∙◌, ◌∷◌, Some, slice_get, map, sym, ap}
use Rattle.std.proofs.lemmas.Option.{slice_get-get_or}
use Rattle.mb_model.specs.Plans.{opening_bases}
use Rattle.mb_plan.specs.Lent.{shown}
use Rattle.mb_plan.specs.Planned.{first_greatest}
use Rattle.mb_plan.proofs.Folds.{rest_next, rest_none}
use Rattle.mb_plan.proofs.Joins.{alone}
use Rattle.mb_plan.proofs.planning.opening_base.Goals as goal

pub loop-log-preserved : goal.loop-log-preserved
loop-log-preserved c =
    let there : slice_get c.args.voters.now c.loop-log.log-index ≡ Some c.log-item.result =
    slice_get-get_or _ _ c.log-item.result c.loop-log-test.true ∙ ap (λ x. Some x) (sym c.log-item.is) in
    c.further_opening-base.ensures _ ∙ sym (rest_next (λ l. first_greatest (c.loop-log.base.now ∷ opening_bases (map shown l))) c.args.voters.now c.loop-log.log-index c.log-item.result there) ∙ c.loop-log.invariant

pub returns : goal.returns
returns c = sym (alone c.loop-log.base.now) ∙ sym (rest_none (λ l. first_greatest (c.loop-log.base.now ∷ opening_bases (map shown l))) c.args.voters.now c.loop-log.log-index c.loop-log-test.false) ∙ c.loop-log.invariant
