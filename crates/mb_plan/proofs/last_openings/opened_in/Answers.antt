use Rattle.std.proofs.Common.{◌≡◌, ◌∙◌, Some, slice_get, sym, ap}
use Rattle.std.proofs.lemmas.Option.{slice_get-get_or}
use Rattle.mb_model.specs.Plans.{opened_from}
use Rattle.mb_plan.proofs.Folds.{newest_next, newest_all}
use Rattle.mb_plan.proofs.last_openings.opened_in.Goals as goal

pub loop-entry-preserved : goal.loop-entry-preserved
loop-entry-preserved c =
    let there : slice_get c.args.entries.now c.loop-entry.entry-index ≡ Some c.entry-item.result =
    slice_get-get_or _ _ c.entry-item.result c.loop-entry-test.true ∙ ap (λ x. Some x) (sym c.entry-item.is) in
    c.opened_by-opened.ensures c.args.floor _ c.loop-entry.invariant ∙ sym (newest_next (opened_from c.args.floor) c.args.entries.now c.loop-entry.entry-index c.entry-item.result there)

pub returns : goal.returns
returns c = c.loop-entry.invariant ∙ newest_all (opened_from c.args.floor) c.args.entries.now c.loop-entry.entry-index c.loop-entry-test.false
