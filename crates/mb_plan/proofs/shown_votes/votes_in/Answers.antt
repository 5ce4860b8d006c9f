use Rattle.std.proofs.Common.{◌≡◌, ◌∙◌, ◌+◌, Some, slice_get, sym, ap}
use Rattle.std.proofs.lemmas.Option.{slice_get-get_or}
use Rattle.mb_base.specs.Limits.{plan_limit}
use Rattle.mb_model.specs.Plans.{vote_since}
use Rattle.mb_plan.proofs.Folds.{newest_next, newest_all}
use Rattle.mb_plan.proofs.Places.{none_at}
use Rattle.mb_plan.proofs.shown_votes.votes_in.Goals as goal

pub loop-entry-init : goal.loop-entry-init
loop-entry-init c = λ i lt. none_at plan_limit i lt

pub loop-entry-preserved : goal.loop-entry-preserved
loop-entry-preserved c = λ i lt.
    let there : slice_get c.args.entries.now c.loop-entry.entry-index ≡ Some c.entry-item.result =
    slice_get-get_or _ _ c.entry-item.result c.loop-entry-test.true ∙ ap (λ x. Some x) (sym c.entry-item.is) in
    c.note.ensures _ c.loop-entry.invariant i lt ∙ sym (newest_next (vote_since (c.args.base + 1 + i)) c.args.entries.now c.loop-entry.entry-index c.entry-item.result there)

pub returns : goal.returns
returns c = λ i lt. c.loop-entry.invariant i lt ∙ newest_all (vote_since (c.args.base + 1 + i)) c.args.entries.now c.loop-entry.entry-index c.loop-entry-test.false
