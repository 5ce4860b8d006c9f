use Rattle.std.proofs.Common.{List, take_all, subst}
use Rattle.std.proofs.lemmas.Option.{slice_get-get_or}
use Rattle.mb_learn.specs.declared.heard.Opening.{Opening}
use Rattle.mb_learn.specs.Tables.{by_openings, AddsVotes}
use Rattle.mb_learn.proofs.CountedVotes.{openings_first, openings_next}
use Rattle.mb_learn.proofs.counting.count_all.Goals as goal

pub loop-opening-init : goal.loop-opening-init
loop-opening-init c = openings_first c.args.plan.now c.args.openings.now c.args.votes.now

pub loop-opening-preserved : goal.loop-opening-preserved
loop-opening-preserved c =
    openings_next c.args.plan.now c.args.openings.now c.loop-opening.opening-index _ c.args.votes.now c.loop-opening.votes c.count_one.new.votes (slice_get-get_or c.args.openings.now c.loop-opening.opening-index _ c.loop-opening-test.true)
    c.loop-opening.invariant c.in_ok-count_one.ensures

pub returns : goal.returns
returns c = subst (λ (l : List Opening). AddsVotes (by_openings l c.args.plan.now) c.args.votes.now c.loop-opening.votes) (take_all c.loop-opening.opening-index c.args.openings.now c.loop-opening-test.false) c.loop-opening.invariant
