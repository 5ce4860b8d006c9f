use Rattle.std.proofs.Common.{◌∙◌, None, refl, ap, arith}
use Rattle.std.specs.Prelude.{option_map}
use Rattle.std.proofs.lemmas.List.{get_or_read}
use Rattle.mb_model.specs.Plans.{lower_vote}
use Rattle.mb_plan.specs.Lent.{vote, vote_at}
use Rattle.mb_plan.proofs.Places.{lower_next}
use Rattle.mb_plan.proofs.shown_votes.lower_votes.Goals as goal

pub loop-index-init : goal.loop-index-init
loop-index-init c = record { lower = λ k lt. absurd (omega (arith, lt)); others = λ k le. refl }

pub loop-index-preserved : goal.loop-index-preserved
loop-index-preserved c = lower_next c.args.lowest.now c.args.votes.now c.loop-index.lowest c.loop-index.index c.lower_vote.result (omega arith) c.loop-index.invariant
    (c.lower_vote.ensures
    ∙ ap (λ x. lower_vote (option_map vote x) (option_map vote c.index-votes-index.result)) (get_or_read c.loop-index.lowest c.loop-index.index c.index-lowest-index.result (omega arith) c.index-lowest-index.is None)
    ∙ ap (λ x. lower_vote (vote_at c.loop-index.lowest c.loop-index.index) (option_map vote x)) (get_or_read c.args.votes.now c.loop-index.index c.index-votes-index.result (omega arith) c.index-votes-index.is None))

pub returns : goal.returns
returns c = λ i lt. c.loop-index.invariant.lower i (omega arith)
