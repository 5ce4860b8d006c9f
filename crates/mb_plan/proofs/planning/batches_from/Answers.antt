use Rattle.std.proofs.Common.{◌∙◌, ◌+◌, ◌++◌, [], ◌∷◌, None, map, sym, ap, append-nil, append_assoc, arith}
use Rattle.std.specs.Prelude.{option_map}
use Rattle.std.proofs.lemmas.List.{get_or_read}
use Rattle.mb_model.specs.Plans.{batches_from}
use Rattle.mb_plan.specs.Lent.{shown, vote}
use Rattle.mb_plan.proofs.Consecutive.{batch_voted, batch_unvoted, batches_none}
use Rattle.mb_plan.proofs.PlanFits.{voted_can_digest}
use Rattle.mb_plan.proofs.planning.batches_from.Goals as goal

pub returns-in-None : goal.returns-in-None
returns-in-None c =
    let vs = map shown c.args.voters.now in
    sym (append-nil c.loop-step.batches)
    ∙ sym (ap (λ t. c.loop-step.batches ++ t) (batch_unvoted vs (c.args.base + 1) c.span-most.result c.loop-step.step c.loop-step-test.true (sym (c.lowest_votes-votes.ensures.lowest c.loop-step.step (omega (arith, c.lowest_votes-votes.ensures.wide))) ∙ (ap (option_map vote) (sym (get_or_read c.lowest_votes-votes.result c.loop-step.step c.index-votes-step.result (omega (arith, c.lowest_votes-votes.ensures.wide)) c.index-votes-step.is None) ∙ (c.index-votes-step.is ∙ c.in-None.is))))))
    ∙ c.loop-step.invariant
    ∙ ap (batches_from vs (c.args.base + 1)) c.span-most.ensures

pub push_copy-requires : goal.push_copy-requires
push_copy-requires c =
    let vs = map shown c.args.voters.now in (
      c.requires.places,
      voted_can_digest c.args.shape.now (c.args.base + 1 + c.loop-step.step) vs (vote c.in-Some.vote) c.requires.fits.1
          (sym (c.lowest_votes-votes.ensures.lowest c.loop-step.step (omega (arith, c.lowest_votes-votes.ensures.wide))) ∙ (ap (option_map vote) (sym (get_or_read c.lowest_votes-votes.result c.loop-step.step c.index-votes-step.result (omega (arith, c.lowest_votes-votes.ensures.wide)) c.index-votes-step.is None) ∙ (c.index-votes-step.is ∙ c.in-Some.is)))),
    )

pub loop-step-preserved : goal.loop-step-preserved
loop-step-preserved c =
    let vs = map shown c.args.voters.now in
    rw c.in_ok-push_copy-in-Some.ensures
    (append_assoc c.loop-step.batches (c.in-Some.vote.batch.now ∷ []) _
    ∙ sym (ap (λ t. c.loop-step.batches ++ t) (batch_voted vs (c.args.base + 1) c.span-most.result c.loop-step.step (vote c.in-Some.vote) c.loop-step-test.true (sym (c.lowest_votes-votes.ensures.lowest c.loop-step.step (omega (arith, c.lowest_votes-votes.ensures.wide))) ∙ (ap (option_map vote) (sym (get_or_read c.lowest_votes-votes.result c.loop-step.step c.index-votes-step.result (omega (arith, c.lowest_votes-votes.ensures.wide)) c.index-votes-step.is None) ∙ (c.index-votes-step.is ∙ c.in-Some.is))))))
    ∙ c.loop-step.invariant)

pub returns : goal.returns
returns c =
    sym (append-nil c.loop-step.batches)
    ∙ sym (ap (λ t. c.loop-step.batches ++ t) (batches_none (map shown c.args.voters.now) (c.args.base + 1) c.span-most.result c.loop-step.step c.loop-step-test.false))
    ∙ c.loop-step.invariant
    ∙ ap (batches_from (map shown c.args.voters.now) (c.args.base + 1)) c.span-most.ensures
