use Rattle.std.proofs.Common.{◌≡◌, ◌∙◌, ◌+◌, [], map, Some, slice_get, sym, ap, refl, arith}
use Rattle.std.proofs.lemmas.Option.{slice_get-get_or}
use Rattle.mb_base.specs.Limits.{plan_limit}
use Rattle.mb_model.specs.Plans.{vote_since, lower_vote, lowest_vote}
use Rattle.mb_model.specs.UsableLogs.{newest_first}
use Rattle.mb_plan.specs.Lent.{shown, vote_at}
use Rattle.mb_plan.proofs.Places.{none_at, lowest_next, lowest_all}
use Rattle.mb_plan.proofs.planning.lowest_votes.Goals as goal

pub loop-log-init : goal.loop-log-init
loop-log-init c = record {
  wide = refl;
  lowest = λ i lt. ap (λ x. lower_vote x (lowest_vote (c.args.base + 1 + i) (map shown c.args.voters.now))) (none_at plan_limit i lt);
}

pub loop-log-preserved : goal.loop-log-preserved
loop-log-preserved c =
    let there : slice_get c.args.voters.now c.loop-log.log-index ≡ Some c.log-item.result =
    slice_get-get_or _ _ c.log-item.result c.loop-log-test.true ∙ ap (λ x. Some x) (sym c.log-item.is) in
    record {
      wide = omega (arith, c.loop-log.invariant.wide);
      lowest = λ i lt. lowest_next (c.args.base + 1 + i) c.args.voters.now c.loop-log.log-index c.log-item.result there (vote_at c.loop-log.lowest i) _
          (c.lower_votes.ensures i lt ∙ ap (λ x. lower_vote (vote_at c.loop-log.lowest i) x) (c.votes_in-votes.ensures i (omega arith) ∙ ap (λ es. vote_since (c.args.base + 1 + i) (newest_first [] es)) c.as_slice.ensures))
          (c.loop-log.invariant.lowest i (omega arith));
    }

pub returns-clause-lowest : goal.returns-clause-lowest
returns-clause-lowest c = λ i lt. lowest_all (c.args.base + 1 + i) c.args.voters.now c.loop-log.log-index (vote_at c.loop-log.lowest i) c.loop-log-test.false (c.loop-log.invariant.lowest i lt)
