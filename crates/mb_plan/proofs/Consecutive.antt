-- The batches of a plan, position by position.
use Rattle.std.proofs.Common.{◌≡◌, ℕ, suc, ◌+◌, ◌-◌, ◌≤◌, ◌<◌, List, [], ◌∷◌, Some, None, ap, ◌∙◌, arith}
use Rattle.mb_parts.specs.declared.batch.Batch.{Batch}
use Rattle.mb_model.specs.Plans.{ShownLog, ShownVote, lowest_vote, batches_from, if_voted}

module _ (logs : List ShownLog) (first most : ℕ) where
  -- from a step on
  abbrev pub batches_at : ℕ → List Batch
  batches_at step = batches_from logs (first + step) (most - step)

  batch_next : (step : ℕ) → step < most → batches_at step ≡ if_voted (lowest_vote (first + step) logs) (batches_at (step + 1))
  unfolding batches_from
  batch_next step lt =
      let more : most - step ≡ suc (most - (step + 1)) = omega (arith, lt) in
      let next : first + step + 1 ≡ first + (step + 1) = omega arith in
      ap (batches_from logs (first + step)) more ∙ ap (λ p. if_voted (lowest_vote (first + step) logs) (batches_from logs p (most - (step + 1)))) next

  pub batch_voted : (step : ℕ) (v : ShownVote) → step < most → lowest_vote (first + step) logs ≡ Some v → batches_at step ≡ v.1 ∷ batches_at (step + 1)
  batch_voted step v lt is = batch_next step lt ∙ ap (λ x. if_voted x (batches_at (step + 1))) is

  pub batch_unvoted : (step : ℕ) → step < most → lowest_vote (first + step) logs ≡ None → batches_at step ≡ []
  batch_unvoted step lt is = batch_next step lt ∙ ap (λ x. if_voted x (batches_at (step + 1))) is

  pub batches_none : (step : ℕ) → most ≤ step → batches_at step ≡ []
  unfolding batches_from
  batches_none step le = let none : most - step ≡ 0 = omega (arith, le) in ap (batches_from logs (first + step)) none

  pub batches_begin : batches_at 0 ≡ batches_from logs first most
  batches_begin =
      let same : first + 0 ≡ first = omega arith in
      let all : most - 0 ≡ most = omega arith in
      ap (λ p. batches_from logs p (most - 0)) same ∙ ap (batches_from logs first) all
