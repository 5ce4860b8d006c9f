use Rattle.std.proofs.Common.{◌≡◌, ℕ, ◌+◌, ◌<◌, length}
use Rattle.mb_base.specs.Limits.{plan_limit}
use Rattle.mb_plan.specs.Lent.{vote_at}
use Rattle.mb_plan.proofs.Places.{LowestFrom}
use Rattle.mb_plan.proofs.planning.lowest_votes.Given as goal

abbrev pub invariant-loop-log : goal.invariant-loop-log
invariant-loop-log l = record {
  wide : length l.lowest ≡ plan_limit;
  lowest : (i : ℕ) → i < length l.lowest → LowestFrom (l.base + 1 + i) l.voters l.log-index (vote_at l.lowest i);
}
