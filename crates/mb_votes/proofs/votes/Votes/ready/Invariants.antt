use Rattle.std.proofs.Common.{ℕ, ◌+◌, ◌<◌}
use Rattle.mb_votes.specs.Ballots.{vote_at}
use Rattle.mb_votes.specs.Votes.{Agrees}
use Rattle.mb_votes.proofs.votes.Votes.ready.Given as goal

abbrev pub invariant-loop-step : goal.invariant-loop-step
invariant-loop-step l = (q : ℕ) → l.low < q → q < l.low + 1 + l.step → Agrees l.self.shape (vote_at l.self.ballots) q → ⊥
