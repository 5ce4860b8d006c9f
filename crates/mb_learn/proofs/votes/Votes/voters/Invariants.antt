use Rattle.std.proofs.Common.{◌≡◌, ◌+◌, ◌≤◌}
use Rattle.mb_base.specs.Shapes.{tally}
use Rattle.mb_learn.specs.Tables.{casts_at, is_among}
use Rattle.mb_learn.proofs.votes.Votes.voters.Given as goal

abbrev pub invariant-loop-host : goal.invariant-loop-host
invariant-loop-host l = (l.count ≤ l.host) × (l.count ≡ tally (λ h. is_among (casts_at l.self (l.self.executed + 1)) h l.view l.vote) l.host)
