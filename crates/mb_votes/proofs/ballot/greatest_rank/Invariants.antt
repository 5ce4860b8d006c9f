use Rattle.std.proofs.Common.{◌≡◌, max, drop}
use Rattle.mb_votes.specs.Counted.{greatest_rank}
use Rattle.mb_votes.proofs.ballot.greatest_rank.Given as goal

abbrev pub invariant-loop-counted : goal.invariant-loop-counted
invariant-loop-counted l = max l.most (greatest_rank l.vote (drop l.counted-index l.by_host)) ≡ greatest_rank l.vote l.by_host
