use Rattle.std.proofs.Common.{◌≡◌, drop}
use Rattle.std.specs.List.{list_any}
use Rattle.mb_votes.specs.Counted.{has_rank}
use Rattle.mb_votes.proofs.ballot.any_has_rank.Given as goal

abbrev pub invariant-loop-counted : goal.invariant-loop-counted
invariant-loop-counted l = list_any (has_rank l.rank) (drop l.counted-index l.by_host) ≡ list_any (has_rank l.rank) l.by_host
