use Rattle.std.proofs.Common.{◌≡◌, ◌+◌, ◌≤◌, drop, is_some}
use Rattle.std.specs.Prelude.{count_by}
use Rattle.mb_votes.proofs.ballot.count_votes.Given as goal

abbrev pub invariant-loop-counted : goal.invariant-loop-counted
invariant-loop-counted l = (l.count ≤ l.counted-index) × (l.count + count_by is_some (drop l.counted-index l.by_host) ≡ count_by is_some l.by_host)
