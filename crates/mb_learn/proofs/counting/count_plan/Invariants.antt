use Rattle.std.proofs.Common.{◌≡◌, ◌+◌, take}
use Rattle.mb_learn.specs.Tables.{votes_so, AddsVotes}
use Rattle.mb_learn.proofs.counting.count_plan.Given as goal

abbrev pub invariant-loop-digest : goal.invariant-loop-digest
invariant-loop-digest l = AddsVotes (votes_so l.opening (record { base = l.plan.base; digests = take l.digest-index l.plan.batches })) l.initial.votes l.votes × (l.pos ≡ l.plan.base + l.digest-index)
