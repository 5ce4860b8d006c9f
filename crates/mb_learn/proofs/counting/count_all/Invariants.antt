use Rattle.std.proofs.Common.{take}
use Rattle.mb_learn.specs.Tables.{by_openings, AddsVotes}
use Rattle.mb_learn.proofs.counting.count_all.Given as goal

abbrev pub invariant-loop-opening : goal.invariant-loop-opening
invariant-loop-opening l = AddsVotes (by_openings (take l.opening-index l.openings) l.plan) l.initial.votes l.votes
