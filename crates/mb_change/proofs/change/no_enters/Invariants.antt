use Rattle.std.proofs.Common.{None, ◌≡◌, replicate}
use Rattle.mb_change.proofs.change.no_enters.Given as goal

abbrev pub invariant-loop : goal.invariant-loop
invariant-loop l = l.all.items ≡ replicate l.counter None
