use Rattle.std.proofs.Common.{◌≡◌, None, replicate}
use Rattle.mb_forgery.proofs.contents.no_floors.Given as goal

abbrev pub invariant-loop : goal.invariant-loop
invariant-loop l = l.floors ≡ replicate l.counter None
