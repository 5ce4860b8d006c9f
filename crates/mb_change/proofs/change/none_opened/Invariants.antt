use Rattle.std.proofs.Common.{◌≡◌, replicate}
use Rattle.mb_change.specs.Tables.{none_opened}
use Rattle.mb_change.proofs.change.none_opened.Given as goal

abbrev pub invariant-loop : goal.invariant-loop
invariant-loop l = l.all.items ≡ replicate l.counter none_opened
