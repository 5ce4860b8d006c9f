use Rattle.std.proofs.Common.{◌≡◌}
use Rattle.mb_msg.proofs.kept.digested.Given as goal

abbrev pub invariant-loop-entry : goal.invariant-loop-entry
invariant-loop-entry l = l.entry-items ≡ l.fn.entries
