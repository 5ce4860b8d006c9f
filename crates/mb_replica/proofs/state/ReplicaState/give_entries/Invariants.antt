use Rattle.std.proofs.Common.{length}
use Rattle.mb_replica.proofs.ShownEntries.{GivenSoFar}
use Rattle.mb_replica.proofs.state.ReplicaState.give_entries.Given as goal

abbrev pub invariant-loop-entry : goal.invariant-loop-entry
invariant-loop-entry g l = GivenSoFar l.fn.self l.fn.entries (length l.yielded) l.self
