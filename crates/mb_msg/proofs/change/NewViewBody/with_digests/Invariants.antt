use Rattle.std.proofs.Common.{◌≡◌, ◌++◌, length}
use Rattle.std.specs.Vec.Iter.{into_iter_items, into_iter_len}
use Rattle.mb_msg.proofs.change.NewViewBody.with_digests.Given as goal

-- src/kept.rt
abbrev pub invariant-loop-change : goal.invariant-loop-change
invariant-loop-change l = record {
  whole : l.changes ++ into_iter_items l.change-iterator ≡ l.fn.self.changes;
  len : into_iter_len l.change-iterator ≡ length (into_iter_items l.change-iterator);
}
