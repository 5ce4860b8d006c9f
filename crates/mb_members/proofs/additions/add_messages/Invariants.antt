use Rattle.std.proofs.Common.{◌≡◌, ◌++◌, length, map}
use Rattle.std.specs.Vec.Iter.{into_iter_items, into_iter_len}
use Rattle.mb_members.proofs.additions.add_messages.Given as goal

abbrev pub invariant-loop-message : goal.invariant-loop-message
invariant-loop-message l = record {
  whole : l.pool.items ++ map (λ m. m.bytes) (into_iter_items l.message-iterator) ≡ l.fn.pool.items ++ map (λ m. m.bytes) l.fn.sent;
  len : into_iter_len l.message-iterator ≡ length (into_iter_items l.message-iterator);
}
