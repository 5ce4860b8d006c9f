use Rattle.std.proofs.Common.{◌≡◌, ◌++◌, length}
use Rattle.std.specs.Vec.Iter.{into_iter_items, into_iter_len}
use Rattle.mb_fetch.specs.Shelves.{bytes_of}
use Rattle.mb_fetch.proofs.shelf.hash_each.Given as goal

abbrev pub invariant-loop-part : goal.invariant-loop-part
invariant-loop-part l = record {
  hashed : bytes_of l.hashed.items ++ into_iter_items l.part-iterator ≡ l.fn.parts.items;
  len : into_iter_len l.part-iterator ≡ length (into_iter_items l.part-iterator);
}
