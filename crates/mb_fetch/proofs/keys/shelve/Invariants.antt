use Rattle.std.proofs.Common.{◌≡◌, ◌++◌, List, length, map, Some}
use Rattle.std.specs.Vec.Iter.{into_iter_items, into_iter_len}
use Rattle.mb_fetch.specs.declared.shelved.HashedPart.{HashedPart}
use Rattle.mb_fetch.specs.Shelves.{part_under, bytes_of, HoldsOnce, Extends, AddsOnly}
use Rattle.mb_fetch.proofs.keys.shelve.Given as goal

abbrev pub invariant-loop-part : goal.invariant-loop-part
invariant-loop-part l = record {
  once : HoldsOnce (part_under l.held);
  kept : Extends (part_under l.fn.held) (part_under l.held);
  keys_are : (done : List HashedPart) × (map (part_under l.held) l.keys.items ≡ map (λ p. Some p) (bytes_of done)) × (done ++ into_iter_items l.part-iterator ≡ l.fn.parts.items);
  added : AddsOnly (part_under l.fn.held) (part_under l.held) l.keys.items;
  len : into_iter_len l.part-iterator ≡ length (into_iter_items l.part-iterator);
}
