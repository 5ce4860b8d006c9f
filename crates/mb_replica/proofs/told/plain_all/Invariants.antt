use Rattle.std.proofs.Common.{◌≡◌, ◌++◌, length, map}
use Rattle.std.specs.Vec.Iter.{into_iter_items, into_iter_len}
use Rattle.mb_replica.specs.Told.{plain}
use Rattle.mb_replica.proofs.told.plain_all.Given as goal

-- src/told.rt
abbrev pub invariant-loop-outgoing : goal.invariant-loop-outgoing
invariant-loop-outgoing l = record {
  whole : l.all ++ map plain (into_iter_items l.outgoing-iterator) ≡ map plain l.fn.sent;
  len : into_iter_len l.outgoing-iterator ≡ length (into_iter_items l.outgoing-iterator);
}
