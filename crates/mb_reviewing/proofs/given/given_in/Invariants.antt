use Rattle.std.proofs.Common.{◌≡◌, ◌++◌, length}
use Rattle.std.specs.Vec.Iter.{into_iter_items, into_iter_len}
use Rattle.mb_audit.specs.Stamps.{texts}
use Rattle.mb_reviewing.specs.Given.{given_in}
use Rattle.mb_reviewing.proofs.given.given_in.Given as goal

abbrev pub invariant-loop-entry : goal.invariant-loop-entry
invariant-loop-entry l = record {
  whole : texts l.given.items ++ given_in (into_iter_items l.entry-iterator) ≡ given_in l.fn.entries;
  len : into_iter_len l.entry-iterator ≡ length (into_iter_items l.entry-iterator);
}
