use Rattle.std.proofs.Common.{◌≡◌, ◌-◌, []}
use Rattle.std.specs.List.{AllByRecursion}
use Rattle.mb_base.specs.Fields.{place_of}
use Rattle.mb_kv.specs.Snapshots.{pairs_at}
use Rattle.mb_kv.specs.Seen.{pairs_seen, EntryFits}
use Rattle.mb_kv.proofs.snapshot.read_pairs.Given as goal

abbrev pub invariant-loop : goal.invariant-loop
invariant-loop l = record {
  read : pairs_at l.bucket l.room (pairs_seen l.entries.items) (l.count - l.counter) (place_of l.fields) ≡ pairs_at l.bucket l.room [] l.count (place_of l.fn.fields);
  fit : AllByRecursion EntryFits l.entries.items;
}
