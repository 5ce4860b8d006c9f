use Rattle.std.proofs.Common.{◌≡◌, ◌+◌, ◌≤◌, length}
use Rattle.std.specs.List.{AllByRecursion, fold}
use Rattle.mb_kv.specs.declared.limits.TheConstants.{MAX_KEYS}
use Rattle.mb_kv.specs.Pairs.{with_value}
use Rattle.mb_kv.specs.Snapshots.{collected}
use Rattle.mb_kv.specs.Seen.{pairs_seen, EntryFits}
use Rattle.mb_kv.proofs.snapshot.restored_of.Given as goal

-- the state so far, and the entries that are left
abbrev pub invariant-loop-entry : goal.invariant-loop-entry
invariant-loop-entry l = record {
  state : fold (λ state p. with_value state p.0 p.1) l.kv (pairs_seen l.entry-iterator.rest.items) ≡ collected (pairs_seen l.fn.entries.items);
  few : length l.kv + length l.entry-iterator.rest.items ≤ MAX_KEYS;
  fit : AllByRecursion EntryFits l.entry-iterator.rest.items;
}
