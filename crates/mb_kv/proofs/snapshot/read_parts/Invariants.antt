use Rattle.std.proofs.Common.{◌≡◌, ◌≤◌, [], length, drop}
use Rattle.std.specs.List.{AllByRecursion}
use Rattle.mb_kv.specs.declared.limits.TheConstants.{MAX_KEYS}
use Rattle.mb_kv.specs.Snapshots.{all_pairs}
use Rattle.mb_kv.specs.Seen.{pairs_seen, EntryFits}
use Rattle.mb_kv.proofs.snapshot.read_parts.Given as goal

abbrev pub invariant-loop-part : goal.invariant-loop-part
invariant-loop-part l = record {
  read : all_pairs (pairs_seen l.entries.items) l.part (drop l.part l.parts) ≡ all_pairs [] 0 l.parts;
  few : length l.entries.items ≤ MAX_KEYS;
  fit : AllByRecursion EntryFits l.entries.items;
}
