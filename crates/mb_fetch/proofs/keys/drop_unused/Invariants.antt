use Rattle.std.proofs.Common.{◌≡◌, ℕ, ◌<◌, ◌≤◌, None}
use Rattle.std.specs.Prelude.{if◌then◌else◌}
use Rattle.mb_fetch.specs.Shelves.{part_under, has_key, all_keys}
use Rattle.mb_fetch.proofs.keys.drop_unused.Given as goal

abbrev pub invariant-loop-key : goal.invariant-loop-key
invariant-loop-key l = record {
  done : (k : ℕ) → k < l.key → part_under l.held k ≡ (if has_key k (all_keys l.snapshots) then part_under l.fn.held k else None);
  later : (k : ℕ) → l.key ≤ k → part_under l.held k ≡ part_under l.fn.held k;
}
