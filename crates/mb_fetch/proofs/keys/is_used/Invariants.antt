use Rattle.std.proofs.Common.{◌≡◌, drop}
use Rattle.mb_fetch.specs.Shelves.{has_key, all_keys}
use Rattle.mb_fetch.proofs.keys.is_used.Given as goal

abbrev pub invariant-loop-snapshot : goal.invariant-loop-snapshot
invariant-loop-snapshot l = has_key l.key (all_keys (drop l.snapshot-index l.snapshots)) ≡ has_key l.key (all_keys l.snapshots)
