use Rattle.std.proofs.Common.{◌≡◌, ◌++◌, List, ℕ}
use Rattle.std.specs.List.{flat_map, range_with_len}
use Rattle.mb_cache.specs.Digests.{part_digest}
use Rattle.mb_cache.proofs.state_digest.hash_parts.Given as goal

abbrev pub invariant-loop-part : goal.invariant-loop-part
invariant-loop-part g l = record {
  hashed : (m : List ℕ) → g.H.Digest.holds l.initial.hasher m → g.H.Digest.holds l.hasher (m ++ flat_map (part_digest g.V.Service.machine.part_of l.initial.service) (range_with_len 0 l.part));
  kept : l.service ≡ l.initial.service;
}
