use Rattle.std.proofs.Common.{◌≡◌, ◌++◌}
use Rattle.std.specs.List.{AllByRecursion, flat_map}
use Rattle.mb_kv.specs.Snapshots.{pair_text, part_text}
use Rattle.mb_kv.specs.Seen.{pairs_seen}
use Rattle.mb_kv.specs.States.{PairFits}
use Rattle.mb_kv.proofs.part.Part.text.Given as goal

-- what was written, and the pairs that are left
abbrev pub invariant-loop-key : goal.invariant-loop-key
invariant-loop-key l = record {
  written : l.text.items ++ flat_map pair_text (pairs_seen l.key-iterator) ≡ part_text l.self;
  fit : AllByRecursion PairFits (pairs_seen l.key-iterator);
}
