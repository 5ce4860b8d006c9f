use Rattle.std.proofs.Common.{◌++◌, take, List, ℕ}
use Rattle.mb_parts.specs.Spelling.{floors_bytes}
use Rattle.mb_parts.proofs.floors.feed.Given as goal

abbrev pub invariant-loop-place : goal.invariant-loop-place
invariant-loop-place g l = (m : List ℕ) → g.H.Digest.holds l.initial.hasher m → g.H.Digest.holds l.hasher (m ++ floors_bytes (take l.place-index l.floors))
