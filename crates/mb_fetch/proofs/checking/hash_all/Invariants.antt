use Rattle.std.proofs.Common.{◌++◌, List, ℕ, take}
use Rattle.std.specs.List.{flat_map}
use Rattle.mb_fetch.proofs.checking.hash_all.Given as goal

abbrev pub invariant-loop-digest : goal.invariant-loop-digest
invariant-loop-digest g l = (m : List ℕ) → g.H.Digest.holds l.initial.hasher m → g.H.Digest.holds l.hasher (m ++ flat_map (λ d. d) (take l.digest-index l.digests))
