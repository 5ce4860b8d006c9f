use Rattle.std.proofs.Common.{◌++◌, take, List, ℕ}
use Rattle.std.specs.List.{flat_map}
use Rattle.mb_parts.specs.Spelling.{request_bytes}
use Rattle.mb_parts.proofs.batch.feed.Given as goal

abbrev pub invariant-loop-request : goal.invariant-loop-request
invariant-loop-request g l = (m : List ℕ) → g.H.Digest.holds l.initial.hasher m → g.H.Digest.holds l.hasher (m ++ flat_map request_bytes (take l.request-index l.requests))
