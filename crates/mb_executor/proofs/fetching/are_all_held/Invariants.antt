use Rattle.std.proofs.Common.{◌≡◌, ℕ, Option}
use Rattle.mb_base.specs.Shapes.{Bytes}
use Rattle.mb_fetch.specs.Parts.{Represents}
use Rattle.mb_executor.specs.Taking.{are_held}
use Rattle.mb_executor.proofs.Held.{held_from}
use Rattle.mb_executor.proofs.fetching.are_all_held.Given as goal

abbrev pub invariant-loop-index : goal.invariant-loop-index
invariant-loop-index l = (pos : ℕ) (digest : Bytes) (search : ℕ → Option Bytes) → Represents l.parts pos digest search → held_from search l.m l.index ≡ are_held search l.m
