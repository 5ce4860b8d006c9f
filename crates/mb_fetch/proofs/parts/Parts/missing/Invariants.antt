use Rattle.std.proofs.Common.{◌≡◌, ◌-◌, is_none}
use Rattle.std.specs.Prelude.{find}
use Rattle.std.specs.List.{range_with_len}
use Rattle.mb_base.specs.Limits.{part_count}
use Rattle.mb_fetch.specs.Fetched.{part_at}
use Rattle.mb_fetch.specs.Parts.{first_missing}
use Rattle.mb_fetch.proofs.parts.Parts.missing.Given as goal

abbrev pub invariant-loop-part : goal.invariant-loop-part
invariant-loop-part l = find (λ i. is_none (part_at l.self i)) (range_with_len l.part (part_count - l.part)) ≡ first_missing (part_at l.self)
