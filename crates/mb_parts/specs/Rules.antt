-- What is told of a stamped message that may not be taken of its sender.
use Rattle.std.specs.Prelude.{ℕ, nat_le, Option, Some, None, if◌then◌else◌}
use Rattle.mb_parts.specs.Bares.{Bare}
use Rattle.mb_parts.specs.Bares as bare

-- the number of the rule for a kind
abbrev pub rule_of : Bare → ℕ
rule_of (bare.ViewChange view digest) = 1
rule_of (bare.NewView view base end plan digest) = 2
rule_of (bare.Enter view counter plan) = 3
rule_of (bare.Open evidence digest) = 4
rule_of (bare.Join view evidence stable) = 5
rule_of (bare.Prepare view pos digest) = 6
rule_of (bare.Commit view pos counter cert digest) = 7
rule_of (bare.Checkpoint pos state digest) = 8

-- where a gate is closed at a counter that is not above this one: that counter
abbrev pub shut_before : Option ℕ → ℕ → Option ℕ
shut_before None counter = None
shut_before (Some x) counter = if nat_le x counter then Some x else None
