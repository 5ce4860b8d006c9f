-- The time between quiets.
use Rattle.std.specs.Prelude.{ℕ}

-- from one quiet to the next, in nanoseconds
abbrev pub interval : ℕ
interval = 50_000_000
