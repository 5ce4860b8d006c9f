-- When a LOG has no room for one more message.
use Rattle.std.specs.Prelude.{ℕ, Bool, ◌&&◌, ◌||◌, nat_lt, nat_le}
use Rattle.mb_base.specs.Limits.{entry_limit, entry_bytes_limit}

-- behind so many, where all have so many bytes: the first one always goes
abbrev pub is_too_much : ℕ → ℕ → Bool
is_too_much sent bytes = nat_le entry_limit sent || (nat_lt 0 sent && nat_lt entry_bytes_limit bytes)
