-- The datagram of a STOP, and a round of it.
use Rattle.std.specs.Prelude.{◌≡◌, ℕ, List, map}
use Rattle.std.specs.List.{range_with_len}
use Rattle.mb_base.specs.Shapes.{Bytes}
use Rattle.mb_cluster.specs.Posts.{stop_datagram}

-- it is, under some number
pub record IsStop (secret datagram : Bytes) : Type 0 where
  pub number : ℕ
  pub is : datagram ≡ stop_datagram secret number

-- a datagram for each host in turn
abbrev pub round : ℕ → Bytes → List (ℕ × Bytes)
round hosts datagram = map (λ host. (host, datagram)) (range_with_len 0 hosts)
