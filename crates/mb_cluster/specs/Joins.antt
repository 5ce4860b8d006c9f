-- What a datagram does to the pieces of the hosts.
use Rattle.std.specs.Prelude.{◌≡◌, ℕ, ◌<◌, List, length, Option, Some, None, slice_index_or}
use Rattle.mb_base.specs.Shapes.{Bytes}
use Rattle.mb_frag.specs.Held.{Held, nothing_held, IsWhole}
use Rattle.mb_cluster.specs.Hearing.{joined}

-- it makes a message of this host whole
pub record MakesWhole (datagram : Bytes) (host : ℕ) (old new : List Held) : Type 0 where
  pub held : new ≡ (joined old datagram).0
  pub within : host < length new
  pub whole : IsWhole (slice_index_or new host nothing_held)
  pub message : (joined old datagram).1 ≡ Some (slice_index_or new host nothing_held).bytes

abbrev pub Joins : Bytes → Option ℕ → List Held → List Held → Type 0
Joins datagram None old new = (new ≡ (joined old datagram).0) × ((joined old datagram).1 ≡ None)
Joins datagram (Some host) old new = MakesWhole datagram host old new
