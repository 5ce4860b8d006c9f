-- The datagrams of what is sent: the pieces of each message, in order.
use Rattle.std.specs.Prelude.{ℕ, ◌+◌, ◌%◌, ◌^◌, ◌==◌, not, List, [], ◌∷◌, ◌++◌, map, filter}
use Rattle.std.specs.List.{flat_map, range_with_len}
use Rattle.mb_base.specs.Shapes.{Bytes}
use Rattle.mb_msg.specs.declared.event.Sent.{Sent}
use Rattle.mb_msg.specs.declared.event.To.{To}
use Rattle.mb_msg.specs.declared.event.To.TheVariants as to
use Rattle.mb_frag.specs.Cutting.{pieces_of}
use Rattle.mb_node.specs.Receives.{client_peer}

-- datagrams, each with the peer that it goes to
abbrev pub Sends : Type 0
Sends = List (ℕ × Bytes)

-- these datagrams to a peer
abbrev pub to_peer : List Bytes → ℕ → Sends
to_peer pieces peer = map (λ piece. (peer, piece)) pieces

-- a host of so many, by its number
module _ (hosts host : ℕ) where
  -- each other host by its number, a host, or the client program
  abbrev pub peers_of : To → List ℕ
  peers_of to.All = filter (λ h. not (h == host)) (range_with_len 0 hosts)
  peers_of (to.Host h) = h ∷ []
  peers_of (to.Client c) = client_peer ∷ []

  abbrev pub to_others : List Bytes → Sends
  to_others pieces = flat_map (to_peer pieces) (peers_of to.All)

  -- the pieces of a message to each of its peers, under one number
  abbrev pub datagrams_of : ℕ → Sent → Sends
  datagrams_of number s = flat_map (to_peer (pieces_of host (number % 2 ^ 32) s.bytes)) (peers_of s.to)

  -- the messages, numbered from here on
  unfoldable pub numbered : ℕ → List Sent → Sends
  numbered number [] = []
  numbered number (s ∷ more) = datagrams_of number s ++ numbered (number + 1) more
