-- What a node's reassemblers hold, and what a receive gives.
use Rattle.std.specs.Prelude.{◌≡◌, map, Option, Some, None}
use Rattle.std.specs.List.{range_with_len}
use Rattle.mb_base.specs.Shapes.{Bytes, host_count}
use Rattle.mb_base.specs.declared.shape.Shape.{Shape}
use Rattle.mb_node.specs.declared.inbox.Inbox.{Inbox}
use Rattle.mb_node.specs.declared.receiving.Arrival.{Arrival}
use Rattle.mb_node.specs.declared.receiving.Arrival.TheVariants as arrival
use Rattle.mb_node.specs.Receives.{Receives, client_peer, held_of, made_whole}

-- what the reassemblers of the senders hold behind these receives
pub record HasReceived (s : Shape) (receives : Receives) (inbox : Inbox) : Type 0 where
  pub hosts : inbox.hosts.items ≡ map (λ h. held_of h receives) (range_with_len 0 (host_count s))
  pub client : inbox.client ≡ held_of client_peer receives

-- a datagram's message, where it makes one whole
abbrev pub arrival_of : Option Bytes → Arrival
arrival_of None = arrival.Nothing
arrival_of (Some message) = arrival.Message message

-- what a receive gives behind those before it
abbrev pub arrival_at : Shape → Receives → Option Bytes → Arrival
arrival_at s before None = arrival.Quiet
arrival_at s before (Some datagram) = arrival_of (made_whole s before datagram)
