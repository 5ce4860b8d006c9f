-- The addresses of peers.
use Rattle.std.specs.Prelude.{◌≡◌, ℕ, ◌==◌, [], ◌∷◌, if◌then◌else◌}
use Rattle.std.specs.declared.net.socket_addr.SocketAddr.{SocketAddr}
use Rattle.std.specs.declared.net.socket_addr.SocketAddr.TheVariants.{V4, V6}
use Rattle.std.specs.Net.Addr.{ipv4_octets}
use Rattle.std.specs.Net.Socket.{v4_ip, v4_port}

-- how far the port of a peer is above the first host's: the client program is peer 255
abbrev pub above : ℕ → ℕ
above peer = if peer == 255 then 100 else peer

-- this machine, at this port
abbrev pub IsHere : SocketAddr → ℕ → Type 0
IsHere (V4 a) port = (ipv4_octets (v4_ip a) ≡ 127 ∷ 0 ∷ 0 ∷ 1 ∷ []) × (v4_port a ≡ port)
IsHere (V6 a) port = ⊥
