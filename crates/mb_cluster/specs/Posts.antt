-- What the client program sends: each message goes to every host, under a number of its own.
use Rattle.std.specs.Prelude.{◌≡◌, ℕ, ◌+◌, ◌%◌, ◌^◌, ◌⊎◌, List, [], ◌∷◌, ◌++◌, map, replicate, is_none}
use Rattle.std.specs.List.{flat_map, range_with_len, count_by}
use Rattle.mb_base.specs.Limits.{stop_limit}
use Rattle.mb_base.specs.Shapes.{Bytes}
use Rattle.mb_usig.specs.Tags.{stop_tag}
use Rattle.mb_msg.specs.declared.message.Message.TheVariants.{Request, Stop}
use Rattle.mb_msg.specs.Spelling.{spelling}
use Rattle.mb_frag.specs.Cutting.{pieces_of}
use Rattle.mb_frag.specs.Pieces.{datagram_of}
use Rattle.mb_client.specs.Represents.{request_of}
use Rattle.mb_cluster.specs.Hearing.{Receive}

-- the client program as a peer
abbrev pub program : ℕ
program = 255

-- messages are numbered from 0 on
abbrev pub next_number : ℕ → ℕ
next_number n = (n + 1) % 2 ^ 32

-- pieces for one host
abbrev pub to_host : List Bytes → ℕ → List (ℕ × Bytes)
to_host pieces host = map (λ piece. (host, piece)) pieces

-- the pieces of a message, for each host in turn
abbrev pub to_all : ℕ → ℕ → Bytes → List (ℕ × Bytes)
to_all hosts number message = flat_map (to_host (pieces_of program number message)) (range_with_len 0 hosts)

-- those of several messages, which have numbers in a row
abbrev pub posts : ℕ → ℕ → List Bytes → List (ℕ × Bytes)
posts hosts number [] = []
posts hosts number (m ∷ ms) = to_all hosts number m ++ posts hosts (next_number number) ms

-- the number behind them
abbrev pub number_after : ℕ → List Bytes → ℕ
number_after number [] = number
number_after number (m ∷ ms) = number_after (next_number number) ms

-- ---- messages

-- client 0 asks for an operation
abbrev pub request_bytes : Bytes → ℕ → Bytes → Bytes
request_bytes secret seq op = spelling (Request (request_of secret 0 seq op))

abbrev pub quiets : List Receive → ℕ
quiets = count_by is_none

-- a request again at each quiet among the receives for it
abbrev pub repeats : Bytes → List Receive → List Bytes
repeats request got = replicate (quiets got) request

-- and before them the first time
abbrev pub request_each : Bytes → List Receive → List Bytes
request_each request got = request ∷ repeats request got

-- the requests of operations in a row, of each of which the receives are given
abbrev pub requests : Bytes → ℕ → List Bytes → List (List Receive) → List Bytes
requests secret seq [] receives = []
requests secret seq (op ∷ ops) [] = []
requests secret seq (op ∷ ops) (got ∷ receives) = request_each (request_bytes secret seq op) got ++ requests secret (seq + 1) ops receives

abbrev pub stop_bytes : Bytes → Bytes
stop_bytes secret = spelling (Stop (record { tag = stop_tag secret }))

-- its one datagram, under a number
abbrev pub stop_datagram : Bytes → ℕ → Bytes
stop_datagram secret number = datagram_of (record { sender = program; number = number; index = 0; count = 1 }) (stop_bytes secret)

-- STOP, so often
abbrev pub stops : Bytes → List Bytes
stops secret = replicate stop_limit (stop_bytes secret)

-- ---- where sends fail

-- Some of these, in their order.
abbrev pub AreSome : {A : Type 0} → List A → List A → Type 0
AreSome [] ys = Unit {0}
AreSome (x ∷ xs) [] = ⊥
AreSome (x ∷ xs) (y ∷ ys) = ((x ≡ y) × AreSome xs ys) ⊎ AreSome (x ∷ xs) ys
