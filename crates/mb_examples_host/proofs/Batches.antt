-- Batches, computed on the definitions with real tags: which requests go into one, and what is executed of it. What is expected was worked out from the rules by
-- hand; the tags were made outside these definitions.
use Rattle.std.proofs.Common.{◌≡◌, ℕ, ◌+◌, List, [], ◌∷◌, map, refl, true, false, Option, Some, None}
use Rattle.std.specs.Prelude.{replicate, codes, option_map}
use Rattle.std.specs.List.{range_with_len}
use Rattle.mb_base.specs.Shapes.{Bytes}
use Rattle.mb_parts.specs.declared.request.Request.{Request}
use Rattle.mb_parts.specs.declared.batch.Batch.{Batch}
use Rattle.mb_msg.specs.declared.event.Placed.{Placed}
use Rattle.mb_msg.specs.declared.message.Message.{Message}
use Rattle.mb_msg.specs.declared.message.Message.TheVariants as message
use Rattle.mb_model.specs.Batches.{first_batch}
use Rattle.mb_model.specs.Histories.{Served, Executed, History}
use Rattle.mb_model.specs.Sending.{begin}
use Rattle.mb_model.specs.CarriedOut.{execute}
use Rattle.mb_model.proofs.Hex.{unhex}
use Rattle.mb_model.proofs.StepOnLiterals.{host_on_literals}
use Rattle.mb_examples_host.proofs.Samples.{four_clients, host, asked}

-- ---- which requests go into one batch: 16 at most, of 2,048 bytes together at most

-- of a client, whose operation has so many bytes; the request has 43 more
abbrev sized : ℕ → ℕ → Request
sized c bytes = record { client = c; seq = 1; op = replicate bytes 0; tag = replicate 32 0 }

abbrev clients_of : Batch → List ℕ
clients_of b = map (λ r. r.client) b.requests

-- of clients from this one on, with operations of these lengths
abbrev waiting : ℕ → List ℕ → List Request
waiting c [] = []
waiting c (bytes ∷ lengths) = sized c bytes ∷ waiting (c + 1) lengths

-- the clients whose requests are in the batch, where those with operations of these lengths wait
abbrev taken : List ℕ → Option (List ℕ)
taken lengths = option_map clients_of (first_batch (waiting 0 lengths))

-- Of seventeen requests the last one is left out.
sixteen_at_most : (taken (replicate 16 6) ≡ Some (range_with_len 0 16)) × (taken (replicate 17 6) ≡ Some (range_with_len 0 16)) × (taken [] ≡ None)
unfolding host_on_literals
sixteen_at_most = (refl, refl, refl)

-- Two requests of together 2,048 bytes are a batch, and with one byte more the second is left out, and so is what waits behind it.
bytes_at_most : (taken (1000 ∷ 962 ∷ []) ≡ Some (0 ∷ 1 ∷ [])) × (taken (1000 ∷ 962 ∷ 1 ∷ []) ≡ Some (0 ∷ 1 ∷ [])) × (taken (1000 ∷ 963 ∷ 1 ∷ []) ≡ Some (0 ∷ []))
unfolding host_on_literals
bytes_at_most = (refl, refl, refl)

-- ---- a batch with a request that is not fresh: it is served in its place, changes nothing, and is not answered

-- the request of a client, as it is served, and the REPLY of h1 to it
abbrev placed : ℕ → Placed
placed c = record { request = asked c; fresh = true }

abbrev reply : ℕ → ℕ → Bytes → Message
reply c pos tag = message.Reply (record { host = 1; client = c; seq = 1; pos = pos; result = 0 ∷ []; tag = tag })

-- that of client 0, for the second time
abbrev again : Placed
again = record (placed 0) { fresh = false }

-- all that is left, and what was sent
abbrev executed_and_sent : ℕ → Batch → History → History × List Message
executed_and_sent pos b d = ((execute (host four_clients 1) pos b (begin d)).history, map (λ letter. letter.says) (execute (host four_clients 1) pos b (begin d)).sent)

-- Client 0 was served at position 1.
abbrev one_served : History
one_served = Executed (record { pos = 1; requests = placed 0 ∷ [] }) ∷ Served 1 (placed 0) ∷ []

one_was_served : executed_and_sent 2 (record { requests = asked 0 ∷ asked 1 ∷ [] }) one_served
    ≡ (Executed (record { pos = 2; requests = again ∷ placed 1 ∷ [] }) ∷ Served 2 (placed 1) ∷ Served 2 again ∷ one_served, reply 1 2 (unhex (codes "db9f3e39840af4dde52c069fa01243f17967887194868553112f21d357317bc9")) ∷ [])
unfolding host_on_literals
one_was_served = refl

-- The same request twice in one batch: the first is fresh.
twice_in_one_batch : executed_and_sent 1 (record { requests = asked 0 ∷ asked 0 ∷ [] }) []
    ≡ (Executed (record { pos = 1; requests = placed 0 ∷ again ∷ [] }) ∷ Served 1 again ∷ Served 1 (placed 0) ∷ [], reply 0 1 (unhex (codes "b5ff78955a87b1a0037a45ef793207c414d13c0c373990fcb1c55bec9c2d1d11")) ∷ [])
unfolding host_on_literals
twice_in_one_batch = refl
