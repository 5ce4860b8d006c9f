-- Worlds with faulty hosts, computed on the definitions: what hosts and clients refuse, what stands in the way of an event, what is forged.
use Rattle.std.proofs.Common.{◌≡◌, ℕ, Bool, true, false, List, [], ◌∷◌, length, map, refl, arith, Option, Some, None}
use Rattle.std.specs.Prelude.{replicate, drop}
use Rattle.mb_base.specs.Shapes.{Bytes}
use Rattle.mb_base.specs.declared.shape.Shape.{Shape}
use Rattle.mb_usig.specs.Tags.{certificate, request_tag}
use Rattle.mb_parts.specs.declared.request.Request.{Request}
use Rattle.mb_parts.specs.declared.batch.Batch.{Batch}
use Rattle.mb_parts.specs.Bares.{batch_digest, bare_bytes}
use Rattle.mb_parts.specs.Bares as bare
use Rattle.mb_msg.specs.declared.message.Body.TheVariants as body
use Rattle.mb_msg.specs.declared.message.Message.TheVariants as message
use Rattle.mb_msg.specs.Spelling.{spelling, shown_kind}
use Rattle.mb_msg.specs.declared.event.Slot.{Slot}
use Rattle.mb_msg.specs.declared.event.Outcome.TheVariants as outcome
use Rattle.mb_model.specs.Clients as client
use Rattle.mb_model.specs.Histories.{closed_at}
use Rattle.mb_schedule.specs.declared.report.RefusedLine.{RefusedLine}
use Rattle.mb_schedule.specs.declared.report.Word.{Word}
use Rattle.mb_schedule.specs.declared.report.Word.TheVariants as word
use Rattle.mb_schedule.specs.declared.schedule.Name.TheVariants as name
use Rattle.mb_schedule.specs.declared.schedule.WorldEvent.{WorldEvent}
use Rattle.mb_schedule.specs.declared.schedule.WorldEvent.TheVariants.{Ask, Give, Take, Raw, Sign, TagWish, StampPrepare, StampCommit, StampAs, StampRaw}
use Rattle.mb_world_model.specs.World.{OfClient, Made, Unread, Lost, World, System}
use Rattle.mb_world_model.specs.FaultyHosts.{log_after}
use Rattle.mb_world_model.specs.WorldSteps.{world}
use Rattle.mb_world_model.specs.Stops.{WorldStop, NotFaulty, NoSuchMessage, WrongKind, Forged, ForgedTag}
use Rattle.mb_world_model.specs.Refusals.{refusals}
use Rattle.mb_world_model.proofs.WorldsOnLiterals.{worlds_on_literals}
use Rattle.mb_examples_world.proofs.Worlds.{one_client, operation, system_of, all_correct, of_faulty_primary, kind_byte, stop_at}

-- ---- two PREPAREs for one position

abbrev two_clients : Shape
two_clients = record { f = 1; k = 4; clients = 2; faults_in = (omega arith, omega arith); interval_in = (omega arith, omega arith); clients_in = (omega arith, omega arith) }

abbrev two_prepares : System Bytes
two_prepares = system_of (record {
  shape = two_clients;
  secret = replicate 32 0;
  faulty_hosts = true ∷ false ∷ false ∷ [];
  faulty_clients = false ∷ false ∷ [];
  events = Ask 0 operation ∷ Ask 1 operation ∷ StampPrepare 0 0 1 (1 ∷ []) ∷ StampPrepare 0 0 1 (2 ∷ []) ∷ Give 3 1 ∷ Give 4 1 ∷ Give 4 2 ∷ Give 5 2 ∷ Give 4 2 ∷ Give 4 2 ∷ [];
})

abbrev told : ℕ → Word → List ℕ → RefusedLine
told event word numbers = record { event = event; name = word; numbers = numbers }

-- The gate takes one of them, and is closed at the other; so the line has one of both requests. Both correct hosts have closed their gates for h0 at its second
-- message, and none for each other: of the hosts in turn, the counters.
two_prepares_convict : (refusals (world two_prepares 10).seen
    ≡ told 6 word.Illegal (6 ∷ []) ∷ told 7 word.Ahead (1 ∷ []) ∷ told 9 word.Illegal (6 ∷ []) ∷ told 10 word.Convicted (2 ∷ []) ∷ [])
    × (map (λ x. x.pos ∷ map (λ p. p.request.client) x.requests) (world two_prepares 10).line ≡ (1 ∷ 0 ∷ []) ∷ [])
    × (map (λ g. map (closed_at ((world two_prepares 10).histories g)) (0 ∷ 1 ∷ 2 ∷ [])) (1 ∷ 2 ∷ []) ≡ (Some 2 ∷ None ∷ None ∷ []) ∷ (Some 2 ∷ None ∷ None ∷ []) ∷ [])
unfolding worlds_on_literals
two_prepares_convict = (refl, refl, refl)

-- ---- two requests in one batch, of which one was served before

abbrev one_again : System Bytes
one_again = system_of (record {
  shape = two_clients;
  secret = replicate 32 0;
  faulty_hosts = true ∷ false ∷ false ∷ [];
  faulty_clients = false ∷ false ∷ [];
  events = Ask 0 operation ∷ Ask 1 operation ∷ StampPrepare 0 0 1 (1 ∷ []) ∷ StampPrepare 0 0 2 (1 ∷ 2 ∷ []) ∷ Give 3 1 ∷ Give 4 1 ∷ [];
})

-- of a slot the position, and of its requests the client and whether it is fresh
abbrev of_slot : Slot → ℕ × List (ℕ × Bool)
of_slot x = (x.pos, map (λ p. (p.request.client, p.fresh)) x.requests)

one_again_line : (map of_slot (world one_again 6).line ≡ (1, (0, true) ∷ []) ∷ (2, (0, false) ∷ (1, true) ∷ []) ∷ [])
    × (map kind_byte (world one_again 6).pool ≡ 1 ∷ 1 ∷ 2 ∷ 2 ∷ 3 ∷ 4 ∷ 3 ∷ 4 ∷ [])
unfolding worlds_on_literals
one_again_line = (refl, refl)

-- ---- what is no reply is refused by a client, and a faulty host does nothing with what it is given

abbrev of_faulty_last : List WorldEvent → System Bytes
of_faulty_last events = system_of (record { shape = one_client; secret = replicate 32 0; faulty_hosts = false ∷ false ∷ true ∷ []; faulty_clients = false ∷ []; events = events })

-- a reply of h0 with another tag
abbrev bad_reply : Bytes
bad_reply = spelling (message.Reply (record { host = 0; client = 0; seq = 1; pos = 1; result = []; tag = replicate 32 0 }))

-- that reply, no byte, and the request
abbrev no_replies : System Bytes
no_replies = of_faulty_last (Ask 0 operation ∷ Raw (name.Client 0) bad_reply ∷ Raw (name.Client 0) [] ∷ Take 1 0 ∷ Give 1 2 ∷ [])

no_replies_seen : (world no_replies 5).seen ≡ Lost ∷ Unread outcome.Idle ∷ Unread (outcome.Malformed 0) ∷ OfClient client.BadTag ∷ Made 1 1 ∷ []
unfolding worlds_on_literals
no_replies_seen = refl

-- ---- what stands in the way

abbrev stop_of_first : System Bytes → Option WorldStop
stop_of_first system = stop_at system 0

-- how many messages were made, and how many events are told of
abbrev made_and_seen : World → List ℕ
made_and_seen w = length w.pool ∷ length w.seen ∷ []

record StandsInTheWay : Type 0 where
  -- Someone correct does nothing of the kind.
  correct_does_not : map (λ e. stop_of_first (all_correct (e ∷ []))) (StampRaw 0 [] ∷ TagWish 0 1 ∷ StampCommit 1 0 ∷ Sign 0 1 [] ∷ [])
      ≡ Some (NotFaulty (name.Host 0)) ∷ Some (NotFaulty (name.Host 0)) ∷ Some (NotFaulty (name.Host 1)) ∷ Some (NotFaulty (name.Client 0)) ∷ []
  -- And nothing comes of it.
  correct_made_nothing : made_and_seen (world (all_correct (StampRaw 0 [] ∷ Sign 0 1 [] ∷ [])) 2) ≡ 0 ∷ 0 ∷ []
  no_such_message : map (λ e. stop_at (of_faulty_primary (Ask 0 operation ∷ e ∷ [])) 1) (Give 0 1 ∷ Give 2 1 ∷ Take 2 0 ∷ StampCommit 0 0 ∷ StampAs 0 7 ∷ StampPrepare 0 0 1 (1 ∷ 7 ∷ 0 ∷ []) ∷ Give 1 1 ∷ [])
      ≡ Some (NoSuchMessage 0) ∷ Some (NoSuchMessage 2) ∷ Some (NoSuchMessage 2) ∷ Some (NoSuchMessage 0) ∷ Some (NoSuchMessage 7) ∷ Some (NoSuchMessage 7) ∷ None ∷ []
  -- A REQUEST is no PREPARE and not stamped, and a PREPARE is no REQUEST.
  wrong_kind : map (λ e. stop_at (of_faulty_primary (Ask 0 operation ∷ StampPrepare 0 0 1 (1 ∷ []) ∷ e ∷ [])) 2) (StampCommit 0 1 ∷ StampAs 0 1 ∷ StampPrepare 0 0 2 (2 ∷ []) ∷ StampPrepare 0 0 2 (1 ∷ 2 ∷ []) ∷ StampCommit 0 2 ∷ StampAs 0 2 ∷ [])
      ≡ Some (WrongKind 1) ∷ Some (WrongKind 1) ∷ Some (WrongKind 2) ∷ Some (WrongKind 2) ∷ None ∷ None ∷ []

stands_in_the_way : StandsInTheWay
unfolding worlds_on_literals
stands_in_the_way = record { correct_does_not = refl; correct_made_nothing = refl; no_such_message = refl; wrong_kind = refl }

-- ---- what is forged

abbrev request : Request
request = record { client = 0; seq = 1; op = operation; tag = request_tag (replicate 32 0) 0 1 operation }

abbrev batch : Batch
batch = record { requests = request ∷ [] }

-- a PREPARE of h0 at its first counter, made with a trusted counter that is not the one of h0
abbrev forged_prepare : Bytes
forged_prepare = spelling (message.Prepare (record {
  view = 0;
  pos = 1;
  body = body.Whole batch;
  ui = record { host = 0; counter = 1; cert = certificate (replicate 32 0) 0 1 (bare_bytes (bare.Prepare 0 1 (batch_digest batch))) };
}))

-- a REQUEST whose tag is not its client's
abbrev badly_tagged : Bytes
badly_tagged = 1 ∷ 0 ∷ 0 ∷ 0 ∷ 0 ∷ 0 ∷ 0 ∷ 0 ∷ 0 ∷ 1 ∷ 0 ∷ 3 ∷ 2 ∷ 1 ∷ 97 ∷ replicate 32 0

record IsForged : Type 0 where
  forged : stop_at (all_correct (Ask 0 operation ∷ Raw (name.Host 1) forged_prepare ∷ [])) 1 ≡ Some (Forged 2 0 1)
  -- once h0 stamped it, it is none
  not_forged : stop_at (all_correct (Ask 0 operation ∷ Give 1 0 ∷ Raw (name.Host 1) forged_prepare ∷ [])) 2 ≡ None
  -- To a faulty host all may be given. A request that its correct client did not ask is forged by its tag, and one with another tag is not.
  unasked : map (λ e. stop_of_first (of_faulty_primary (e ∷ []))) (Raw (name.Host 0) forged_prepare ∷ Raw (name.Host 1) (spelling (message.Request request)) ∷ Raw (name.Host 1) badly_tagged ∷ [])
      ≡ None ∷ Some (ForgedTag 1) ∷ None ∷ []

what_is_forged : IsForged
unfolding worlds_on_literals
what_is_forged = record { forged = refl; not_forged = refl; unasked = refl }

-- ---- stamps: the message of bytes is these and an identifier; in a VIEW_CHANGE what is no message is left out

abbrev odd_stamps : System Bytes
odd_stamps = of_faulty_primary (Ask 0 operation ∷ StampPrepare 0 0 1 (1 ∷ []) ∷ StampRaw 0 (9 ∷ []) ∷ [])

odd_stamps_are_made : (map length (drop 2 (world odd_stamps 3).pool) ≡ 42 ∷ []) × (map (λ c. map shown_kind (log_after odd_stamps.schedule (world odd_stamps 3) 0 c).entries) (0 ∷ 1 ∷ []) ≡ (2 ∷ []) ∷ [] ∷ [])
unfolding worlds_on_literals
odd_stamps_are_made = (refl, refl)
