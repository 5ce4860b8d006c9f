-- What the code's steps do, by the client's side before them.
use Rattle.std.specs.Prelude.{◌≡◌, ℕ, ◌+◌, ◌≤◌, true, List, [], ◌∷◌, ◌++◌, length, map, Option, Some, None, Result, Ok, Err}
use Rattle.std.specs.Io.KnownBytes.{Appends}
use Rattle.mb_base.specs.Shapes.{Bytes}
use Rattle.mb_base.specs.declared.shape.Shape.{Shape}
use Rattle.mb_edge.specs.declared.outside.Failed.{Failed}
use Rattle.mb_edge.specs.declared.outside.Failed.TheVariants.{Device}
use Rattle.mb_edge.specs.Told.{with_more}
use Rattle.mb_msg.specs.declared.normal.Reply.{Reply}
use Rattle.mb_model.specs.Clients.{most_agreeing}
use Rattle.mb_cluster.specs.declared.stop.ClusterStop.{ClusterStop}
use Rattle.mb_cluster.specs.declared.stop.ClusterStop.TheVariants as stop
use Rattle.mb_cluster.specs.declared.asking.Program.{Program}
use Rattle.mb_cluster.specs.Hearing.{Receive, Hearing, asked, hears, hears_all}
use Rattle.mb_cluster.specs.Posts.{posts, number_after, request_bytes, repeats, request_each, requests}
use Rattle.mb_cluster.specs.Sends.{SendsInTurn}
use Rattle.mb_cluster.specs.Exchanges.{Exchange, result_text, IsAnswered, AreAnswered, hearing_after}
use Rattle.mb_cluster.specs.Runs.{Wire, AppendsFront, all_receives}
use Rattle.mb_cluster.specs.Listens.{Listens, HeardAs}

module _ (s : Shape) (secret : Bytes) where
  -- These receives were made, and these messages were sent meanwhile. The client's side is this one then.
  pub record Does (got : List Receive) (messages : List Bytes) (side : Hearing) (before after : Program) (old new : Wire) : Type 0 where
    pub received : new.received ≡ with_more old.received got
    pub sent : new.sent ≡ with_more old.sent (posts before.post.hosts before.post.number messages)
    pub number : after.post.number ≡ number_after before.post.number messages
    pub listens : Listens s secret after.listener side

  -- A call failed behind at most so many receives, for which these messages are sent. Where the device failed, they left the client's side waiting if it
  -- waited.
  pub record Receives (limit : ℕ) (messages : List Receive → List Bytes) (cause : Failed) (c : Hearing) (before after : Program) (old new : Wire) : Type 0 where
    pub got : List Receive
    pub received : new.received ≡ with_more old.received got
    pub sends : SendsInTurn (messages got) before.post.hosts before.post.number after.post.number old.sent new.sent
    pub few : length got ≤ limit
    pub waits : cause ≡ Device → (hears_all s secret c got).asker.waits ≡ c.asker.waits

  -- ---- one receive

  pub record HearsOne (request : Bytes) (heard : Option Reply) (c : Hearing) (before after : Program) (old new : Wire) : Type 0 where
    pub got : Receive
    pub does : Does (got ∷ []) (repeats request (got ∷ [])) (hears s secret c got) before after old new
    pub heard_as : HeardAs heard c.asker (hears s secret c got).asker

  abbrev pub ReceivesOne : Bytes → Result (Option Reply) Failed → Hearing → Program → Program → Wire → Wire → Type 0
  ReceivesOne request (Ok heard) c before after old new = HearsOne request heard c before after old new
  ReceivesOne request (Err cause) c before after old new = Receives 1 (repeats request) cause c before after old new

  -- ---- the receives for a request

  -- the last of at most so many receives completed f+1 replies that agree with this one
  pub record Completes (r : Reply) (request : Bytes) (c : Hearing) (before after : Program) (old new : Wire) : Type 0 where
    pub earlier : List Receive
    pub last : Receive
    pub does : Does (earlier ++ last ∷ []) (repeats request (earlier ++ last ∷ [])) (hears_all s secret c (earlier ++ last ∷ [])) before after old new
    pub waits : (hears_all s secret c earlier).asker.waits ≡ true
    pub accepted : (hears_all s secret c (earlier ++ last ∷ [])).asker.accepted ≡ r ∷ c.asker.accepted
    pub seq : r.seq ≡ c.asker.number
    pub few : length (earlier ++ last ∷ []) ≤ before.turns

  -- so many receives were made, and it still waits
  pub record WaitsOn (count : ℕ) (request : Bytes) (c : Hearing) (before after : Program) (old new : Wire) : Type 0 where
    pub got : List Receive
    pub does : Does got (repeats request got) (hears_all s secret c got) before after old new
    pub made : length got ≡ count
    pub waits : (hears_all s secret c got).asker.waits ≡ true
    pub none : (hears_all s secret c got).asker.accepted ≡ c.asker.accepted

  abbrev pub Awaits : Bytes → Result (Option Reply) Failed → Hearing → Program → Program → Wire → Wire → Type 0
  Awaits request (Ok (Some r)) c before after old new = Completes r request c before after old new
  Awaits request (Ok None) c before after old new = WaitsOn before.turns request c before after old new
  Awaits request (Err cause) c before after old new = Receives before.turns (repeats request) cause c before after old new

  -- ---- an operation

  -- it was answered
  pub record IsExchanged (op : Bytes) (r : Reply) (c : Hearing) (before after : Program) (old new : Wire) : Type 0 where
    pub x : Exchange
    pub reply : x.reply ≡ r
    pub answered : IsAnswered s secret (asked c) x
    pub few : length x.receives ≤ before.turns
    pub does : Does x.receives (request_each (request_bytes secret (c.asker.number + 1) op) x.receives) (hears_all s secret (asked c) x.receives) before after old new

  -- it was not, in all receives
  pub record IsSpent (op : Bytes) (c : Hearing) (before after : Program) (old new : Wire) : Type 0 where
    pub got : List Receive
    pub does : Does got (request_each (request_bytes secret (c.asker.number + 1) op) got) (hears_all s secret (asked c) got) before after old new
    pub spent : length got ≡ before.turns
    pub waits : (hears_all s secret (asked c) got).asker.waits ≡ true

  abbrev pub Exchanges : Bytes → Result (Option Reply) Failed → Hearing → Program → Program → Wire → Wire → Type 0
  Exchanges op (Ok (Some r)) c before after old new = IsExchanged op r c before after old new
  Exchanges op (Ok None) c before after old new = IsSpent op c before after old new
  Exchanges op (Err cause) c before after old new = Receives before.turns (request_each (request_bytes secret (c.asker.number + 1) op)) cause (asked c) before after old new

  -- ---- several operations

  -- These were all answered, and their results are written.
  pub record AsksThese (ops : List Bytes) (c : Hearing) (before after : Program) (old new : Wire) (written written' : Option Bytes) : Type 0 where
    pub exchanges : List Exchange
    pub answered : AreAnswered s secret before.turns c exchanges
    pub all : length exchanges ≡ length ops
    pub does : Does (all_receives exchanges) (requests secret (c.asker.number + 1) ops (map (λ x. x.receives) exchanges)) (hearing_after s secret c exchanges) before after old new
    pub lines : Appends written written' (result_text exchanges)

  -- The first ones were answered, and the one behind them was not, in all receives.
  pub record SpendsOn (ops : List Bytes) (seq matching : ℕ) (c : Hearing) (before after : Program) (old new : Wire) (written written' : Option Bytes) : Type 0 where
    pub exchanges : List Exchange
    pub got : List Receive
    pub answered : AreAnswered s secret before.turns c exchanges
    pub next : c.asker.number + (length exchanges + 1) ≡ seq
    pub within : length exchanges + 1 ≤ length ops
    pub does : Does (all_receives exchanges ++ got) (requests secret (c.asker.number + 1) ops (map (λ x. x.receives) exchanges ++ got ∷ []))
        (hears_all s secret (asked (hearing_after s secret c exchanges)) got) before after old new
    pub spent : length got ≡ before.turns
    pub waits : (hears_all s secret (asked (hearing_after s secret c exchanges)) got).asker.waits ≡ true
    pub most : (let replies = (hears_all s secret (asked (hearing_after s secret c exchanges)) got).asker.replies in matching ≡ most_agreeing replies replies)
    pub lines : Appends written written' (result_text exchanges)

  -- what is sent for operations that were answered, and for one more with these receives, if there is one
  abbrev pub messages_for : List Bytes → Hearing → List Exchange → List Receive → List Bytes
  messages_for ops c exchanges got = requests secret (c.asker.number + 1) ops (map (λ x. x.receives) exchanges ++ got ∷ [])

  -- Some were answered, and their results are written. The next one, if there is one, is not.
  pub record Breaks (ops : List Bytes) (c : Hearing) (before after : Program) (old new : Wire) (written written' : Option Bytes) : Type 0 where
    pub exchanges : List Exchange
    pub got : List Receive
    pub answered : AreAnswered s secret before.turns c exchanges
    pub few : length got ≤ before.turns
    pub waits : (hears_all s secret (asked (hearing_after s secret c exchanges)) got).asker.waits ≡ true
    pub received : new.received ≡ with_more old.received (all_receives exchanges ++ got)
    pub sends : SendsInTurn (messages_for ops c exchanges got) before.post.hosts before.post.number after.post.number old.sent new.sent
    pub lines : Appends written written' (result_text exchanges)

  -- Some were answered, and a first part of their results is written.
  pub record CutsOff (ops : List Bytes) (c : Hearing) (before after : Program) (old new : Wire) (written written' : Option Bytes) : Type 0 where
    pub exchanges : List Exchange
    pub got : List Receive
    pub answered : AreAnswered s secret before.turns c exchanges
    pub few : length got ≤ before.turns
    pub received : new.received ≡ with_more old.received (all_receives exchanges ++ got)
    pub sends : SendsInTurn (messages_for ops c exchanges got) before.post.hosts before.post.number after.post.number old.sent new.sent
    pub lines : AppendsFront (result_text exchanges) written written'

  abbrev pub AsksOps : List Bytes → Result (Unit {0}) ClusterStop → Hearing → Program → Program → Wire → Wire → Option Bytes → Option Bytes → Type 0
  AsksOps ops (Ok done) c before after old new written written' = AsksThese ops c before after old new written written'
  AsksOps ops (Err (stop.Budget seq matching)) c before after old new written written' = SpendsOn ops seq matching c before after old new written written'
  AsksOps ops (Err (stop.ChildEnded host status)) c before after old new written written' = ⊥
  AsksOps ops (Err stop.SpawnFault) c before after old new written written' = ⊥
  AsksOps ops (Err stop.LinkFault) c before after old new written written' = Breaks ops c before after old new written written'
  AsksOps ops (Err stop.SinkFault) c before after old new written written' = CutsOff ops c before after old new written written'
  AsksOps ops (Err stop.NoMemory) c before after old new written written' = CutsOff ops c before after old new written written'
