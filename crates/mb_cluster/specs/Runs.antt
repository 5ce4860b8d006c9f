-- A run: what is asked, heard and sent, and what is written of it.
use Rattle.std.specs.Prelude.{◌≡◌, ℕ, ◌+◌, ◌≤◌, ◌⊎◌, true, List, [], ◌∷◌, ◌++◌, length, map, take, Option, Result, Ok, Err}
use Rattle.std.specs.List.{flat_map, AllByRecursion}
use Rattle.std.specs.Io.KnownBytes.{Appends}
use Rattle.mb_base.specs.Shapes.{Bytes, host_count}
use Rattle.mb_parts.specs.Fits.{FitsText}
use Rattle.mb_edge.specs.Seen.{LinkState}
use Rattle.mb_edge.specs.Told.{with_more}
use Rattle.mb_sched.specs.declared.configs.Config.{Config}
use Rattle.mb_model.specs.Clients.{most_agreeing}
use Rattle.mb_cluster.specs.declared.stop.ClusterStop.{ClusterStop}
use Rattle.mb_cluster.specs.declared.stop.ClusterStop.TheVariants.{ChildEnded, Budget, LinkFault, SpawnFault, SinkFault, NoMemory}
use Rattle.mb_cluster.specs.Hearing.{Receive, no_hearing, asked, hears_all}
use Rattle.mb_cluster.specs.Posts.{program, posts, number_after, requests, stops, AreSome}
use Rattle.mb_cluster.specs.Sends.{SendsInTurn}
use Rattle.mb_cluster.specs.Exchanges.{Exchange, result_text, AreAnswered, hearing_after}

-- each operation has at most 1,024 bytes
abbrev pub OpsFit : List Bytes → Type 0
OpsFit ops = AllByRecursion FitsText ops

-- what a link tells of its receives and sends
pub record Wire : Type 0 where
  pub received : Option (List Receive)
  pub sent : Option (List (ℕ × Bytes))

abbrev pub wire : Option (List Receive) → Option (List (ℕ × Bytes)) → Wire
wire received sent = record { received = received; sent = sent }

abbrev pub wire_of : LinkState → Wire
wire_of l = wire l.received l.sent

-- a first part of the bytes was appended, all of them perhaps
pub record AppendsFront (bytes : Bytes) (old new : Option Bytes) : Type 0 where
  pub count : ℕ
  pub appended : Appends old new (take count bytes)

abbrev pub all_receives : List Exchange → List Receive
all_receives exchanges = flat_map (λ x. x.receives) exchanges

module _ (c : Config) (turns : ℕ) where
  -- the requests for operations of which these receives were made
  abbrev pub requests_for : List (List Receive) → List Bytes
  requests_for receives = requests c.secret 1 c.ops receives

  -- the first operations were answered, in order
  abbrev pub Answered : List Exchange → Type 0
  Answered exchanges = AreAnswered c.shape c.secret turns (no_hearing c.shape) exchanges

  -- All operations were answered, and all results are written. What is sent are the requests, and STOP three times.
  pub record AsksAll (old new : Wire) (written written' : Option Bytes) : Type 0 where
    pub exchanges : List Exchange
    pub answered : Answered exchanges
    pub all : length exchanges ≡ length c.ops
    pub received : new.received ≡ with_more old.received (all_receives exchanges)
    pub sent : new.sent ≡ with_more old.sent (posts (host_count c.shape) 0 (requests_for (map (λ x. x.receives) exchanges) ++ stops c.secret))
    pub lines : Appends written written' (result_text exchanges)

  -- A first part of these messages was sent, each in turn, and then the STOPs in their rounds, of which some may be missing.
  pub record SendsThenStops (messages : List Bytes) (old new : Option (List (ℕ × Bytes))) : Type 0 where
    pub stop_number : ℕ
    pub unstopped : Option (List (ℕ × Bytes))
    pub in_turn : SendsInTurn messages (host_count c.shape) 0 stop_number old unstopped
    pub stopped : List (ℕ × Bytes)
    pub some : AreSome stopped (posts (host_count c.shape) stop_number (stops c.secret))
    pub sent : new ≡ with_more unstopped stopped

  -- Some operations were answered, and their results are written. The next one was not, in all its receives. So many of the counted replies to
  -- it agree. What is sent are the requests, and STOP three times, as far as the sends did not fail.
  pub record SpendsBudget (seq matching : ℕ) (old new : Wire) (written written' : Option Bytes) : Type 0 where
    pub exchanges : List Exchange
    pub receives : List Receive
    pub stopped : List (ℕ × Bytes)
    pub answered : Answered exchanges
    pub next : length exchanges + 1 ≡ seq
    pub within : seq ≤ length c.ops
    pub spent : length receives ≡ turns
    pub waits : (hears_all c.shape c.secret (asked (hearing_after c.shape c.secret (no_hearing c.shape) exchanges)) receives).asker.waits ≡ true
    pub most : (let replies = (hears_all c.shape c.secret (asked (hearing_after c.shape c.secret (no_hearing c.shape) exchanges)) receives).asker.replies in
        matching ≡ most_agreeing replies replies)
    pub received : new.received ≡ with_more old.received (all_receives exchanges ++ receives)
    pub some : (let sent = requests_for (map (λ x. x.receives) exchanges ++ receives ∷ []) in AreSome stopped (posts (host_count c.shape) (number_after 0 sent) (stops c.secret)))
    pub sent : (let sent = requests_for (map (λ x. x.receives) exchanges ++ receives ∷ []) in new.sent ≡ with_more old.sent (posts (host_count c.shape) 0 sent ++ stopped))
    pub lines : Appends written written' (result_text exchanges)

  -- Some operations were answered, and their results are written. The next one, if it was asked, was not answered yet. What is sent is a first part of
  -- the requests, each in turn, and then STOPs.
  pub record IsBroken (old new : Wire) (written written' : Option Bytes) : Type 0 where
    pub exchanges : List Exchange
    pub receives : List Receive
    pub answered : Answered exchanges
    pub few : length receives ≤ turns
    pub waits : (hears_all c.shape c.secret (asked (hearing_after c.shape c.secret (no_hearing c.shape) exchanges)) receives).asker.waits ≡ true
    pub received : new.received ≡ with_more old.received (all_receives exchanges ++ receives)
    pub sends : SendsThenStops (requests_for (map (λ x. x.receives) exchanges ++ receives ∷ [])) old.sent new.sent
    pub lines : Appends written written' (result_text exchanges)

  -- Some operations were answered, and of their results a first part is written. There may be receives for one more. What is sent is a first part of the
  -- requests, each in turn, and then STOPs.
  pub record IsCutOff (old new : Wire) (written written' : Option Bytes) : Type 0 where
    pub exchanges : List Exchange
    pub receives : List Receive
    pub answered : Answered exchanges
    pub few : length receives ≤ turns
    pub received : new.received ≡ with_more old.received (all_receives exchanges ++ receives)
    pub sends : SendsThenStops (requests_for (map (λ x. x.receives) exchanges ++ receives ∷ [])) old.sent new.sent
    pub lines : AppendsFront (result_text exchanges) written written'

  -- Nothing was asked, and nothing is written. What is sent are STOPs.
  pub record AsksNone (old new : Wire) (written written' : Option Bytes) : Type 0 where
    pub received : new.received ≡ old.received
    pub stopped : List (ℕ × Bytes)
    pub some : AreSome stopped (posts (host_count c.shape) 0 (stops c.secret))
    pub sent : new.sent ≡ with_more old.sent stopped
    pub kept : written' ≡ written

  -- What comes of a run: `written` and `written'` are what the sink tells before and after it. Where the spawner failed a start did, before anything was asked,
  -- or a wait, behind all.
  abbrev pub Asks : Result (Unit {0}) ClusterStop → Wire → Wire → Option Bytes → Option Bytes → Type 0
  Asks (Ok done) old new written written' = AsksAll old new written written'
  Asks (Err (ChildEnded host status)) old new written written' = AsksAll old new written written'
  Asks (Err (Budget seq matching)) old new written written' = SpendsBudget seq matching old new written written'
  Asks (Err LinkFault) old new written written' = IsBroken old new written written'
  Asks (Err SpawnFault) old new written written' = AsksNone old new written written' ⊎ AsksAll old new written written'
  Asks (Err SinkFault) old new written written' = IsCutOff old new written written'
  Asks (Err NoMemory) old new written written' = IsCutOff old new written written'

-- the link was opened once, at the config's port, as the client program
abbrev pub OpensOnce : Config → Option (List (ℕ × ℕ)) → Option (List (ℕ × ℕ)) → Type 0
OpensOnce c old new = new ≡ with_more old ((c.port, program) ∷ [])

-- It was, or not at all where it failed or memory ran out.
abbrev pub Opens : Config → Result (Unit {0}) ClusterStop → Option (List (ℕ × ℕ)) → Option (List (ℕ × ℕ)) → Type 0
Opens c (Ok done) old new = OpensOnce c old new
Opens c (Err (ChildEnded host status)) old new = OpensOnce c old new
Opens c (Err (Budget seq matching)) old new = OpensOnce c old new
Opens c (Err SpawnFault) old new = OpensOnce c old new
Opens c (Err SinkFault) old new = OpensOnce c old new
Opens c (Err LinkFault) old new = (new ≡ old) ⊎ OpensOnce c old new
Opens c (Err NoMemory) old new = (new ≡ old) ⊎ OpensOnce c old new
