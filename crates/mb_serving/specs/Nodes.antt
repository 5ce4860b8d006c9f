-- What a node does with a config: its link, its record, and how it ends.
use Rattle.std.specs.Prelude.{◌≡◌, ℕ, ◌≤◌, ◌<◌, Bool, false, List, [], ◌∷◌, ◌++◌, length, reverse, Option, Result, Ok, Err, ◌⊎◌}
use Rattle.std.specs.List.{AllByRecursion}
use Rattle.std.specs.Io.KnownBytes.{Appends}
use Rattle.mb_base.specs.Shapes.{Bytes, host_count}
use Rattle.mb_edge.specs.Faults.{Rose}
use Rattle.mb_edge.specs.Pieces.{AppendsPart}
use Rattle.mb_edge.specs.Told.{with_more}
use Rattle.mb_msg.specs.declared.event.Event.{Event}
use Rattle.mb_node.specs.declared.stops.ServeStop.{ServeStop}
use Rattle.mb_node.specs.declared.stops.ServeStop.TheVariants as stop
use Rattle.mb_node.specs.Receives.{Receives, ReceiveFits}
use Rattle.mb_node.specs.Events.{has_stop, events}
use Rattle.mb_node.specs.Recording.{lines_of}
use Rattle.mb_node.specs.Outside.{outside, Adds}
use Rattle.mb_node.specs.Serving.{datagrams_of, AreCutOff, EndsByStop}
use Rattle.mb_sched.specs.declared.configs.Config.{Config}
use Rattle.mb_sched.specs.Records.{record_head}
use Rattle.mb_answer.specs.Clusters.{IsUnbroken}
use Rattle.mb_answer.specs.Configs.{IsConfigText, Uses}
use Rattle.mb_edge.specs.Seen.{Device, LinkState}
use Rattle.mb_answer.specs.Devices.{Says}
use Rattle.mb_serving.specs.Records.{host_of}
use Rattle.mb_answer.specs.Texts.{usage_text}

-- the status of how serving ended
abbrev pub served_status : Result (Unit {0}) ServeStop → ℕ
served_status (Ok _) = 0
served_status (Err (stop.Budget n)) = 9
served_status (Err stop.LinkFault) = 7
served_status (Err stop.SinkFault) = 6
served_status (Err stop.DiskFault) = 14
served_status (Err (stop.Full length)) = 15
served_status (Err stop.NoMemory) = 4

-- a device failed, or memory ran out
abbrev pub Fails : ℕ → ℕ → ℕ → ℕ → Type 0
Fails fault status before now = ((status ≡ fault) × Rose before now) ⊎ (status ≡ 4)

-- a host of a config
module _ (c : Config) (host : ℕ) where
  -- The link was opened once, at the config's port under the host's number, and then these were received, each datagram of bytes.
  pub record HasListened (before after : LinkState) (receives : Receives) : Type 0 where
    pub opens : after.opens ≡ with_more before.opens ((c.port, host) ∷ [])
    pub received : after.received ≡ with_more before.received (reverse receives)
    pub of_bytes : AllByRecursion ReceiveFits receives

  abbrev pub events_of : Receives → List Event
  events_of receives = events (host_of c host) [] receives

  -- The whole record of these events was written, and all that they send was sent.
  abbrev pub IsWhole : Device → Device → LinkState → LinkState → List Event → Type 0
  IsWhole sink sink' before after es = Adds (outside sink before) (outside sink' after) (record_head c host ++ lines_of (host_of c host) [] es) (datagrams_of (host_of c host) [] es)

  -- Behind the record's first lines serving stopped on the way.
  pub record IsCutShort (sink sink' : Device) (before after : LinkState) (es : List Event) : Type 0 where
    pub halted : Bool
    pub begun : Option Bytes
    pub head : Appends sink.bytes begun (record_head c host)
    pub part : AreCutOff (host_of c host) [] (record { written = begun; sent = before.sent }) (outside sink' after) halted es

  -- It failed before the first receive: while these first lines of the record were written, or before the link was open.
  pub data IsUnbegun (head : Bytes) (status : ℕ) (sink sink' : Device) (before after : LinkState) : Type 0 where
    headless : Fails 6 status sink.faults sink'.faults → HasListened before after [] → after.sent ≡ before.sent → AppendsPart head sink.bytes sink'.bytes → IsUnbegun head status sink sink' before after
    unopened : Fails 7 status before.faults after.faults → sink ≡ sink' → after.opens ≡ before.opens → after.received ≡ before.received → after.sent ≡ before.sent → IsUnbegun head status sink sink' before after

  -- With so many receives at most, serving ends by a right STOP, or behind all receives, or on the way. It may also fail before.
  pub data Serves (budget status : ℕ) (sink sink' : Device) (before after : LinkState) : Type 0 where
    stopped : (receives : Receives) → status ≡ 0 → HasListened before after receives → IsWhole sink sink' before after (events_of receives) → EndsByStop (host_of c host) [] receives → length receives ≤ budget
        → Serves budget status sink sink' before after
    exhausted : (receives : Receives) → status ≡ 9 → HasListened before after receives → IsWhole sink sink' before after (events_of receives) → has_stop (host_of c host) [] (events_of receives) ≡ false
        → length receives ≡ budget → Serves budget status sink sink' before after
    cut_short : (receives : Receives) → Fails 7 status before.faults after.faults ⊎ Fails 6 status sink.faults sink'.faults → HasListened before after receives → IsCutShort sink sink' before after (events_of receives)
        → length receives ≤ budget → Serves budget status sink sink' before after
    unbegun : IsUnbegun (record_head c host) status sink sink' before after → Serves budget status sink sink' before after

-- what comes of beginning a record by these bytes: an open link and the bytes, or an end before any receive
abbrev pub Begins : Config → ℕ → Bytes → Result (Unit {0}) ServeStop → Device → Device → LinkState → LinkState → Type 0
Begins c host head (Ok done) sink sink' before after = HasListened c host before after [] × (after.sent ≡ before.sent) × Appends sink.bytes sink'.bytes head
Begins c host head (Err e) sink sink' before after = IsUnbegun c host head (served_status (Err e)) sink sink' before after

-- A host of the config's system serves, or the system has none of this number.
pub data HostServes (c : Config) (host budget status : ℕ) (sink sink' : Device) (before after : LinkState) : Type 0 where
  serves : host < host_count c.shape → Serves c host budget status sink sink' before after → HostServes c host budget status sink sink' before after
  no_host : host_count c.shape ≤ host → Says 1 usage_text status sink sink' → before ≡ after → HostServes c host budget status sink sink' before after

-- what a node does with a text
abbrev pub Nodes : Bytes → ℕ → ℕ → ℕ → Device → Device → Device → Device → LinkState → LinkState → Type 0
Nodes text host budget status source source' sink sink' before after = Uses text (λ c. HostServes c host budget status sink sink' before after) (before ≡ after) status source source' sink sink'

-- the statuses of a node that has a config
abbrev pub serving_statuses : List ℕ
serving_statuses = 0 ∷ 1 ∷ 4 ∷ 6 ∷ 7 ∷ 9 ∷ []

abbrev pub IsNodeStatus : ℕ → Type 0
IsNodeStatus status = (status < 5) ⊎ ((status ≡ 6) ⊎ ((status ≡ 7) ⊎ (status ≡ 9)))

-- those of the word `node`, which may have no config
abbrev pub node_statuses : List ℕ
node_statuses = 0 ∷ 1 ∷ 2 ∷ 4 ∷ 5 ∷ 6 ∷ 7 ∷ 9 ∷ []

-- By the text of a config a host of its system serves, unless memory runs out or a device fails.
abbrev pub IsServed : Bytes → ℕ → ℕ → Type 0 → Type 0
IsServed text host status fault = (c : Config) → IsConfigText text c → host < host_count c.shape → ¬ fault → IsUnbroken status
