-- What serving says of a node, and which statuses it can have.
use Rattle.std.proofs.Common.{◌≡◌, ℕ, ◌≤◌, ◌<◌, List, [], reverse, Option, Ok, Err, refl, sym, ap, subst, ◌∙◌, arith, ◌⊎◌, inl, inr}
use Rattle.std.specs.Prelude.{Contains, Result, IsErrOf, IfErr}
use Rattle.std.specs.List.{AllByRecursion}
use Rattle.std.specs.Io.KnownBytes.{Appends}
use Rattle.mb_answer.proofs.ConfigLaws.{same_config, lacks_none}
use Rattle.mb_answer.specs.Clusters.{IsUnbroken}
use Rattle.mb_answer.specs.Configs.{used, unused, lack_statuses}
use Rattle.mb_answer.proofs.Contained.{any_of}
use Rattle.mb_edge.specs.Seen.{Device, LinkState}
use Rattle.mb_base.specs.Shapes.{Bytes, host_count}
use Rattle.mb_replica.specs.Represents as Represented
use Rattle.mb_core.specs.declared.replica.Replica.{Replica}
use Rattle.mb_edge.specs.Faults.{Rose}
use Rattle.mb_edge.specs.Told.{with_more}
use Rattle.mb_edge.specs.declared.outside.Failed.{Failed}
use Rattle.mb_edge.specs.declared.outside.Failed.TheVariants as failed
use Rattle.mb_edge.specs.declared.writing.WriteStop.{WriteStop}
use Rattle.mb_edge.specs.declared.writing.WriteStop.TheVariants as writing
use Rattle.mb_edge.specs.Pieces.{AppendsPart}
use Rattle.mb_edge.proofs.ToldLemmas.{with_more-nil}
use Rattle.mb_edge.proofs.PieceLemmas.{appended_both}
use Rattle.mb_kv.specs.Laws.StateLaws.{no_keys_is_state}
use Rattle.mb_kv.specs.Machine.{kv_machine}
use Rattle.mb_kv.specs.Pairs.{Pairs}
use Rattle.mb_msg.specs.declared.event.Event.{Event}
use Rattle.mb_node.specs.declared.stops.ServeStop.{ServeStop}
use Rattle.mb_node.specs.declared.stops.ServeStop.TheVariants as stop
use Rattle.mb_node.specs.Stops.{link_stop, sink_stop, IsOfDisk}
use Rattle.mb_node.specs.Receives.{Receives, ReceiveFits}
use Rattle.mb_node.specs.Sends.{Sends}
use Rattle.mb_node.specs.Outside.{Outside, outside}
use Rattle.mb_node.specs.Serving.{AreDone, AreCutOff, Ends}
use Rattle.mb_node.specs.Recording.{lines_of}
use Rattle.mb_sched.specs.declared.configs.Config.{Config}
use Rattle.mb_sched.specs.Records.{record_head}
use Rattle.mb_serving.specs.Nodes.{served_status, Fails, Begins, HasListened, events_of, IsWhole, IsServed, IsCutShort, IsUnbegun, headless, unopened, Serves, stopped, exhausted, cut_short, unbegun, HostServes, serves, no_host, Nodes, IsNodeStatus, serving_statuses, node_statuses}
use Rattle.mb_serving.specs.Records.{host_of}

module _ (c : Config) (host budget : ℕ) (sink sink' : Device) (link link' : LinkState) (begun : Option Bytes) (head : Appends sink.bytes begun (record_head c host)) (receives : Receives) (heard : HasListened c host link link' receives) where
  -- behind the record's first lines
  abbrev behind : Outside
  behind = record { written = begun; sent = link.sent }

  done : (es : List Event) → AreDone (host_of c host) [] behind (outside sink' link') es → IsWhole c host sink sink' link link' es
  done es adds = record { written = appended_both sink.bytes begun sink'.bytes (record_head c host) (lines_of (host_of c host) [] es) head adds.written; sent = adds.sent }

  cut : (r : Replica Pairs) → AreCutOff (host_of c host) [] behind (outside sink' link') r.halted (events_of c host receives) → IsCutShort c host sink sink' link link' (events_of c host receives)
  cut r part = record { halted = r.halted; begun = begun; head = head; part = part }

  pub node_serves : (r : Replica Pairs) (ended : Result (Unit {0}) ServeStop) → Ends (host_of c host) [] budget behind (outside sink' link') r receives ended
      → (IsErrOf ended stop.LinkFault → Rose link.faults link'.faults) → (IsErrOf ended stop.SinkFault → Rose sink.faults sink'.faults) → IfErr ended (λ s. ¬ IsOfDisk s) → Serves c host budget (served_status ended) sink sink' link link'
  node_serves r (Ok u) e rose_link rose_sink alone = stopped receives refl heard (done (events_of c host receives) e.0) e.1 e.3
  node_serves r (Err (stop.Budget n)) e rose_link rose_sink alone = exhausted receives refl heard (done (events_of c host receives) e.0) e.1 e.4
  node_serves r (Err stop.LinkFault) e rose_link rose_sink alone = cut_short receives (inl (inl (refl, rose_link refl))) heard (cut r e.0) e.1
  node_serves r (Err stop.SinkFault) e rose_link rose_sink alone = cut_short receives (inr (inl (refl, rose_sink refl))) heard (cut r e.0) e.1
  node_serves r (Err stop.DiskFault) e rose_link rose_sink alone = absurd (alone tt)
  node_serves r (Err (stop.Full length)) e rose_link rose_sink alone = absurd (alone tt)
  node_serves r (Err stop.NoMemory) e rose_link rose_sink alone = cut_short receives (inr (inr refl)) heard (cut r e.0) e.1

  -- ... where the link had sent as much before
  pub node_serves_from : (sent : Option Sends) → sent ≡ link.sent → (r : Replica Pairs) (ended : Result (Unit {0}) ServeStop) → Ends (host_of c host) [] budget (record { written = begun; sent = sent }) (outside sink' link') r receives ended
      → (IsErrOf ended stop.LinkFault → Rose link.faults link'.faults) → (IsErrOf ended stop.SinkFault → Rose sink.faults sink'.faults) → IfErr ended (λ s. ¬ IsOfDisk s) → Serves c host budget (served_status ended) sink sink' link link'
  node_serves_from sent same r ended e rose_link rose_sink alone =
      node_serves r ended (subst (λ (s : Option Sends). Ends (host_of c host) [] budget (record { written = begun; sent = s }) (outside sink' link') r receives ended) same e) rose_link rose_sink alone

-- ---- beginning

module _ (c : Config) (host : ℕ) (r : Result (Unit {0}) ServeStop) (e : ServeStop) (is : r ≡ Err e) where
  as_begun : (sink sink' : Device) (before after : LinkState) → IsUnbegun c host (record_head c host) (served_status (Err e)) sink sink' before after → Begins c host (record_head c host) r sink sink' before after
  as_begun sink sink' before after all = subst (λ (x : Result (Unit {0}) ServeStop). Begins c host (record_head c host) x sink sink' before after) (sym is) all

  pub begins_starved : e ≡ stop.NoMemory → (sink : Device) (l : LinkState) → Begins c host (record_head c host) r sink sink l l
  begins_starved same sink l = as_begun sink sink l l (rw same (unopened (inr refl) refl refl refl refl))

  pub begins_unopened : (cause : Failed) → e ≡ link_stop cause → (sink : Device) (before after : LinkState) → (cause ≡ failed.Device → Rose before.faults after.faults) → after.opens ≡ before.opens → after.received ≡ before.received
      → after.sent ≡ before.sent → Begins c host (record_head c host) r sink sink before after
  begins_unopened failed.Device same sink before after rose opens received sent = as_begun sink sink before after (rw same (unopened (inl (refl, rose refl)) refl opens received sent))
  begins_unopened failed.NoMemory same sink before after rose opens received sent = as_begun sink sink before after (rw same (unopened (inr refl) refl opens received sent))

  pub begins_headless : (cause : WriteStop) → e ≡ sink_stop cause → (sink sink' : Device) (before after : LinkState) → (cause ≡ writing.Fault → Rose sink.faults sink'.faults) → HasListened c host before after [] → after.sent ≡ before.sent
      → AppendsPart (record_head c host) sink.bytes sink'.bytes → Begins c host (record_head c host) r sink sink' before after
  begins_headless writing.Fault same sink sink' before after rose heard sent part = as_begun sink sink' before after (rw same (headless (inl (refl, rose refl)) heard sent part))
  begins_headless writing.NoMemory same sink sink' before after rose heard sent part = as_begun sink sink' before after (rw same (headless (inr refl) heard sent part))

  -- Where beginning failed nothing was served.
  pub fails_to_begin : (q : Result (Unit {0}) ServeStop) → q ≡ Err e → (budget : ℕ) (sink sink' : Device) (before after : LinkState) → Begins c host (record_head c host) r sink sink' before after → Serves c host budget (served_status q) sink sink' before after
  fails_to_begin q same budget sink sink' before after begins =
      let begun : IsUnbegun c host (record_head c host) (served_status (Err e)) sink sink' before after = subst (λ (x : Result (Unit {0}) ServeStop). Begins c host (record_head c host) x sink sink' before after) is begins in
      rw same (unbegun begun)

pub starved_node : (c : Config) (host budget : ℕ) (r : Result (Unit {0}) ServeStop) (e : ServeStop) → r ≡ Err e → e ≡ stop.NoMemory → (sink : Device) (l : LinkState) → Serves c host budget (served_status r) sink sink l l
starved_node c host budget r e is same sink l = rw (is, same) (unbegun (unopened (inr refl) refl refl refl refl))

-- a first part of the record's first lines, as they were printed
pub part_of_head : (c : Config) (host : ℕ) (text : Bytes) (old new : Option Bytes) → text ≡ record_head c host → AppendsPart text old new → AppendsPart (record_head c host) old new
part_of_head c host text old new same part = subst (λ (t : Bytes). AppendsPart t old new) same part

pub whole_head : (c : Config) (host : ℕ) (text : Bytes) (old new : Option Bytes) → text ≡ record_head c host → Appends old new text → Appends old new (record_head c host)
whole_head c host text old new same all = subst (λ (t : Bytes). Appends old new t) same all

pub kv_serves : (c : Config) (host : ℕ) → Represented.Serves kv_machine (host_of c host)
kv_serves c host = record { machine = refl; snapshots = refl; first = no_keys_is_state }

-- ---- serving behind that

-- The link was opened before, and then these were received.
pub heard_behind : (c : Config) (host : ℕ) (before middle after : LinkState) (receives : Receives) → HasListened c host before middle [] → after.opens ≡ middle.opens → after.received ≡ with_more middle.received (reverse receives)
    → AllByRecursion ReceiveFits receives → HasListened c host before after receives
heard_behind c host before middle after receives heard opens received of_bytes = record {
  opens = opens ∙ heard.opens;
  received = received ∙ ap (λ (told : Option Receives). with_more told (reverse receives)) (heard.received ∙ with_more-nil before.received);
  of_bytes = of_bytes;
}

-- ---- a node

fails_not : (fault status before now : ℕ) → ¬ Rose before now → Fails fault status before now → status ≡ 4
fails_not fault status before now calm (inl failed) = absurd (calm failed.1)
fails_not fault status before now calm (inr four) = four

either_not : (status a b c d : ℕ) → ¬ Rose a b → ¬ Rose c d → Fails 7 status a b ⊎ Fails 6 status c d → status ≡ 4
either_not status a b c d calm well (inl f) = fails_not 7 status a b calm f
either_not status a b c d calm well (inr f) = fails_not 6 status c d well f

serves_on : (c : Config) (host budget status : ℕ) (sink sink' : Device) (before after : LinkState) → ¬ Rose sink.faults sink'.faults → ¬ Rose before.faults after.faults → Serves c host budget status sink sink' before after → IsUnbroken status
serves_on c host budget status sink sink' before after well calm (stopped receives zero heard served ends few) = inl zero
serves_on c host budget status sink sink' before after well calm (exhausted receives nine heard served none all) = inr (inr nine)
serves_on c host budget status sink sink' before after well calm (cut_short receives fails heard cut few) = inr (inl (either_not status before.faults after.faults sink.faults sink'.faults calm well fails))
serves_on c host budget status sink sink' before after well calm (unbegun (headless fails heard same part)) = inr (inl (fails_not 6 status sink.faults sink'.faults well fails))
serves_on c host budget status sink sink' before after well calm (unbegun (unopened fails same opens received sent)) = inr (inl (fails_not 7 status before.faults after.faults calm fails))

host_serves_on : (c d : Config) (host budget status : ℕ) (sink sink' : Device) (before after : LinkState) → d ≡ c → host < host_count c.shape → ¬ Rose sink.faults sink'.faults → ¬ Rose before.faults after.faults
    → HostServes d host budget status sink sink' before after → IsUnbroken status
host_serves_on c d host budget status sink sink' before after same has well calm (serves below is) = serves_on d host budget status sink sink' before after well calm is
host_serves_on c d host budget status sink sink' before after same has well calm (no_host beyond says idle) =
    let far : host_count c.shape ≤ host = subst (λ (x : Config). host_count x.shape ≤ host) same beyond in absurd (omega (arith, far, has))

pub node_completes : (text : Bytes) (host budget status : ℕ) (source source' sink sink' : Device) (before after : LinkState) → Nodes text host budget status source source' sink sink' before after
    → IsServed text host status (Rose source.faults source'.faults ⊎ (Rose sink.faults sink'.faults ⊎ Rose before.faults after.faults))
node_completes text host budget status source source' sink sink' before after (used d is served) c reads has calm =
    host_serves_on c d host budget status sink sink' before after (same_config text d c is reads) has (λ rose. calm (inr (inl rose))) (λ rose. calm (inr (inr rose))) served
node_completes text host budget status source source' sink sink' before after (unused lacks idle) c reads has calm =
    inr (inl (lacks_none text c status source source' sink sink' reads (λ rose. calm (inl rose)) (λ rose. calm (inr (inl rose))) lacks))

-- ---- statuses

pub served_known : (ended : Result (Unit {0}) ServeStop) → IfErr ended (λ s. ¬ IsOfDisk s) → IsNodeStatus (served_status ended)
served_known (Ok done) alone = inl (omega arith)
served_known (Err (stop.Budget n)) alone = inr (inr (inr refl))
served_known (Err stop.LinkFault) alone = inr (inr (inl refl))
served_known (Err stop.SinkFault) alone = inr (inl refl)
served_known (Err stop.DiskFault) alone = absurd (alone tt)
served_known (Err (stop.Full length)) alone = absurd (alone tt)
served_known (Err stop.NoMemory) alone = inl (omega arith)

served_in : (ended : Result (Unit {0}) ServeStop) → IfErr ended (λ s. ¬ IsOfDisk s) → Contains serving_statuses (served_status ended)
served_in (Ok done) alone = (0, omega arith, refl)
served_in (Err (stop.Budget n)) alone = (5, omega arith, refl)
served_in (Err stop.LinkFault) alone = (4, omega arith, refl)
served_in (Err stop.SinkFault) alone = (3, omega arith, refl)
served_in (Err stop.DiskFault) alone = absurd (alone tt)
served_in (Err (stop.Full length)) alone = absurd (alone tt)
served_in (Err stop.NoMemory) alone = (2, omega arith, refl)

pub served_known_as : (ended : Result (Unit {0}) ServeStop) (status : ℕ) → status ≡ served_status ended → IfErr ended (λ s. ¬ IsOfDisk s) → Contains serving_statuses status
served_known_as ended status is alone = subst (Contains serving_statuses) (sym is) (served_in ended alone)

pub serving_known : (status : ℕ) → Contains serving_statuses status → Contains node_statuses status
serving_known status known =
    any_of (Contains node_statuses) serving_statuses status ((0, omega arith, refl), ((1, omega arith, refl), ((3, omega arith, refl), ((5, omega arith, refl), ((6, omega arith, refl), ((7, omega arith, refl), tt)))))) known

pub no_config_known : (status : ℕ) → Contains lack_statuses status → Contains node_statuses status
no_config_known status lack = any_of (Contains node_statuses) lack_statuses status ((2, omega arith, refl), ((3, omega arith, refl), ((4, omega arith, refl), ((5, omega arith, refl), tt)))) lack

pub node_is_not : (status n : ℕ) → IsNodeStatus status → 5 ≤ n → ¬ (n ≡ 6) → ¬ (n ≡ 7) → ¬ (n ≡ 9) → ¬ (status ≡ n)
node_is_not status n (inl low) le six seven nine = λ is. absurd (omega (arith, low, le, is))
node_is_not status n (inr (inl a)) le six seven nine = λ is. six (sym is ∙ a)
node_is_not status n (inr (inr (inl a))) le six seven nine = λ is. seven (sym is ∙ a)
node_is_not status n (inr (inr (inr a))) le six seven nine = λ is. nine (sym is ∙ a)

-- which stop a status comes of
pub link_served : (ended : Result (Unit {0}) ServeStop) (status : ℕ) → status ≡ served_status ended → status ≡ 7 → IsErrOf ended stop.LinkFault
link_served (Ok done) status is seven = absurd (omega (arith, is, seven))
link_served (Err (stop.Budget n)) status is seven = absurd (omega (arith, is, seven))
link_served (Err stop.LinkFault) status is seven = refl
link_served (Err stop.SinkFault) status is seven = absurd (omega (arith, is, seven))
link_served (Err stop.DiskFault) status is seven = absurd (omega (arith, is, seven))
link_served (Err (stop.Full length)) status is seven = absurd (omega (arith, is, seven))
link_served (Err stop.NoMemory) status is seven = absurd (omega (arith, is, seven))

pub sink_served : (ended : Result (Unit {0}) ServeStop) (status : ℕ) → status ≡ served_status ended → status ≡ 6 → IsErrOf ended stop.SinkFault
sink_served (Ok done) status is six = absurd (omega (arith, is, six))
sink_served (Err (stop.Budget n)) status is six = absurd (omega (arith, is, six))
sink_served (Err stop.LinkFault) status is six = absurd (omega (arith, is, six))
sink_served (Err stop.SinkFault) status is six = refl
sink_served (Err stop.DiskFault) status is six = absurd (omega (arith, is, six))
sink_served (Err (stop.Full length)) status is six = absurd (omega (arith, is, six))
sink_served (Err stop.NoMemory) status is six = absurd (omega (arith, is, six))

pub is_node_not : (status : ℕ) → IsNodeStatus status → (¬ (status ≡ 8)) × (¬ (status ≡ 18))
is_node_not status known = (
  node_is_not status 8 known (omega arith) (λ e. absurd (omega (arith, e))) (λ e. absurd (omega (arith, e))) (λ e. absurd (omega (arith, e))),
  node_is_not status 18 known (omega arith) (λ e. absurd (omega (arith, e))) (λ e. absurd (omega (arith, e))) (λ e. absurd (omega (arith, e))),
)

-- What is served from one sink is served from the same by another name.
pub served_from : (c : Config) (host budget status : ℕ) (sink same sink' : Device) (before after : LinkState) → sink ≡ same → HostServes c host budget status sink sink' before after → HostServes c host budget status same sink' before after
served_from c host budget status sink same sink' before after is served = subst (λ (d : Device). HostServes c host budget status d sink' before after) is served

pub serves_as : (c : Config) (number host budget given status : ℕ) (sink sink' : Device) (before after : LinkState) → number ≡ host → status ≡ given → Serves c number budget given sink sink' before after → Serves c host budget status sink sink' before after
serves_as c number host budget given status sink sink' before after same is all = subst (λ (h : ℕ). Serves c h budget status sink sink' before after) same (rw is all)
