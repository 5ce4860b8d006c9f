-- A node between two receives, and what one receive leads to.
use Rattle.std.specs.Prelude.{◌≡◌, ◌%◌, ◌^◌, ◌≤◌, ◌++◌, Bool, true, false, [], ◌∷◌, length, if◌then◌else◌, Option, Some, None, Result, Ok, Err}
use Rattle.std.specs.List.{AllByRecursion}
use Rattle.mb_base.specs.Shapes.{Bytes, host_count}
use Rattle.mb_service.specs.Machine.{ServiceMachine}
use Rattle.mb_msg.specs.declared.event.Event.{Event}
use Rattle.mb_msg.specs.declared.event.Event.TheVariants as event
use Rattle.mb_model.specs.Histories.{History, Identity}
use Rattle.mb_edge.specs.Seen.{Device, LinkState}
use Rattle.mb_edge.specs.Told.{with_more}
use Rattle.mb_core.specs.declared.replica.Replica.{Replica}
use Rattle.mb_replica.specs.Represents.{Serves}
use Rattle.mb_node.specs.declared.node.Node.{Node}
use Rattle.mb_node.specs.declared.receiving.Arrival.{Arrival}
use Rattle.mb_node.specs.declared.receiving.Arrival.TheVariants as arrival
use Rattle.mb_node.specs.declared.stops.ServeStop.{ServeStop}
use Rattle.mb_node.specs.declared.stops.ServeStop.TheVariants as stop
use Rattle.mb_node.specs.Receives.{Receives, ReceiveFits}
use Rattle.mb_node.specs.Inboxes.{HasReceived}
use Rattle.mb_node.specs.Events.{patience, has_stop, events}
use Rattle.mb_node.specs.Recording.{sent_of}
use Rattle.mb_node.specs.Outside.{Outside, outside}
use Rattle.mb_node.specs.Serving.{AreDone, AreCutOff, EndsByStop, StandsBehind}

-- the event of an arrival, where a quiet is the last that the host bears, or not
abbrev pub event_of : Bool → Arrival → Option Event
event_of spent (arrival.Message m) = Some (event.Given m)
event_of spent arrival.Nothing = None
event_of spent arrival.Quiet = Some (if spent then event.Patience else event.Nudge)

module _ {V : Type 0} where
  -- A node stands behind these receives: their events are whole, with what they wrote and sent since the start.
  pub record IsServing (me : Identity V) (start : History) (before : Outside) (receives : Receives) (now : Outside) (node : Node) (r : Replica V) : Type 0 where
    pub done : AreDone me start before now (events me start receives)
    pub stands : StandsBehind me start r (events me start receives)
    pub inbox : HasReceived me.shape receives node.receiver.inbox
    pub counted : node.patience ≡ patience me start (events me start receives)
    pub hosts : node.outbox.hosts ≡ host_count me.shape
    pub host : node.outbox.host ≡ me.host
    pub number : node.outbox.number ≡ length (sent_of me start (events me start receives)) % 2 ^ 32

  -- behind one receive more: whether its event was a right STOP
  abbrev pub Goes : (me : Identity V) (start : History) → Outside → Receives → Outside → Node → Replica V → Bool → Type 0
  Goes me start before receives now node r true = AreDone me start before now (events me start receives) × EndsByStop me start receives × StandsBehind me start r (events me start receives)
  Goes me start before receives now node r false = IsServing me start before receives now node r × (has_stop me start (events me start receives) ≡ false)

  -- one receive more, whatever the node stood for
  pub record GoesOn (machine : ServiceMachine V) (old now : Node) (r_old r_now : Replica V) (told_before told_now : Option Receives) (here there : Outside) (stopped : Bool) : Type 0 where
    pub one : Option Bytes
    pub told : told_now ≡ with_more told_before (one ∷ [])
    pub of_bytes : ReceiveFits one
    pub goes : (me : Identity V) (start : History) (before : Outside) (receives : Receives) → Serves machine me → IsServing me start before receives here old r_old → has_stop me start (events me start receives) ≡ false
        → Goes me start before (one ∷ receives) there now r_now stopped

  -- It stopped on the way, behind one receive more or none.
  pub record IsStopped (machine : ServiceMachine V) (old : Node) (r_old r_now : Replica V) (told_before told_now : Option Receives) (here there : Outside) : Type 0 where
    pub more : Receives
    pub told : told_now ≡ with_more told_before more
    pub few : length more ≤ 1
    pub of_bytes : AllByRecursion ReceiveFits more
    pub cut : (me : Identity V) (start : History) (before : Outside) (receives : Receives) → Serves machine me → IsServing me start before receives here old r_old → has_stop me start (events me start receives) ≡ false
        → AreCutOff me start before there r_now.halted (events me start (more ++ receives))

  abbrev pub Rounds : ServiceMachine V → Node → Node → Replica V → Replica V → Option Receives → Option Receives → Outside → Outside → Result Bool ServeStop → Type 0
  Rounds machine old now r_old r_now told_before told_now here there (Ok stopped) = GoesOn machine old now r_old r_now told_before told_now here there stopped
  Rounds machine old now r_old r_now told_before told_now here there (Err (stop.Budget n)) = ⊥
  Rounds machine old now r_old r_now told_before told_now here there (Err e) = IsStopped machine old r_old r_now told_before told_now here there

-- ---- of devices

abbrev pub RoundsOver : {V : Type 0} → ServiceMachine V → Node → Node → Replica V → Replica V → LinkState → LinkState → Device → Device → Result Bool ServeStop → Type 0
RoundsOver machine old now r_old r_now link link' sink sink' result = Rounds machine old now r_old r_now link.received link'.received (outside sink link) (outside sink' link') result
