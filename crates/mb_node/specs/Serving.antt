-- What a serving node does, as its link and its sink tell it.
use Rattle.std.specs.Prelude.{◌≡◌, ℕ, ◌≤◌, Bool, true, false, List, [], ◌∷◌, ◌++◌, length, reverse, Option, Result, Ok, Err}
use Rattle.std.specs.List.{AllByRecursion}
use Rattle.mb_base.specs.Shapes.{Bytes, host_count}
use Rattle.mb_service.specs.Machine.{ServiceMachine}
use Rattle.mb_msg.specs.declared.event.Event.{Event}
use Rattle.mb_model.specs.Histories.{History, Identity}
use Rattle.mb_steps.specs.Arises.{IsWhole}
use Rattle.mb_edge.specs.Seen.{Device, LinkState}
use Rattle.mb_edge.specs.Told.{with_more}
use Rattle.mb_core.specs.declared.replica.Replica.{Replica}
use Rattle.mb_core.specs.Represents.{Represents}
use Rattle.mb_replica.specs.Represents.{Serves}
use Rattle.mb_node.specs.declared.stops.ServeStop.{ServeStop}
use Rattle.mb_node.specs.declared.stops.ServeStop.TheVariants as stop
use Rattle.mb_node.specs.Receives.{Receives, ReceiveFits}
use Rattle.mb_node.specs.Events.{left_by, has_stop, events}
use Rattle.mb_node.specs.Recording.{lines_at, lines_of, sent_at, sent_of}
use Rattle.mb_node.specs.Sends.{Sends, numbered}
use Rattle.mb_node.specs.Outside.{Outside, Adds, IsPartOf, outside}

module _ {S : Type 0} (self : Identity S) where
  -- ---- one event

  -- what it sends behind so many messages
  abbrev pub datagrams_at : ℕ → History → Event → Sends
  datagrams_at number d e = numbered (host_count self.shape) self.host number (sent_at self d e)

  -- The event is whole: its lines were written, and then its messages sent.
  pub record IsDone (before now : Outside) (number : ℕ) (d : History) (e : Event) : Type 0 where
    pub adds : Adds before now (lines_at self d e) (datagrams_at number d e)

  -- It stopped on the way.
  pub record IsCutOff (before now : Outside) (halted : Bool) (number : ℕ) (d : History) (e : Event) : Type 0 where
    pub text : Bytes
    pub datagrams : Sends
    pub adds : Adds before now text datagrams
    pub part : IsPartOf (lines_at self d e) (datagrams_at number d e) text datagrams
    -- Nothing is written of an event in whose step memory ran out.
    pub halts : halted ≡ true → text ≡ []

  -- ---- all events

  module _ (start : History) where
    -- all that these events send, the first message under number 0
    abbrev pub datagrams_of : List Event → Sends
    datagrams_of es = numbered (host_count self.shape) self.host 0 (sent_of self start es)

    -- These events are whole: their lines were written, and their messages sent.
    abbrev pub AreDone : Outside → Outside → List Event → Type 0
    AreDone before now es = Adds before now (lines_of self start es) (datagrams_of es)

    -- The last event stopped on the way, and those before it are whole.
    pub record AreCutOffAt (before now : Outside) (halted : Bool) (e : Event) (es : List Event) : Type 0 where
      pub text : Bytes
      pub datagrams : Sends
      pub adds : Adds before now (lines_of self start es ++ text) (datagrams_of es ++ datagrams)
      pub part : IsPartOf (lines_at self (left_by self start es) e) (datagrams_at (length (sent_of self start es)) (left_by self start es) e) text datagrams
      pub halts : halted ≡ true → text ≡ []
      pub unstopped : has_stop self start es ≡ false

    abbrev pub AreCutOff : Outside → Outside → Bool → List Event → Type 0
    AreCutOff before now halted [] = AreDone before now []
    AreCutOff before now halted (e ∷ es) = AreCutOffAt before now halted e es

    -- The last receive brought a right STOP, and none before it did.
    abbrev pub EndsByStop : Receives → Type 0
    EndsByStop [] = ⊥
    EndsByStop (one ∷ before) = (has_stop self start (events self start (one ∷ before)) ≡ true) × (has_stop self start (events self start before) ≡ false)

module _ {V : Type 0} where
  -- The host stands where these events lead, and runs.
  pub record StandsBehind (me : Identity V) (start : History) (r : Replica V) (es : List Event) : Type 0 where
    pub represents : Represents me r (left_by me start es)
    pub whole : IsWhole (left_by me start es)
    pub runs : r.halted ≡ false

  -- How serving ends: by a right STOP; by a budget of receives of which none brought a right STOP; or on the way.
  abbrev pub Ends : (me : Identity V) → History → ℕ → Outside → Outside → Replica V → Receives → Result (Unit {0}) ServeStop → Type 0
  Ends me d budget before now r receives (Ok _) = AreDone me d before now (events me d receives) × EndsByStop me d receives × StandsBehind me d r (events me d receives) × (length receives ≤ budget)
  Ends me d budget before now r receives (Err (stop.Budget n)) = AreDone me d before now (events me d receives) × (has_stop me d (events me d receives) ≡ false) × StandsBehind me d r (events me d receives) × (n ≡ budget) × (length receives ≡ budget)
  Ends me d budget before now r receives (Err s) = AreCutOff me d before now r.halted (events me d receives) × (length receives ≤ budget)

  -- There are the receives that the link tells, and serving did what they mean, whatever history the host stood for.
  pub record HasServed (machine : ServiceMachine V) (old new : Replica V) (budget : ℕ) (told_before told_now : Option Receives) (before now : Outside) (ended : Result (Unit {0}) ServeStop) : Type 0 where
    pub receives : Receives
    pub told : told_now ≡ with_more told_before (reverse receives)
    pub of_bytes : AllByRecursion ReceiveFits receives
    pub ends : (me : Identity V) (d : History) → Serves machine me → Represents me old d → IsWhole d → Ends me d budget before now new receives ended

-- ---- of devices

abbrev pub ServesOver : {V : Type 0} → ServiceMachine V → Replica V → Replica V → ℕ → LinkState → LinkState → Device → Device → Result (Unit {0}) ServeStop → Type 0
ServesOver machine old new budget link link' sink sink' ended = HasServed machine old new budget link.received link'.received (outside sink link) (outside sink' link') ended
