-- What a host keeps has the values of the grammar: each entry of its history has them, and what it counts stays below the greatest number.
use Rattle.std.specs.Prelude.{◌≡◌, ◌≤◌, ◌<◌, ◌^◌, ◌==◌, false, not, List, ◌∷◌, length, count_by, Ok}
use Rattle.std.specs.List.{AllByRecursion}
use Rattle.mb_base.specs.Limits.{service_parts, other_limit}
use Rattle.mb_base.specs.Shapes.{Bytes, client_count}
use Rattle.mb_base.specs.Spelling.{IsBytes}
use Rattle.mb_base.specs.declared.shape.Shape.{Shape}
use Rattle.mb_parts.specs.declared.floor.Floor.{Floor}
use Rattle.mb_parts.specs.Fits.{IsPlace, IsPosition, FitsText, FitsRequest, FitsBatch, FitsFloor}
use Rattle.mb_msg.specs.declared.message.Message.{Message}
use Rattle.mb_msg.specs.declared.message.Message.TheVariants as message
use Rattle.mb_msg.specs.Fits.{FitsFields, FitsStamped}
use Rattle.mb_model.specs.declared.known.LastReply.{LastReply}
use Rattle.mb_model.specs.Service.{batch_of}
use Rattle.mb_model.specs.Histories.{Entry, Accepted, Stamped, Jumped, Served, Executed, LostPatience, History, Identity, view_of, counter_of}
use Rattle.mb_model.specs.Held.{view_limit}
use Rattle.mb_model.specs.OwnLog.{own_log, is_normal}
use Rattle.mb_model.specs.UsableLogs.{normal_limit}
use Rattle.mb_host_laws.specs.Placed.{IsPlaced}
use Rattle.mb_host_laws.specs.Rests.{Each, Rests}

-- ---- gates

-- Where a gate stands: like a floor, also at the start, where the counter is 0.
pub record FitsGate (f : Floor) : Type 0 where
  pub counter : f.counter < 2 ^ 64
  pub at : IsPlaced f

-- ---- the service and the client table

-- A client's last reply may be sent.
pub record FitsLast (a : LastReply) : Type 0 where
  pub pos : IsPlace a.pos
  pub result : FitsText a.result

-- a client table, one for each client
pub record FitsTable (s : Shape) (table : List LastReply) : Type 0 where
  pub count : length table ≡ client_count s
  pub each : AllByRecursion FitsLast table

-- The service keeps a property of its states in which results are short: operations and parts lead to such states alone.
pub record KeepsStates {S : Type 0} (self : Identity S) (IsState : S → Type 0) : Type 0 where
  pub first : IsState self.initial
  pub stays : (x : S) (op : Bytes) → IsState x → IsState (self.machine.after x op)
  pub short : (x : S) (op : Bytes) → IsState x → FitsText (self.machine.result x op)
  pub restored : (parts : List Bytes) (x : S) → length parts ≡ service_parts → AllByRecursion IsBytes parts → self.snapshots.restored parts ≡ Ok x → IsState x

-- The parts of states that were accepted are bytes.
abbrev pub HasBytes : Entry → History → Type 0
HasBytes (Accepted (message.State m)) d = AllByRecursion IsBytes m.parts
HasBytes e d = Unit {0}

module _ {S : Type 0} (self : Identity S) where
  -- ---- entries

  -- What was accepted, stamped, served and executed has the values of the grammar, and a gate jumps to a floor that has them. Patience is lost in a
  -- view that has a later one.
  abbrev pub HasValues : Entry → History → Type 0
  HasValues (Accepted m) d = FitsFields self.shape m
  HasValues (Stamped m) d = FitsStamped self.shape m
  HasValues (Jumped h floor) d = FitsFloor floor
  HasValues (Served pos placed) d = IsPosition pos × FitsRequest self.shape placed.request
  HasValues (Executed slot) d = IsPosition slot.pos × FitsBatch self.shape (batch_of slot)
  HasValues LostPatience d = (view_of self d == view_limit) ≡ false
  HasValues e d = Unit {0}

  -- It comes of a message that has them.
  abbrev pub ComesOfRead : Entry → History → Type 0
  ComesOfRead e d = Rests self (FitsFields self.shape) (λ (s : Bytes). Unit {0}) (λ (m : Message). Unit {0}) e d

  -- ---- histories

  -- The USIG's counter is a number of 64 bits, and the own log is no longer than what a VIEW_CHANGE shows.
  pub record HasRoom (d : History) : Type 0 where
    pub counter : counter_of d < 2 ^ 64
    pub normal : count_by is_normal (own_log self d) ≤ normal_limit self.shape
    pub others : count_by (λ m. not (is_normal m)) (own_log self d) ≤ other_limit

  -- So it is behind an entry.
  abbrev pub LeavesRoom : Entry → History → Type 0
  LeavesRoom e d = HasRoom (e ∷ d)

  -- Each entry comes of a message that has the values of the grammar, has them itself, and left room.
  pub record AreFit (d : History) : Type 0 where
    pub read : Each ComesOfRead d
    pub values : Each HasValues d
    pub room : Each LeavesRoom d
