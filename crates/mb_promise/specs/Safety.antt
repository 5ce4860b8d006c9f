-- Correct hosts execute beginnings of one list, and clients accept what the service answers there.
use Rattle.std.specs.Prelude.{◌≡◌, ℕ, ◌+◌, ◌≤◌, ◌<◌, ◌⊎◌, true, length, take, slice_get, Some, Contains}
use Rattle.mb_base.specs.Limits.{batch_limit}
use Rattle.mb_base.specs.Shapes.{client_count}
use Rattle.mb_usig.specs.Tags.{request_tag}
use Rattle.mb_msg.specs.declared.event.Placed.{Placed}
use Rattle.mb_msg.specs.declared.event.Slot.{Slot}
use Rattle.mb_msg.specs.declared.normal.Reply.{Reply}
use Rattle.mb_model.specs.Service.{Served, served_each, served_all, start, is_fresh, reply_of}
use Rattle.mb_model.specs.Histories.{Executed}
use Rattle.mb_model.specs.Positions.{exec_of}
use Rattle.mb_model.specs.Execution.{state_of}
use Rattle.mb_world_model.specs.WorldEvents.{IsCorrect, IsCorrectClient}
use Rattle.mb_world_model.specs.World.{World, System, self_of}

module _ {S : Type 0} (system : System S) (w : World) where
  -- the sequential service after the first n slots of the line
  abbrev pub after_line : ℕ → Served S
  after_line n = served_all system.machine (start system.machine system.initial (client_count system.schedule.shape)) (take n w.line)

  -- and after so many requests of the next slot
  abbrev pub after_requests : ℕ → Slot → ℕ → Served S
  after_requests n slot i = served_each system.machine (after_line n) slot.pos (take i slot.requests)

  -- ---- one list

  -- a request of a slot of the line: its mark, its client, its tag, and that a client which is correct asked for it
  pub record IsLineRequest (q : ℕ) (slot : Slot) (i : ℕ) (p : Placed) : Type 0 where
    pub fresh : p.fresh ≡ is_fresh (after_requests q slot i) p.request
    pub client : p.request.client < client_count system.schedule.shape
    pub tag : p.request.tag ≡ request_tag system.schedule.secret p.request.client p.request.seq p.request.op
    pub asked : IsCorrectClient system.schedule p.request.client → Contains w.asked p.request

  -- a slot of the line: its place, how many requests it has, each of them, and that a correct host executed it
  pub record IsLineSlot (q : ℕ) (slot : Slot) : Type 0 where
    pub place : slot.pos ≡ q + 1
    pub count : (1 ≤ length slot.requests) × (length slot.requests ≤ batch_limit)
    pub requests : (i : ℕ) (p : Placed) → slice_get slot.requests i ≡ Some p → IsLineRequest q slot i p
    pub by : (h : ℕ) × IsCorrect system.schedule h × Contains (w.histories h) (Executed slot)

  -- the request at a place of a slot of the line
  pub record IsAt (q i : ℕ) (p : Placed) : Type 0 where
    pub slot : Slot
    pub in_line : slice_get w.line q ≡ Some slot
    pub in_slot : slice_get slot.requests i ≡ Some p

  -- A place stands before another: in an earlier slot, or earlier in the same one.
  abbrev pub IsBefore : ℕ → ℕ → ℕ → ℕ → Type 0
  IsBefore q i r j = (q < r) ⊎ ((q ≡ r) × (i < j))

  -- Each correct host has the state and the client table of the service after a beginning of the line. No request takes effect twice: the
  -- numbers of a client's fresh requests rise, from slot to slot and within a slot.
  pub record IsSafe : Type 0 where
    pub prefix : (h : ℕ) → IsCorrect system.schedule h → exec_of (w.histories h) ≤ length w.line
    pub state : (h : ℕ) → IsCorrect system.schedule h → state_of (self_of system h) (w.histories h) ≡ after_line (exec_of (w.histories h))
    pub slots : (h : ℕ) (slot : Slot) → IsCorrect system.schedule h → Contains (w.histories h) (Executed slot) → (q : ℕ) × (slot.pos ≡ q + 1) × (slice_get w.line q ≡ Some slot)
    pub line : (q : ℕ) (slot : Slot) → slice_get w.line q ≡ Some slot → IsLineSlot q slot
    pub rising : (q i r j : ℕ) (x y : Placed) → IsBefore q i r j → IsAt q i x → IsAt r j y → x.fresh ≡ true → y.fresh ≡ true
        → x.request.client ≡ y.request.client → x.request.seq < y.request.seq

  -- ---- accepted results

  -- A result is the service's: at its position stands the fresh request of the client with this number, as it was asked, and the service
  -- answers so there.
  pub record IsServedResult (c : ℕ) (r : Reply) : Type 0 where
    pub q : ℕ
    pub i : ℕ
    pub place : r.pos ≡ q + 1
    pub slot : Slot
    pub there : slice_get w.line q ≡ Some slot
    pub placed : Placed
    pub within : slice_get slot.requests i ≡ Some placed
    pub fresh : placed.fresh ≡ true
    pub request : (placed.request.client ≡ c) × (placed.request.seq ≡ r.seq)
    pub asked : Contains w.asked placed.request
    pub result : reply_of (after_requests q slot (i + 1)) c ≡ record { seq = r.seq; pos = r.pos; result = r.result }

  -- All results that correct clients accepted are the service's.
  abbrev pub AreServedResults : Type 0
  AreServedResults = (c : ℕ) (r : Reply) → IsCorrectClient system.schedule c → Contains (w.askers c).accepted r → IsServedResult c r
