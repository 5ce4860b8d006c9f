-- What the service does for its clients, in words of its machine and of the line alone: the operations of fresh requests take effect one after the other,
-- in the order of the line, and each is answered with the machine's result on the state before it.
use Rattle.std.specs.Prelude.{◌≡◌, ℕ, ◌+◌, ◌≤◌, ◌<◌, ◌⊎◌, true, false, List, [], ◌∷◌, ◌++◌, length, take, slice_get, if◌then◌else◌, Some, Contains}
use Rattle.mb_base.specs.Shapes.{Bytes, client_count}
use Rattle.mb_msg.specs.declared.event.Placed.{Placed}
use Rattle.mb_msg.specs.declared.event.Slot.{Slot}
use Rattle.mb_msg.specs.declared.normal.Reply.{Reply}
use Rattle.mb_model.specs.declared.known.LastReply.{LastReply}
use Rattle.mb_model.specs.Service.{no_reply, reply_of}
use Rattle.mb_model.specs.Positions.{exec_of}
use Rattle.mb_model.specs.Execution.{state_of}
use Rattle.mb_schedule.specs.Limits.{IsSchedule}
use Rattle.mb_world_model.specs.Hashed.{HashesApart}
use Rattle.mb_promise.specs.Headline.{state_after, IsService}
use Rattle.mb_world_model.specs.WorldEvents.{IsCorrect, IsCorrectClient}
use Rattle.mb_world_model.specs.World.{World, System, self_of}
use Rattle.mb_world_model.specs.WorldSteps.{world}
use Rattle.mb_world_model.specs.Stops.{IsUnstopped}
use Rattle.mb_promise.specs.Safety.{IsAt, IsBefore}

-- the operations of the requests that took effect
unfoldable pub operations : List Placed → List Bytes
operations [] = []
operations (p ∷ ps) = if p.fresh then p.request.op ∷ operations ps else operations ps

-- those of all these slots
unfoldable pub line_operations : List Slot → List Bytes
line_operations [] = []
line_operations (slot ∷ slots) = operations slot.requests ++ line_operations slots

module _ {S : Type 0} (system : System S) (w : World) where
  -- where the machine stands after the first n slots of the line
  abbrev pub state_at : ℕ → S
  state_at n = state_after system.machine system.initial (line_operations (take n w.line))

  -- and before the request at a place of the next slot
  abbrev pub state_before : ℕ → Slot → ℕ → S
  state_before n slot i = state_after system.machine (state_at n) (operations (take i slot.requests))

  -- This is the answer to a request of the line that took effect: the machine's result on the state before it.
  pub record IsAnswer (c : ℕ) (a : LastReply) : Type 0 where
    pub q : ℕ
    pub i : ℕ
    pub slot : Slot
    pub in_line : slice_get w.line q ≡ Some slot
    pub placed : Placed
    pub in_slot : slice_get slot.requests i ≡ Some placed
    pub fresh : placed.fresh ≡ true
    pub client : placed.request.client ≡ c
    pub number : placed.request.seq ≡ a.seq
    pub place : a.pos ≡ q + 1
    pub result : a.result ≡ system.machine.result (state_before q slot i) placed.request.op

  -- what a correct host would tell a client again
  abbrev pub stored : ℕ → ℕ → LastReply
  stored h c = reply_of (state_of (self_of system h) (w.histories h)) c

  -- Of the slots that a host has executed, no request of the client is numbered above this one.
  abbrev pub IsLast : ℕ → ℕ → LastReply → Type 0
  IsLast h c a = (r j : ℕ) (y : Placed) → r < exec_of (w.histories h) → IsAt system w r j y → y.request.client ≡ c → y.request.seq ≤ a.seq

  -- what a client accepted
  abbrev pub told : Reply → LastReply
  told r = record { seq = r.seq; pos = r.pos; result = r.result }

  -- A fresh request of the client stands before a place of the line, numbered no lower than this.
  pub record IsOvertaken (q i c seq : ℕ) : Type 0 where
    pub r : ℕ
    pub j : ℕ
    pub before : IsBefore system w r j q i
    pub request : Placed
    pub there : IsAt system w r j request
    pub fresh : request.fresh ≡ true
    pub client : request.request.client ≡ c
    pub above : seq ≤ request.request.seq

  -- Each correct host stands where the machine stands after the operations of a beginning of the line. For each client it has no reply before the first request
  -- that took effect there, and else the answer to the last one. What clients accept are such answers. A request is fresh where it is numbered above all those
  -- of its client before it, and one that is not fresh, if numbered at all, was overtaken by a fresh one: it is in no list of operations, so it changes nothing.
  pub record IsSequential : Type 0 where
    pub states : (h : ℕ) → IsCorrect system.schedule h → (state_of (self_of system h) (w.histories h)).state ≡ state_at (exec_of (w.histories h))
    pub replies : (h c : ℕ) → IsCorrect system.schedule h → c < client_count system.schedule.shape → (stored h c ≡ no_reply) ⊎ IsAnswer c (stored h c)
    pub last : (h c : ℕ) → IsCorrect system.schedule h → c < client_count system.schedule.shape → IsLast h c (stored h c)
    pub accepted : (c : ℕ) (r : Reply) → IsCorrectClient system.schedule c → Contains (w.askers c).accepted r → IsAnswer c (told r)
    pub fresh : (q i r j : ℕ) (x y : Placed) → IsBefore system w r j q i → IsAt system w q i x → IsAt system w r j y → x.fresh ≡ true
        → y.request.client ≡ x.request.client → y.request.seq < x.request.seq
    pub again : (q i : ℕ) (x : Placed) → IsAt system w q i x → x.fresh ≡ false → (x.request.seq ≡ 0) ⊎ IsOvertaken q i x.request.client x.request.seq

-- For every service that can be replicated and every schedule with at most f faulty hosts: after each event, while nothing was forged or refused by the world
-- and no two of the strings hashed so far share a digest.
abbrev pub LineIsSequential : Type 0 → Type 0
LineIsSequential S = (system : System S) → IsService system.machine system.snapshots system.initial → IsSchedule system.schedule
    → (k : ℕ) → k ≤ length system.schedule.events → IsUnstopped system k → HashesApart (world system k).hashed → IsSequential system (world system k)
