-- What is executed stands for the sequential service.
use Rattle.std.specs.Prelude.{◌≡◌, ℕ, ◌+◌, ◌-◌, ◌*◌, ◌/◌, ◌%◌, List, [], ◌∷◌, ◌++◌, length, map, slice_get, nat_le, ◌==◌, Option, Some, None, if◌then◌else◌}
use Rattle.std.specs.List.{range_with_len}
use Rattle.mb_base.specs.Shapes.{Bytes, interval}
use Rattle.mb_base.specs.declared.shape.Shape.{Shape}
use Rattle.mb_service.specs.Machine.{ServiceMachine}
use Rattle.mb_parts.specs.declared.request.Request.{Request}
use Rattle.mb_parts.specs.declared.batch.Batch.{Batch}
use Rattle.mb_msg.specs.declared.event.Placed.{Placed}
use Rattle.mb_msg.specs.declared.event.Slot.{Slot}
use Rattle.mb_model.specs.Service.{Machine, Served, is_fresh, served, batch_of}
use Rattle.mb_model.specs.States.{Snapshots, parts_of, state_digest}
use Rattle.mb_cache.specs.Represents.{machine_of, snapshots_of, joined}
use Rattle.mb_learn.specs.declared.line.Line.{Line}
use Rattle.mb_learn.specs.Proved.{behind, AreMarked, digest_behind}

module _ {S : Type 0} where
  -- a request, marked as fresh where it is so in this state
  abbrev pub with_mark : Served S → Request → Placed
  with_mark x r = record { request = r; fresh = is_fresh x r }

  -- requests that are served one after the other at a position, each with its mark
  abbrev pub placed_all : Machine S → Served S → ℕ → List Request → List Placed
  placed_all m x pos [] = []
  placed_all m x pos (r ∷ rs) = with_mark x r ∷ placed_all m (served m x pos r) pos rs

  -- the digest of the state, at the last position
  abbrev pub state_now : Snapshots S → Line S → Bytes
  state_now snapshots line = state_digest (parts_of snapshots (joined line.service line.table)) (length line.slots.items)

  -- the digest that is noted at a position
  abbrev pub state_in : Line S → ℕ → Option Bytes
  state_in line pos = if pos == 0 then None else (if pos % interval line.shape == 0 then slice_get line.states.items (pos / interval line.shape - 1) else None)

  -- All but state and table is as it was, and there are as many clients.
  pub record KeepsSlots (old new : Line S) : Type 0 where
    pub shape : new.shape ≡ old.shape
    pub slots : new.slots ≡ old.slots
    pub states : new.states ≡ old.states
    pub clients : length new.table ≡ length old.table

  -- The digest of the state is noted where the position is a multiple of the interval.
  pub record NotesState (snapshots : Snapshots S) (pos : ℕ) (old new : Line S) : Type 0 where
    pub shape : new.shape ≡ old.shape
    pub service : new.service ≡ old.service
    pub table : new.table ≡ old.table
    pub slots : new.slots ≡ old.slots
    pub states : new.states.items ≡ (if pos % interval old.shape == 0 then old.states.items ++ state_now snapshots old ∷ [] else old.states.items)

module _ {S : Type 0} (s : Shape) (m : Machine S) (initial : S) (snapshots : Snapshots S) where
  -- the digest that is to be noted as the one of this number, behind these slots
  abbrev pub noted_at : List Slot → ℕ → Option Bytes
  noted_at slots i = if nat_le ((i + 1) * interval s) (length slots) then Some (digest_behind s m initial snapshots slots ((i + 1) * interval s)) else None

  -- Service and table are those behind these slots, which stand at their places with their marks; and the digests at the multiples of the interval.
  pub record Executes (slots : List Slot) (line : Line S) : Type 0 where
    pub shape : line.shape ≡ s
    pub slots_are : line.slots.items ≡ slots
    pub served_is : joined line.service line.table ≡ behind s m initial slots
    pub places : map (λ slot. slot.pos) slots ≡ range_with_len 1 (length slots)
    pub marks : AreMarked s m initial slots
    pub states : (i : ℕ) → slice_get line.states.items i ≡ noted_at slots i

  -- One slot more, of this batch.
  pub record ExecutesToo (slots : List Slot) (batch : Batch) (line : Line S) : Type 0 where
    pub slot : Slot
    pub batch_is : batch_of slot ≡ batch
    pub executes : Executes (slots ++ slot ∷ []) line

-- So it is whatever a line of this service has executed.
abbrev pub WhereExecutes : {S : Type 0} → ServiceMachine S → Line S → (Shape → S → List Slot → Type 0) → Type 0
WhereExecutes {S} m line P = (s : Shape) (initial : S) (slots : List Slot) → Executes s (machine_of m) initial (snapshots_of m) slots line → P s initial slots
