-- What held as a batch was executed: the view was open, and f+1 votes were for the slot behind the last executed one, whose batch was there. So says
-- the rule that was carried out; each request was served over the state behind those before it.
use Rattle.std.proofs.Common.{◌≡◌, ℕ, ◌+◌, ◌&&◌, true, refl, subst, sym, Option, Some, None}
use Rattle.std.specs.Prelude.{nat_le, option_map}
use Rattle.std.proofs.lemmas.Bool.{and_parts}
use Rattle.mb_parts.specs.declared.batch.Batch.{Batch}
use Rattle.mb_msg.specs.declared.event.Slot.{Slot}
use Rattle.mb_model.specs.declared.known.KnownSlot.{KnownSlot}
use Rattle.mb_model.specs.Service.{batch_of}
use Rattle.mb_model.specs.Histories.{History, Identity, is_open}
use Rattle.mb_model.specs.Stable.{low_of}
use Rattle.mb_model.specs.Positions.{exec_of, slot_at}
use Rattle.mb_model.specs.EnabledRules.{Execute, execute_enabled, if_committed, is_committed}
use Rattle.mb_model.proofs.Options.{if_some, map_some}
use Rattle.mb_steps.specs.Arises.{Executes}

module _ {S : Type 0} (self : Identity S) where
  -- a batch at a position that may be executed
  pub record MayExecute (d : History) (pos : ℕ) (batch : Batch) : Type 0 where
    pub opened : is_open self d ≡ true
    pub caught_up : nat_le (low_of self d) (exec_of d) ≡ true
    pub place : pos ≡ exec_of d + 1
    pub known : KnownSlot
    pub there : slot_at self d pos ≡ Some known
    pub shown : known.batch ≡ Some batch
    pub committed : is_committed self d pos known ≡ true

  shown_slot : (d : History) (q p : ℕ) (k : Option KnownSlot) (b : Batch) → slot_at self d q ≡ k → if_committed self d q k ≡ Some (Execute p b)
      → (q ≡ p) × ((j : KnownSlot) × (slot_at self d q ≡ Some j) × (j.batch ≡ Some b) × (is_committed self d q j ≡ true))
  shown_slot d q p None b at e = absurd cc
  shown_slot d q p (Some k) b at e =
      let t = if_some (is_committed self d q k) (option_map (Execute q) k.batch) (Execute p b) e in
      let m = map_some (Execute q) k.batch (Execute p b) t.1 in
      (cc (m.2), (k, at, subst (λ (x : Batch). k.batch ≡ Some x) (cc (m.2)) m.1, t.0))

  pub may_execute : (d : History) (pos : ℕ) (b : Batch) → execute_enabled self d ≡ Some (Execute pos b) → MayExecute d pos b
  unfolding execute_enabled
  may_execute d pos b e =
      let t = if_some (is_open self d && nat_le (low_of self d) (exec_of d)) (if_committed self d (exec_of d + 1) (slot_at self d (exec_of d + 1))) (Execute pos b) e in
      let a = and_parts (is_open self d) (nat_le (low_of self d) (exec_of d)) t.0 in
      let s = shown_slot d (exec_of d + 1) pos (slot_at self d (exec_of d + 1)) b refl t.1 in
      record {
        opened = a.0;
        caught_up = a.1;
        place = sym s.0;
        known = s.1.0;
        there = subst (λ (q : ℕ). slot_at self d q ≡ Some s.1.0) s.0 s.1.1;
        shown = s.1.2;
        committed = subst (λ (q : ℕ). is_committed self d q s.1.0 ≡ true) s.0 s.1.3;
      }

  -- So it is with the batch of an executed slot.
  abbrev pub IsExecution : History → Slot → Type 0
  IsExecution d slot = MayExecute d slot.pos (batch_of slot)

  pub execution : (d : History) (slot : Slot) → Executes self d slot → IsExecution d slot
  execution d slot x = may_execute d slot.pos (batch_of slot) x.enabled
