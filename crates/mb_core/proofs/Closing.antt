-- A batch whose requests are all served is executed: what a replica stands for behind it, and the CHECKPOINT that follows.
use Rattle.std.proofs.Common.{◌≡◌, ◌<◌, ◌≤◌, ◌∙◌, ◌++◌, ℕ, Bool, true, false, List, [], ◌∷◌, refl, ap, sym, subst, length, None}
use Rattle.std.specs.Prelude.{◌==◌, ◌%◌}
use Rattle.mb_base.specs.Limits.{snapshot_limit}
use Rattle.mb_base.specs.declared.shape.Shape.{Shape}
use Rattle.mb_base.specs.Shapes.{Bytes, interval}
use Rattle.mb_msg.specs.declared.event.Placed.{Placed}
use Rattle.mb_msg.specs.declared.event.Slot.{Slot}
use Rattle.mb_model.specs.Service.{Served as ServedState}
use Rattle.mb_model.specs.States.{Snapshots, parts_of}
use Rattle.mb_model.specs.Histories.{Entry, Executed, History, Identity}
use Rattle.mb_model.specs.Stable.{low_of}
use Rattle.mb_model.specs.Execution.{state_of}
use Rattle.mb_model.specs.OwnLog.{has_room}
use Rattle.mb_model.specs.Making.{checkpoint}
use Rattle.mb_model.specs.Sending.{Progress, note, stamp}
use Rattle.mb_model.specs.CarriedOut.{slot_for, close_slot, with_checkpoint, at_interval, state_strings}
use Rattle.mb_steps.specs.Arises.{Adds}
use Rattle.mb_history_laws.specs.Sound.{IsSound}
use Rattle.mb_history_laws.proofs.Framing.{low_stays}
use Rattle.mb_history_laws.proofs.Executing.{served_ends}
use Rattle.mb_history_laws.proofs.SoundRules.{serving_ends}
use Rattle.mb_encodable.proofs.Fit.{executed_fit}
use Rattle.mb_fetch.specs.Snapshots.{parts_at}
use Rattle.mb_executor.specs.Keeping.{Keeping, with_snapshot}
use Rattle.mb_refinement.specs.Tables.{Tables}
use Rattle.mb_refinement.specs.Stands.{ShelfStands}
use Rattle.mb_refinement.proofs.Values.{executed_position}
use Rattle.mb_refinement.proofs.Snapshots.{none_kept_above, place_left, shelf_kept, shelf_left}
use Rattle.mb_refinement.proofs.FetchedParts.{held_stays}
use Rattle.mb_refinement.proofs.Together.{EachStands, stand_lags, stays, stands_behind}
use Rattle.mb_replica.specs.declared.state.ReplicaState.{ReplicaState}
use Rattle.mb_replica.specs.declared.sending.StepOutput.{StepOutput}
use Rattle.mb_replica.specs.Represents.{tables_of, Represents, StandsAt}
use Rattle.mb_replica.specs.Between.{IsSame}
use Rattle.mb_core.specs.Serving.{ServesOn, WritesShelf, KeepsWhere}
use Rattle.mb_replica.proofs.Entries.{hosted, is_there}

module _ {V : Type 0} where
  pub shelf_written : (r : ReplicaState V) (k : Keeping V) (pos : ℕ) (parts : List Bytes) → k ≡ with_snapshot r.keeper pos parts → WritesShelf r (record r { keeper = k })
  shelf_written r k pos parts is = record {
    same = record { shape = refl; host = refl; secret = refl };
    tables = ap (λ (y : Keeping V). record (tables_of r) { service = y.served; shelf = k.snapshots; parts = y.fetched }) is;
  }

module _ {V : Type 0} (me : Identity V) where
  -- the last executed position, and a snapshot
  pub record WritesExecuted (pos : ℕ) (old new : ReplicaState V) : Type 0 where
    pub same : IsSame old new
    pub tables : tables_of new ≡ record (tables_of old) { exec = pos; shelf = new.keeper.snapshots }

  -- One batch more was executed.
  pub record DoesBatch (slot : Slot) (old new : StepOutput) : Type 0 where
    pub sent : new.sent ≡ old.sent
    pub executed : new.executed ≡ old.executed ++ slot ∷ []
    pub installed : new.installed ≡ old.installed

  module _ (old : ReplicaState V) (done : StepOutput) (pos : ℕ) (served : List Placed) (x : Progress) (s : ServesOn me old done pos [] served x) where
    rep : Represents me old x.history
    rep = s.stands.represents

    abbrev closed_now : Entry
    closed_now = Executed (slot_for me x.history pos)

    ends : IsSound me (closed_now ∷ x.history)
    ends = serving_ends me pos s.batch x.history s.serving

    adds_on : Adds me x.history closed_now
    adds_on = ends.arises.0

    -- What keeping a snapshot asks.
    pub none_above : (other : ℕ) → pos ≤ other → parts_at old.keeper.snapshots other ≡ None
    none_above other le = none_kept_above me old.keeper.snapshots (slot_for me x.history pos) x.history rep.tables.sound adds_on rep.tables.shelf other le

    pub has_place : length old.keeper.snapshots < snapshot_limit
    has_place = place_left me old.keeper.snapshots (slot_for me x.history pos) x.history rep.tables.sound adds_on rep.tables.shelf

    at_multiple : (b : Bool) → (pos % interval old.protocol.shape == 0) ≡ b → (pos % interval me.shape == 0) ≡ b
    at_multiple b is = ap (λ (z : Shape). pos % interval z == 0) rep.who.shape ∙ is

    -- At a multiple of the interval a snapshot was kept, and elsewhere none.
    pub shelf_closed : (new : ReplicaState V) (snapshots : Snapshots V) → me.snapshots ≡ snapshots
        → KeepsWhere (pos % interval old.protocol.shape == 0) pos (parts_of snapshots old.keeper.served) old.keeper.snapshots new.keeper.snapshots → ShelfStands me new.keeper.snapshots (closed_now ∷ x.history)
    shelf_closed new snapshots same keeps = by_test (pos % interval old.protocol.shape == 0) refl keeps where
      parts : parts_of snapshots old.keeper.served ≡ parts_of me.snapshots (state_of me x.history)
      parts = ap (λ (y : Snapshots V). parts_of y old.keeper.served) (sym same) ∙ ap (λ (y : ServedState V). parts_of me.snapshots y) rep.tables.service

      by_test : (b : Bool) → (pos % interval old.protocol.shape == 0) ≡ b → KeepsWhere b pos (parts_of snapshots old.keeper.served) old.keeper.snapshots new.keeper.snapshots
          → ShelfStands me new.keeper.snapshots (closed_now ∷ x.history)
      by_test true whole kept =
          shelf_kept me old.keeper.snapshots (slot_for me x.history pos) x.history rep.tables.sound adds_on rep.tables.shelf new.keeper.snapshots (parts_of snapshots old.keeper.served) (at_multiple true whole) parts kept
      by_test false apart left =
          subst (λ y. ShelfStands me y (closed_now ∷ x.history)) (sym left) (shelf_left me old.keeper.snapshots (slot_for me x.history pos) x.history rep.tables.sound adds_on rep.tables.shelf (at_multiple false apart))

    -- So the batch is executed.
    pub closed_stands : (new : ReplicaState V) (behind : StepOutput) → WritesExecuted pos old new → ShelfStands me new.keeper.snapshots (closed_now ∷ x.history) → DoesBatch (record { pos = pos; requests = served }) done behind
        → StandsAt me new behind (close_slot me pos x)
    closed_stands new behind writes shelf does =
        let t : Tables V = tables_of old in
        let left = stays me (low_of me x.history) t closed_now x.history (stand_lags me t x.history rep.tables) adds_on in
        let low = low_stays me closed_now x.history refl in
        let each : EachStands me (record t { exec = pos; shelf = new.keeper.snapshots }) (closed_now ∷ x.history) = record {
          counter = left.counter refl;
          gates = left.gates (λ h. refl);
          log = left.log refl;
          normal = left.normal refl;
          change = left.change refl;
          stable = left.stable refl;
          exec = executed_position (slot_for me x.history pos) x.history;
          service = left.service refl;
          shelf = shelf;
          parts = held_stays me t.parts closed_now x.history refl low rep.tables.parts;
          asked = left.asked refl;
        } in
        record {
          represents = record {
            who = hosted me old new writes.same rep.who;
            tables = stands_behind me t (tables_of new) closed_now x.history rep.tables adds_on tt (subst (λ (u : Tables V). EachStands me u (closed_now ∷ x.history)) (sym writes.tables) each);
            fit = executed_fit me (is_there me old rep.who) pos s.batch x.history s.serving rep.fit;
          };
          serving = served_ends closed_now x.history refl;
          sent = does.sent ∙ s.stands.sent;
          executed = does.executed ∙ (ap (λ (l : List Placed). done.executed ++ record { pos = pos; requests = l } ∷ []) (sym s.stands.serving) ∙ ap (λ (l : List Slot). l ++ slot_for me x.history pos ∷ []) s.stands.executed);
          installed = does.installed ∙ s.stands.installed;
        }

  -- What is noted as hashed is no matter of the replica.
  pub noted : (r : ReplicaState V) (done : StepOutput) (strings : List Bytes) (x : Progress) → StandsAt me r done x → StandsAt me r done (note strings x)
  noted r done strings x s = record { represents = s.represents; serving = s.serving; sent = s.sent; executed = s.executed; installed = s.installed }

  -- ---- the CHECKPOINT that follows

  pub interval_is : (pos : ℕ) (x : Progress) → (pos % interval me.shape == 0) ≡ true → with_checkpoint me pos (note (state_strings me x.history pos) x) ≡ at_interval me pos x
  interval_is pos x multiple = rw multiple refl

  pub no_interval_is : (pos : ℕ) (x : Progress) → (pos % interval me.shape == 0) ≡ false → x ≡ at_interval me pos x
  no_interval_is pos x apart = rw apart refl

  pub checkpoint_is : (pos : ℕ) (x : Progress) → has_room me x.history ≡ true → stamp me (checkpoint me x.history pos) x ≡ with_checkpoint me pos x
  checkpoint_is pos x room = rw room refl

  pub no_checkpoint_is : (pos : ℕ) (x : Progress) → has_room me x.history ≡ false → x ≡ with_checkpoint me pos x
  no_checkpoint_is pos x room = rw room refl

  -- The keeper is as it was.
  pub kept_same : (r : ReplicaState V) (k : Keeping V) (done : StepOutput) (x : Progress) → k ≡ r.keeper → StandsAt me r done x → StandsAt me (record r { keeper = k }) done x
  kept_same r k done x same s = subst (λ (y : Keeping V). StandsAt me (record r { keeper = y }) done x) (sym same) s

  pub multiple_is : (r : ReplicaState V) (d : History) (pos : ℕ) (b : Bool) → Represents me r d → (pos % interval r.protocol.shape == 0) ≡ b → (pos % interval me.shape == 0) ≡ b
  multiple_is r d pos b rep is = ap (λ (z : Shape). pos % interval z == 0) rep.who.shape ∙ is
