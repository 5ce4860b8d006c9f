-- Before the first entry each table is empty, and stands.
use Rattle.std.proofs.Common.{◌≡◌, ℕ, ◌+◌, ◌%◌, ◌&&◌, ◌==◌, Bool, true, false, List, [], length, refl, sym, ap, subst, ◌∙◌, arith, Option, Some, None}
use Rattle.std.specs.Prelude.{nat_le, slice_get, if◌then◌else◌}
use Rattle.mb_base.specs.Shapes.{interval, host_count, client_count}
use Rattle.mb_parts.specs.Ordered.{initial_floor}
use Rattle.mb_gate.specs.declared.gate.Gate.{Gate}
use Rattle.mb_gate.specs.SenderLogs.{log_from}
use Rattle.mb_gate.specs.Represents.{Represents as GateRepresents}
use Rattle.mb_model.specs.Plans.{no_base}
use Rattle.mb_model.specs.Service.{start}
use Rattle.mb_model.specs.Histories.{Identity, origin, taken_of, closed_at, stamped, counter_of}
use Rattle.mb_model.specs.Stable.{stable_of, low_of, log_floor}
use Rattle.mb_model.specs.OwnLog.{kept_forms, log_longest}
use Rattle.mb_model.specs.Positions.{exec_of}
use Rattle.mb_model.specs.Execution.{state_of, parts_after, snapshot_of, part_of, asked_host}
use Rattle.mb_log.specs.Logs.{Log, empty_log}
use Rattle.mb_change.specs.Tables.{Table, empty_table}
use Rattle.mb_change.specs.Represents.{RepresentsHistory}
use Rattle.mb_change.proofs.Following.{tables_begin}
use Rattle.mb_fetch.specs.Snapshots.{Snapshot, Represents as ShelfRepresents}
use Rattle.mb_history_laws.proofs.Sound.{begins_sound}
use Rattle.mb_refinement.specs.Tables.{Tables}
use Rattle.mb_refinement.specs.Stands.{Stand, GatesStand, LogStands, ChangeStands, ShelfStands, HeldStand}
use Rattle.mb_refinement.specs.Beginning.{IsNew}
use Rattle.mb_refinement.proofs.Positions.{normal_begins}
use Rattle.mb_refinement.proofs.Snapshots.{shelf_same}

none_where : {A : Type 0} (test : Bool) (x : Option A) → x ≡ None → (if test then x else None) ≡ None
none_where true x none = none
none_where false x none = refl

module _ {S : Type 0} (self : Identity S) where
  pub gates_begin : (gates : List Gate) → length gates ≡ host_count self.shape → ((h : ℕ) (gate : Gate) → slice_get gates h ≡ Some gate → GateRepresents gate (log_from self.shape h initial_floor)) → GatesStand self gates []
  unfolding origin taken_of closed_at
  gates_begin gates count each = record { count = count; each = each }

  empty_stands : LogStands self (empty_log self.shape self.host) []
  unfolding log_floor stamped log_longest kept_forms
  empty_stands = record { shape = refl; host = refl; represents = record { floor_is = refl; reached = omega arith; entries_are = refl; longest_is = refl } }

  pub log_begins : (log : Log) → log ≡ empty_log self.shape self.host → LogStands self log []
  log_begins log is = subst (λ (t : Log). LogStands self t []) (sym is) empty_stands

  pub change_begins : (t : Table) → t ≡ empty_table self.shape self.host → ChangeStands self t []
  change_begins t is = subst (λ (x : Table). ChangeStands self x []) (sym is)
      (let begun : RepresentsHistory self (empty_table self.shape self.host) [] = tables_begin S self in record { shape = begun.shape_is; host = begun.host_is; represents = begun.stands })

  none_executed : (p : ℕ) → parts_after self [] p ≡ None
  unfolding parts_after
  none_executed p = refl

  pub shelf_begins : (shelf : List Snapshot) → ShelfRepresents shelf (λ p. None) → ShelfStands self shelf []
  shelf_begins shelf empty = shelf_same shelf (λ p. None) (snapshot_of self []) (λ p. sym (none_where (p % interval self.shape == 0 && nat_le (low_of self []) p) (parts_after self [] p) (none_executed p))) empty

  pub parts_begin : HeldStand self None []
  unfolding part_of
  parts_begin = λ i. refl

  pub certificate_begins : no_base ≡ stable_of self []
  unfolding stable_of
  certificate_begins = refl

  pub counter_begins : 0 ≡ counter_of []
  unfolding stamped
  counter_begins = refl

  pub executed_begins : 0 ≡ exec_of []
  unfolding exec_of
  executed_begins = refl

  pub service_begins : start self.machine self.initial (client_count self.shape) ≡ state_of self []
  unfolding state_of
  service_begins = refl

  pub asked_begins : (self.host + 1) % host_count self.shape ≡ asked_host self []
  unfolding asked_host
  asked_begins = refl

  -- ---- all of them

  pub stands_begin : (t : Tables S) → IsNew self t → Stand self t []
  stands_begin t new = record {
    sound = begins_sound self;
    counter = new.counter ∙ counter_begins;
    gates = gates_begin t.gates new.gates_count new.gates;
    log = log_begins t.log new.log;
    normal = normal_begins self t.normal new.normal;
    change = change_begins t.change new.change;
    stable = new.stable ∙ certificate_begins;
    exec = new.exec ∙ executed_begins;
    service = new.service ∙ service_begins;
    shelf = shelf_begins t.shelf new.shelf;
    parts = subst (λ held. HeldStand self held []) (sym new.parts) parts_begin;
    asked = new.asked ∙ asked_begins;
  }
