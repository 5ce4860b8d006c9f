-- A replica that was just made represents the empty history.
use Rattle.std.proofs.Common.{◌≡◌, ℕ, [], refl, sym, ap, subst, ◌∙◌, None, List}
use Rattle.std.specs.Prelude.{◌+◌, ◌%◌}
use Rattle.mb_base.specs.declared.shape.Shape.{Shape}
use Rattle.mb_base.specs.Shapes.{Bytes, host_count, client_count}
use Rattle.mb_service.specs.Machine.{ServiceMachine}
use Rattle.mb_parts.specs.Ordered.{initial_floor}
use Rattle.mb_gate.specs.declared.gate.Gate.{Gate}
use Rattle.mb_gate.specs.SenderLogs.{log_from}
use Rattle.mb_gate.specs.Represents.{Represents as GateRepresents}
use Rattle.mb_normal.specs.Searches.{nothing_above}
use Rattle.mb_normal.specs.Tables.{Represents as NormalRepresents}
use Rattle.mb_log.specs.Logs.{empty_log}
use Rattle.mb_change.specs.Tables.{empty_table}
use Rattle.mb_fetch.specs.Snapshots.{Snapshot, Represents as ShelfRepresents}
use Rattle.mb_model.specs.Service.{start}
use Rattle.mb_model.specs.Histories.{Identity}
use Rattle.mb_refinement.specs.Beginning.{IsNew as AreNew}
use Rattle.mb_refinement.proofs.Beginning.{stands_begin}
use Rattle.mb_encodable.proofs.Fit.{begins_fit}
use Rattle.mb_cache.specs.Represents.{machine_of, snapshots_of}
use Rattle.mb_executor.specs.Keeping.{Keeping}
use Rattle.mb_replica.specs.declared.state.ReplicaState.{ReplicaState}
use Rattle.mb_replica.specs.Beginning.{IsNew}
use Rattle.mb_replica.specs.Represents.{Represents, Serves, IsHost, IsAtRest, tables_of}

no_snapshots : ShelfRepresents [] (λ p. None)
no_snapshots = record { rising = tt; finds = λ pos. refl }

module _ {V : Type 0} (machine : ServiceMachine V) where
  -- what it executes with
  abbrev pub HasNothing : Shape → V → Keeping V → Type 0
  HasNothing s service k = k ≡ record { served = start (machine_of machine) service (client_count s); snapshots = []; fetched = None }

  module _ (s : Shape) (host : ℕ) (secret : Bytes) (service : V) (r : ReplicaState V) (new : IsNew s host secret r.protocol) (nothing : HasNothing s service r.keeper) where
    module _ (me : Identity V) (who : IsHost me r) where
      same_shape : s ≡ me.shape
      same_shape = sym (who.shape ∙ new.shape)

      same_host : host ≡ me.host
      same_host = sym (who.host ∙ new.host_is)

      gates_new : (h : ℕ) (gate : Gate) → GateRepresents gate (log_from s h initial_floor) → GateRepresents gate (log_from me.shape h initial_floor)
      gates_new h gate g = subst (λ (x : Shape). GateRepresents gate (log_from x h initial_floor)) same_shape g

      normal_new : NormalRepresents me.shape me.host r.protocol.normal (nothing_above 0)
      normal_new = subst (λ (x : Shape). NormalRepresents x me.host r.protocol.normal (nothing_above 0)) same_shape
          (subst (λ (h : ℕ). NormalRepresents s h r.protocol.normal (nothing_above 0)) same_host new.normal)

      pub are_new : Serves machine me → me.initial ≡ service → AreNew me (tables_of r)
      are_new serves first = record {
        counter = ap (λ u. u.counter) new.usig;
        gates_count = new.gates.count ∙ ap (λ (x : Shape). host_count x) same_shape;
        gates = λ h gate at. gates_new h gate (new.gates.each h gate at);
        log = new.log ∙ ap (λ (x : Shape). empty_log x host) same_shape ∙ ap (empty_log me.shape) same_host;
        normal = normal_new;
        change = new.change ∙ ap (λ (x : Shape). empty_table x host) same_shape ∙ ap (empty_table me.shape) same_host;
        stable = new.stable;
        exec = new.exec;
        service = ap (λ (k : Keeping V). k.served) nothing ∙ ap (λ (x : Shape). start (machine_of machine) service (client_count x)) same_shape
            ∙ ap (λ m. start m service (client_count me.shape)) (sym serves.machine) ∙ ap (λ (v : V). start me.machine v (client_count me.shape)) (sym first);
        shelf = subst (λ (l : List Snapshot). ShelfRepresents l (λ p. None)) (sym (ap (λ (k : Keeping V). k.snapshots) nothing)) no_snapshots;
        parts = ap (λ (k : Keeping V). k.fetched) nothing;
        asked = new.asked ∙ ap (λ (h : ℕ). (h + 1) % host_count s) same_host ∙ ap (λ (x : Shape). (me.host + 1) % host_count x) same_shape;
      }

      pub begins : Serves machine me → me.initial ≡ service → Represents me r []
      begins serves first = record { who = who; tables = stands_begin me (tables_of r) (are_new serves first); fit = begins_fit me }

    -- the host that it is
    its_self : Identity V
    its_self = record { shape = r.protocol.shape; host = r.protocol.host; secret = r.protocol.usig.secret; machine = machine_of machine; snapshots = snapshots_of machine; initial = service }

    pub at_rest : machine.is_state service → IsAtRest machine r
    unfolding its_self
    at_rest state =
        let serves : Serves machine its_self = record { machine = refl; snapshots = refl; first = state } in
        let who : IsHost its_self r = record { shape = refl; host = refl; secret = refl } in
        record { me = its_self; history = []; serves = serves; represents = begins its_self who serves refl; whole = tt }
