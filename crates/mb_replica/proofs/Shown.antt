-- LOGs: the jump of a gate to a floor that one shows, what stands before its entries, and the entries one after the other.
use Rattle.std.proofs.Common.{◌≡◌, ℕ, Bool, true, false, List, ◌∷◌, set, refl, sym, ap, subst, ◌∙◌, inl, Option, Some, None, is_some, is_none}
use Rattle.std.specs.Prelude.{◌==◌, ◌&&◌, nat_lt, slice_get, option_and_then, if◌then◌else◌}
use Rattle.std.proofs.lemmas.Bool.{and_parts, ltb-true}
use Rattle.mb_parts.specs.declared.certificates.FloorCert.{FloorCert}
use Rattle.mb_parts.specs.declared.certificates.StableCert.{StableCert}
use Rattle.mb_parts.specs.declared.floor.Floor.{Floor}
use Rattle.mb_parts.specs.Certificates.{certified_floor, first_floor, agree_on_floor}
use Rattle.mb_msg.specs.declared.message.Message.TheVariants as message
use Rattle.mb_msg.specs.declared.transfer.Log.{Log}
use Rattle.mb_msg.specs.Fits.{FitsLog}
use Rattle.mb_model.specs.Histories.{Entry, Accepted, Jumped, History, Identity, gate, closed_at}
use Rattle.mb_model.specs.Given.{jump, floor_shown}
use Rattle.mb_model.specs.GateChecks.{valid}
use Rattle.mb_model.specs.PlainChecks.{log_refusal, is_certified_floor}
use Rattle.mb_model.specs.Sending.{Progress, write}
use Rattle.mb_model.specs.Stable.{stable_of, low_of}
use Rattle.mb_steps.proofs.StepPassed.{passes_log}
use Rattle.mb_change.specs.Written.{with_shown}
use Rattle.mb_gate.specs.declared.gate.Gate.{Gate}
use Rattle.mb_history_laws.proofs.Certified.{stable_in_log}
use Rattle.mb_history_laws.proofs.Framing.{low_stays}
use Rattle.mb_encodable.specs.Fitting.{ComesOfRead}
use Rattle.mb_refinement.specs.GateCalls.{Jumps}
use Rattle.mb_refinement.specs.Stands.{GatesStand, Stand}
use Rattle.mb_refinement.specs.Tables.{Tables}
use Rattle.mb_refinement.specs.Positions.{Learns}
use Rattle.mb_refinement.proofs.Changes.{log_taken}
use Rattle.mb_refinement.proofs.Gates.{gate_jumps}
use Rattle.mb_refinement.proofs.PositionsVoted.{log_learnt}
use Rattle.mb_refinement.proofs.Together.{EachStands, Stays}
use Rattle.mb_replica.specs.declared.state.ReplicaState.{ReplicaState}
use Rattle.mb_replica.specs.declared.sending.StepOutput.{StepOutput}
use Rattle.mb_replica.specs.Represents.{Represents, StandsAt, tables_of}
use Rattle.mb_replica.specs.Between.{WritesGates}
use Rattle.mb_replica.specs.Holding.{Holds}
use Rattle.mb_replica.proofs.Accepted.{same_table, still_host}
use Rattle.mb_replica.proofs.Behind.{left_by, represents_more, stands_behind_entry}
use Rattle.mb_replica.proofs.Learnt.{KeptStands, kept_learnt, kept_stay, stable_learnt}

module _ {V : Type 0} (me : Identity V) where
  -- ---- what stands before the entries

  pub log_accepted : (old new : ReplicaState V) (d : History) (m : Log) → Represents me old d → FitsLog me.shape m → log_refusal me m ≡ None → Holds (with_shown me d m.evidence) (Some m.stable) old new → Represents me new (Accepted (message.Log m) ∷ d)
  log_accepted old new d m rep fits passed holds =
      let e : Entry = Accepted (message.Log m) in
      let adds = passes_log me m passed in
      let left : Stays me (low_of me d) (tables_of old) e d = left_by me old e d rep adds in
      let learns : Learns (stable_of me d) (Some m.stable) old.protocol.normal new.protocol.normal = subst (λ (s : StableCert). Learns s (Some m.stable) old.protocol.normal new.protocol.normal) rep.tables.stable holds.learns in
      let kept : KeptStands me old d rep e new.keeper = subst (KeptStands me old d rep e) (sym holds.keeper) (kept_learnt me old d rep e refl refl (Some m.stable) (stable_in_log me m d)) in
      represents_more me old new e d rep holds.same adds tt ((message.Log m, fits, inl refl), tt) refl
      (subst (λ (t : Tables V). EachStands me t (e ∷ d)) (sym holds.tables) (record {
        counter = left.counter refl;
        gates = left.gates (λ h. refl);
        log = left.log refl;
        normal = log_learnt me m d old.protocol.normal new.protocol.normal (adds, rep.tables.sound.arises) learns rep.tables.normal;
        change = log_taken me old.protocol.change new.protocol.change d (same_table old new holds.same) rep.tables.change m holds.stands;
        stable = stable_learnt me old d rep e (Some m.stable) (stable_in_log me m d);
        exec = left.exec refl;
        service = left.service refl;
        shelf = kept.shelf;
        parts = kept.parts;
        asked = left.asked refl;
      }))

  -- ---- the jump

  -- The floor that a LOG shows, which was checked, is read off its first member.
  first_certified : (h : ℕ) (c : FloorCert) → is_some (certified_floor me.shape (valid me) h c) ≡ true → first_floor h c.members ≡ certified_floor me.shape (valid me) h c
  unfolding certified_floor
  first_certified h c some = by_test (agree_on_floor me.shape (valid me) h c) some where
    by_test : (b : Bool) → is_some (if b then first_floor h c.members else None) ≡ true → first_floor h c.members ≡ (if b then first_floor h c.members else None)
    by_test true some = refl
    by_test false some = absurd cc

  pub floor_read : (h : ℕ) (floor : Option FloorCert) → is_certified_floor me h floor ≡ true → option_and_then (λ c. first_floor h c.members) floor ≡ floor_shown me h floor
  floor_read h None certified = refl
  floor_read h (Some c) certified = first_certified h c certified

  comes_of : (h : ℕ) (f : Floor) (m : Log) (d : History) → FitsLog me.shape m → m.host ≡ h → Some f ≡ floor_shown me h m.floor → ComesOfRead me (Jumped h f) d
  comes_of h f m d fits own is = by_floor m.floor refl is where
    by_floor : (o : Option FloorCert) → m.floor ≡ o → Some f ≡ floor_shown me h o → ComesOfRead me (Jumped h f) d
    by_floor None at is = absurd cc
    by_floor (Some c) at is = (m, c, fits, own, at, sym is)

  -- Where it goes forward, and the gate isn't closed, the gate goes on from there; else it stays.
  module _ (old new : ReplicaState V) (done : StepOutput) (x : Progress) (stands : StandsAt me old done x) (writes : WritesGates old new) (h : ℕ) (f : Floor) (other : (h == me.host) ≡ false) (comes : ComesOfRead me (Jumped h f) x.history) where
    jumped : GatesStand me new.protocol.gates.items (Jumped h f ∷ x.history) → nat_lt (gate x.history h).counter f.counter ≡ true → StandsAt me new done (write (Jumped h f) x)
    jumped gates above =
        let d : History = x.history in
        let e : Entry = Jumped h f in
        let rep : Represents me old d = stands.represents in
        let left : Stays me (low_of me d) (tables_of old) e d = left_by me old e d rep other in
        let kept : KeptStands me old d rep e old.keeper = kept_stay me old d rep e refl refl (low_stays me e d refl) in
        stands_behind_entry me old new done x e stands refl (represents_more me old new e d rep writes.same other (ltb-true (gate d h).counter f.counter above) comes refl
        (subst (λ (t : Tables V). EachStands me t (e ∷ d)) (sym writes.tables) (record {
          counter = left.counter refl;
          gates = gates;
          log = left.log refl;
          normal = left.normal refl;
          change = left.change refl;
          stable = left.stable refl;
          exec = left.exec refl;
          service = left.service refl;
          shelf = kept.shelf;
          parts = kept.parts;
          asked = left.asked refl;
        })))

    stayed : GatesStand me new.protocol.gates.items x.history → StandsAt me new done x
    stayed gates = let t : Stand me (tables_of old) x.history = stands.represents.tables in record {
      represents = record {
        who = still_host me old new writes.same stands.represents.who;
        tables = subst (λ (t : Tables V). Stand me t x.history) (sym writes.tables) (record {
          sound = t.sound;
          counter = t.counter;
          gates = gates;
          log = t.log;
          normal = t.normal;
          change = t.change;
          stable = t.stable;
          exec = t.exec;
          service = t.service;
          shelf = t.shelf;
          parts = t.parts;
          asked = t.asked;
        });
        fit = stands.represents.fit;
      };
      serving = stands.serving;
      sent = stands.sent;
      executed = stands.executed;
      installed = stands.installed;
    }

    pub jump_taken : (before behind : Gate) → slice_get old.protocol.gates.items h ≡ Some before → Jumps before f behind → new.protocol.gates.items ≡ set old.protocol.gates.items h behind → StandsAt me new done (jump me h (Some f) x)
    jump_taken before behind there jumps is =
        by_test (is_none (closed_at x.history h) && nat_lt (gate x.history h).counter f.counter) refl
        (subst (λ (g : List Gate). GatesStand me g (jump me h (Some f) x).history) (sym is) (gate_jumps me old.protocol.gates.items x h f before behind there jumps stands.represents.tables.gates)) where
          by_test : (b : Bool) → (is_none (closed_at x.history h) && nat_lt (gate x.history h).counter f.counter) ≡ b → GatesStand me new.protocol.gates.items (if b then write (Jumped h f) x else x).history
              → StandsAt me new done (if b then write (Jumped h f) x else x)
          by_test true is gates = jumped gates (and_parts (is_none (closed_at x.history h)) (nat_lt (gate x.history h).counter f.counter) is).1
          by_test false is gates = stayed gates

  -- Where there is no floor nothing jumps.
  pub jump_of : (old new : ReplicaState V) (done : StepOutput) (x : Progress) (m : Log) → StandsAt me old done x → WritesGates old new → FitsLog me.shape m → (h : ℕ) → h ≡ m.host → (h == me.host) ≡ false → (floor : Option Floor) (f : Floor) → floor ≡ Some f → floor ≡ floor_shown me m.host m.floor
      → (before behind : Gate) → slice_get old.protocol.gates.items h ≡ Some before → Jumps before f behind → new.protocol.gates.items ≡ set old.protocol.gates.items h behind → StandsAt me new done (jump me h floor x)
  jump_of old new done x m stands writes fits h own other floor f there_is is before behind there jumps now =
      subst (λ (o : Option Floor). StandsAt me new done (jump me h o x)) (sym there_is)
      (jump_taken old new done x stands writes h f other (comes_of h f m x.history fits (sym own) (sym there_is ∙ is ∙ ap (λ (n : ℕ). floor_shown me n m.floor) (sym own))) before behind there jumps now)
