-- Behind an accepted message of a view change: the tables that it speaks to were written and stand, and the others stand as they were. Its sender's
-- gate follows.
use Rattle.std.proofs.Common.{◌≡◌, false, List, ◌∷◌, sym, ap, subst, ◌∙◌, Option, None}
use Rattle.mb_parts.specs.declared.certificates.StableCert.{StableCert}
use Rattle.mb_msg.specs.declared.stamped.Stamped.{Stamped as StampedMessage}
use Rattle.mb_msg.specs.Stamps.{as_message}
use Rattle.mb_model.specs.Histories.{Entry, Accepted, History, Identity}
use Rattle.mb_model.specs.Stable.{stable_of, low_of}
use Rattle.mb_model.specs.KindChecks.{stamped_refusal}
use Rattle.mb_fetch.specs.Snapshots.{Snapshot}
use Rattle.mb_fetch.specs.Fetched.{Fetched}
use Rattle.mb_log.specs.Logs.{Log}
use Rattle.mb_normal.specs.declared.normal.Normal.{Normal}
use Rattle.mb_change.specs.Tables.{Table as ChangeTable}
use Rattle.mb_change.specs.Represents.{SameHost}
use Rattle.mb_history_laws.specs.Speaks.{is_stamp, speaks_of_log, speaks_of_positions, speaks_of_stable, speaks_of_executed, speaks_of_state, speaks_of_snapshots, speaks_of_parts, is_nudge}
use Rattle.mb_history_laws.proofs.Framing.{low_stays}
use Rattle.mb_history_laws.proofs.Sound.{accepted_adds}
use Rattle.mb_refinement.specs.Tables.{Tables}
use Rattle.mb_refinement.specs.Stands.{LogStands, NormalStands, ChangeStands, ShelfStands, HeldStand}
use Rattle.mb_refinement.proofs.Together.{Stays, stays, stand_lags}
use Rattle.mb_replica.specs.declared.state.ReplicaState.{ReplicaState}
use Rattle.mb_replica.specs.Represents.{Represents, IsHost, tables_of}
use Rattle.mb_replica.specs.Between.{IsSame, WritesChange, RestStands, AwaitsGate}
use Rattle.mb_replica.proofs.Learnt.{KeptStands, kept_stay}

-- An entry speaks to none of these.
pub record LeavesOthers (e : Entry) : Type 0 where
  pub counter : is_stamp e ≡ false
  pub log : speaks_of_log e ≡ false
  pub executed : speaks_of_executed e ≡ false
  pub state : speaks_of_state e ≡ false
  pub nudge : is_nudge e ≡ false

module _ {V : Type 0} where
  -- Calls on one host lead to the same host.
  pub same_again : (a b c : ReplicaState V) → IsSame a b → IsSame b c → IsSame a c
  same_again a b c first second = record { shape = second.shape ∙ first.shape; host = second.host ∙ first.host; secret = second.secret ∙ first.secret }

  pub still_host : (me : Identity V) (old new : ReplicaState V) → IsSame old new → IsHost me old → IsHost me new
  still_host me old new same who = record { shape = who.shape ∙ sym same.shape; host = who.host ∙ sym same.host; secret = who.secret ∙ sym same.secret }

  -- The table of view changes is of the same system and host.
  pub same_table : (old new : ReplicaState V) → IsSame old new → SameHost old.protocol.change new.protocol.change
  same_table old new same = record {
    shape_is = new.protocol.change_is.0 ∙ same.shape ∙ sym old.protocol.change_is.0;
    host_is = new.protocol.change_is.1 ∙ same.host ∙ sym old.protocol.change_is.1;
  }

  module _ (me : Identity V) (old new : ReplicaState V) (m : StampedMessage) (d : History) (rep : Represents me old d) (passed : stamped_refusal me d m ≡ None) (leaves : LeavesOthers (Accepted (as_message m))) where
    left : Stays me (low_of me d) (tables_of old) (Accepted (as_message m)) d
    left = stays me (low_of me d) (tables_of old) (Accepted (as_message m)) d (stand_lags me (tables_of old) d rep.tables) (accepted_adds me m d passed)

    -- It wrote the tables of view changes and of the normal case, and learnt a certificate.
    pub awaits : (normal : Normal) (change : ChangeTable) (stable : StableCert) (shelf : List Snapshot) (parts : Option Fetched) → IsSame old new
        → tables_of new ≡ record (tables_of old) { normal = normal; change = change; stable = stable; shelf = shelf; parts = parts }
        → NormalStands me normal (Accepted (as_message m) ∷ d) → ChangeStands me change (Accepted (as_message m) ∷ d) → stable ≡ stable_of me (Accepted (as_message m) ∷ d)
        → ShelfStands me shelf (Accepted (as_message m) ∷ d) → HeldStand me parts (Accepted (as_message m) ∷ d) → AwaitsGate me old new m d
    awaits normal change stable shelf parts same is positions changes certificate snapshots fetched = record {
      who = still_host me old new same rep.who;
      gates = ap (λ (t : Tables V). t.gates) is;
      log = subst (λ (l : Log). LogStands me l (Accepted (as_message m) ∷ d)) (sym (ap (λ (t : Tables V). t.log) is)) (left.log leaves.log);
      rest = subst (λ (t : Tables V). RestStands me t (Accepted (as_message m) ∷ d)) (sym is) (record {
        counter = left.counter leaves.counter;
        normal = positions;
        change = changes;
        stable = certificate;
        exec = left.exec leaves.executed;
        service = left.service leaves.state;
        shelf = snapshots;
        parts = fetched;
        asked = left.asked leaves.nudge;
      });
    }

    -- It wrote that of view changes alone.
    pub awaits_change : speaks_of_positions (Accepted (as_message m)) ≡ false → speaks_of_stable (Accepted (as_message m)) ≡ false → speaks_of_snapshots (Accepted (as_message m)) ≡ false → speaks_of_parts (Accepted (as_message m)) ≡ false
        → WritesChange old new → ChangeStands me new.protocol.change (Accepted (as_message m) ∷ d) → AwaitsGate me old new m d
    awaits_change positions stable snapshots parts writes changes =
        let kept : KeptStands me old d rep (Accepted (as_message m)) old.keeper = kept_stay me old d rep (Accepted (as_message m)) snapshots parts (low_stays me (Accepted (as_message m)) d stable) in
        awaits old.protocol.normal new.protocol.change old.protocol.stable old.keeper.snapshots old.keeper.fetched writes.same writes.tables (left.normal positions) changes (left.stable stable) kept.shelf kept.parts
