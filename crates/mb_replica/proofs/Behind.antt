-- One entry more: a replica represents the history with it where each table stands behind it. Of an entry that stamps nothing, and of one that speaks to
-- the table of view changes alone.
use Rattle.std.proofs.Common.{◌≡◌, ℕ, ◌<◌, false, [], ◌∷◌, refl, sym, subst}
use Rattle.mb_base.specs.declared.shape.Shape.{Shape}
use Rattle.mb_base.specs.Shapes.{host_count}
use Rattle.mb_model.specs.Histories.{Entry, Served, History, Identity}
use Rattle.mb_model.specs.Stable.{low_of}
use Rattle.mb_model.specs.CarriedOut.{just_served}
use Rattle.mb_model.specs.Sending.{Progress, write}
use Rattle.mb_steps.specs.Arises.{Adds}
use Rattle.mb_history_laws.specs.Speaks.{is_served, is_stamp, speaks_of_gate, speaks_of_log, speaks_of_positions, speaks_of_stable, speaks_of_executed, speaks_of_state, speaks_of_snapshots, speaks_of_parts, is_nudge}
use Rattle.mb_history_laws.specs.Gates.{MovesGate}
use Rattle.mb_history_laws.proofs.Framing.{low_stays}
use Rattle.mb_encodable.specs.Fitting.{ComesOfRead}
use Rattle.mb_encodable.proofs.Fit.{unstamped_fit}
use Rattle.mb_refinement.specs.Tables.{Tables}
use Rattle.mb_refinement.specs.Stands.{ChangeStands}
use Rattle.mb_refinement.proofs.Together.{EachStands, Stays, stays, stand_lags, stands_behind}
use Rattle.mb_replica.specs.declared.state.ReplicaState.{ReplicaState}
use Rattle.mb_replica.specs.declared.sending.StepOutput.{StepOutput}
use Rattle.mb_replica.specs.Represents.{Represents, StandsAt, tables_of}
use Rattle.mb_replica.specs.Between.{IsSame, WritesChange}
use Rattle.mb_replica.proofs.Learnt.{KeptStands, kept_stay}
use Rattle.mb_replica.proofs.Accepted.{still_host}

-- An entry speaks to the table of view changes alone.
pub record SpeaksToChange (e : Entry) : Type 0 where
  pub gates : (h : ℕ) → speaks_of_gate h e ≡ false
  pub counter : is_stamp e ≡ false
  pub log : speaks_of_log e ≡ false
  pub positions : speaks_of_positions e ≡ false
  pub stable : speaks_of_stable e ≡ false
  pub executed : speaks_of_executed e ≡ false
  pub state : speaks_of_state e ≡ false
  pub snapshots : speaks_of_snapshots e ≡ false
  pub parts : speaks_of_parts e ≡ false
  pub nudge : is_nudge e ≡ false

-- Behind an entry of another kind nothing was just served.
pub none_served : (e : Entry) (d : History) → is_served e ≡ false → just_served (e ∷ d) ≡ []
unfolding just_served
none_served (Served pos placed) d other = absurd cc
none_served e d other = refl

module _ {V : Type 0} (me : Identity V) where
  -- There is such a host.
  pub host_there : (r : ReplicaState V) (d : History) → Represents me r d → me.host < host_count me.shape
  host_there r d rep = subst (λ (s : Shape). me.host < host_count s) (sym rep.who.shape) (subst (λ (h : ℕ). h < host_count r.protocol.shape) (sym rep.who.host) r.protocol.host_in)

  module _ (old new : ReplicaState V) (e : Entry) (d : History) (rep : Represents me old d) (same : IsSame old new) (adds : Adds me d e) (moves : MovesGate me e d) (comes : ComesOfRead me e d) (unstamped : is_stamp e ≡ false) where
    pub represents_more : EachStands me (tables_of new) (e ∷ d) → Represents me new (e ∷ d)
    represents_more each = record {
      who = still_host me old new same rep.who;
      tables = stands_behind me (tables_of old) (tables_of new) e d rep.tables adds moves each;
      fit = unstamped_fit me (host_there old d rep) e d unstamped adds comes rep.tables.sound rep.fit;
    }

  -- what an entry leaves of the tables
  pub left_by : (old : ReplicaState V) (e : Entry) (d : History) → Represents me old d → Adds me d e → Stays me (low_of me d) (tables_of old) e d
  left_by old e d rep adds = stays me (low_of me d) (tables_of old) e d (stand_lags me (tables_of old) d rep.tables) adds

  -- Behind an entry that speaks to the table of view changes alone each table stands, where this was written alone.
  pub change_written : (old new : ReplicaState V) (e : Entry) (d : History) → Represents me old d → Adds me d e → SpeaksToChange e → WritesChange old new → ChangeStands me new.protocol.change (e ∷ d) → EachStands me (tables_of new) (e ∷ d)
  change_written old new e d rep adds alone writes changes =
      let left : Stays me (low_of me d) (tables_of old) e d = left_by old e d rep adds in
      let kept : KeptStands me old d rep e old.keeper = kept_stay me old d rep e alone.snapshots alone.parts (low_stays me e d alone.stable) in
      subst (λ (t : Tables V). EachStands me t (e ∷ d)) (sym writes.tables) (record {
        counter = left.counter alone.counter;
        gates = left.gates alone.gates;
        log = left.log alone.log;
        normal = left.normal alone.positions;
        change = changes;
        stable = left.stable alone.stable;
        exec = left.exec alone.executed;
        service = left.service alone.state;
        shelf = kept.shelf;
        parts = kept.parts;
        asked = left.asked alone.nudge;
      })

  -- A step stands behind an entry where the replica represents the history with it.
  pub stands_behind_entry : (old new : ReplicaState V) (done : StepOutput) (x : Progress) (e : Entry) → StandsAt me old done x → is_served e ≡ false → Represents me new (e ∷ x.history) → StandsAt me new done (write e x)
  stands_behind_entry old new done x e stands other represents = record {
    represents = represents;
    serving = none_served e x.history other;
    sent = stands.sent;
    executed = stands.executed;
    installed = stands.installed;
  }
