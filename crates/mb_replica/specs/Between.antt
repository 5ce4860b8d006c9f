-- A replica in the middle of an entry: which tables a call writes, and which of them stand for the history with the entry already.
use Rattle.std.specs.Prelude.{◌≡◌, ℕ, ◌+◌, ◌%◌, ◌==◌, ◌≤◌, ◌&&◌, ◌∷◌, Bool, true, false, length, Option, Some, None, nat_lt, nat_le, slice_get, slice_set, if◌then◌else◌}
use Rattle.mb_base.specs.Shapes.{Bytes, interval}
use Rattle.mb_parts.specs.declared.certificates.FloorCert.{FloorCert}
use Rattle.mb_parts.specs.declared.certificates.StableCert.{StableCert}
use Rattle.mb_parts.specs.declared.floor.Mark.{Mark}
use Rattle.mb_msg.specs.declared.message.Message.TheVariants as message
use Rattle.mb_msg.specs.declared.normal.Commit.{Commit}
use Rattle.mb_msg.specs.declared.normal.Checkpoint.{Checkpoint}
use Rattle.mb_msg.specs.declared.stamped.Stamped.{Stamped as StampedMessage}
use Rattle.mb_msg.specs.declared.stamped.Stamped.TheVariants as stamped
use Rattle.mb_msg.specs.Stamps.{as_message}
use Rattle.mb_model.specs.Histories.{Entry, Accepted, Stamped, History, Identity, counter_of}
use Rattle.mb_model.specs.Stable.{stable_of, low_of, further, checkpoint_in, is_kept}
use Rattle.mb_model.specs.Positions.{exec_of}
use Rattle.mb_model.specs.Execution.{state_of, asked_host}
use Rattle.mb_model.specs.OwnLog.{has_room}
use Rattle.mb_model.specs.States.{state_digest}
use Rattle.mb_model.specs.Making.{present_parts}
use Rattle.mb_model.specs.Sending.{Progress}
use Rattle.mb_model.specs.KindChecks.{stamped_refusal}
use Rattle.mb_model.specs.Given.{casts_vote}
use Rattle.mb_steps.specs.Arises.{JustExecuted}
use Rattle.mb_history_laws.specs.Sound.{IsSound}
use Rattle.mb_log.specs.Logs.{start, floor_counter, cut_at}
use Rattle.mb_encodable.specs.Fitting.{AreFit}
use Rattle.mb_gate.specs.declared.gate.Gate.{Gate}
use Rattle.mb_refinement.specs.Tables.{Tables}
use Rattle.mb_refinement.specs.GateCalls.{Follows, Closes}
use Rattle.mb_refinement.specs.Stands.{GatesStand, LogStands, NormalStands, ChangeStands, ShelfStands, HeldStand}
use Rattle.mb_refinement.specs.Positions.{Learns, AnswersStable}
use Rattle.mb_refinement.specs.LogCalls.{IsUncut}
use Rattle.mb_executor.specs.Keeping.{raised}
use Rattle.mb_normal.specs.Searches.{above_low}
use Rattle.mb_normal.specs.Tables.{Becomes}
use Rattle.mb_replica.specs.declared.protocol.Protocol.{Protocol}
use Rattle.mb_replica.specs.declared.state.ReplicaState.{ReplicaState}
use Rattle.mb_replica.specs.declared.sending.StepOutput.{StepOutput}
use Rattle.mb_replica.specs.Represents.{IsHost, Represents, StandsAt, tables_of}

-- a message of a kind other than COMMIT
abbrev pub IsNoCommit : StampedMessage → Type 0
IsNoCommit (stamped.Commit m) = ⊥
IsNoCommit m = Unit {0}

-- What a host agrees on was raised to a certificate.
pub record RisesTo (cert : StableCert) (old new : Protocol) : Type 0 where
  pub shape : new.shape ≡ old.shape
  pub host : new.host ≡ old.host
  pub usig : new.usig ≡ old.usig
  pub gates : new.gates ≡ old.gates
  pub log : new.log ≡ old.log
  pub stable : new.stable ≡ cert
  pub exec : new.exec ≡ old.exec
  pub normal : Becomes old.normal new.normal (λ x. above_low x cert.pos)
  pub change : new.change ≡ old.change
  pub asked : new.asked ≡ old.asked

module _ {V : Type 0} where
  -- ---- what a call writes

  -- the same host of the same system
  pub record IsSame (old new : ReplicaState V) : Type 0 where
    pub shape : new.protocol.shape ≡ old.protocol.shape
    pub host : new.protocol.host ≡ old.protocol.host
    pub secret : new.protocol.usig.secret ≡ old.protocol.usig.secret

  -- Nothing but tables of these kinds was written.
  pub record WritesGates (old new : ReplicaState V) : Type 0 where
    pub same : IsSame old new
    pub tables : tables_of new ≡ record (tables_of old) { gates = new.protocol.gates.items }

  pub record WritesNormal (old new : ReplicaState V) : Type 0 where
    pub same : IsSame old new
    pub tables : tables_of new ≡ record (tables_of old) { normal = new.protocol.normal }

  pub record WritesChange (old new : ReplicaState V) : Type 0 where
    pub same : IsSame old new
    pub tables : tables_of new ≡ record (tables_of old) { change = new.protocol.change }

  pub record WritesLog (old new : ReplicaState V) : Type 0 where
    pub same : IsSame old new
    pub tables : tables_of new ≡ record (tables_of old) { log = new.protocol.log }

  pub record WritesCounter (old new : ReplicaState V) : Type 0 where
    pub same : IsSame old new
    pub tables : tables_of new ≡ record (tables_of old) { counter = old.protocol.usig.counter + 1 }

  pub record WritesStamp (old new : ReplicaState V) : Type 0 where
    pub same : IsSame old new
    pub tables : tables_of new ≡ record (tables_of old) { gates = new.protocol.gates.items; log = new.protocol.log }

  -- A certificate was learnt: the tables of the normal case are raised, and snapshots and parts below it are gone.
  pub record WritesLearnt (cert : StableCert) (old new : ReplicaState V) : Type 0 where
    pub same : IsSame old new
    pub learns : Learns old.protocol.stable (Some cert) old.protocol.normal new.protocol.normal
    pub keeper : new.keeper ≡ (if nat_lt old.protocol.stable.pos cert.pos then raised cert.pos old.keeper else old.keeper)
    pub tables : tables_of new ≡ record (tables_of old) {
      normal = new.protocol.normal;
      stable = further old.protocol.stable (Some cert);
      shelf = new.keeper.snapshots;
      parts = new.keeper.fetched;
    }

  -- One gate was written alone, that of a host: the law says what it became.
  pub record WritesGate (h : ℕ) (Law : Gate → Gate → Type 0) (old new : ReplicaState V) : Type 0 where
    pub before : Gate
    pub behind : Gate
    pub there : slice_get old.protocol.gates.items h ≡ Some before
    pub law : Law before behind
    pub now : new.protocol.gates.items ≡ slice_set old.protocol.gates.items h behind
    pub writes : WritesGates old new

  -- It took the message of a mark, or was closed.
  abbrev pub GateFollows : ℕ → Mark → ReplicaState V → ReplicaState V → Type 0
  GateFollows h mark = WritesGate h (λ a b. Follows a mark b)

  abbrev pub GateCloses : ℕ → ℕ → ReplicaState V → ReplicaState V → Type 0
  GateCloses h counter = WritesGate h (λ a b. Closes a counter b)

  -- ---- which tables stand

  -- all tables but the gates and the own log
  pub record RestStands (me : Identity V) (t : Tables V) (d : History) : Type 0 where
    pub counter : t.counter ≡ counter_of d
    pub normal : NormalStands me t.normal d
    pub change : ChangeStands me t.change d
    pub stable : t.stable ≡ stable_of me d
    pub exec : t.exec ≡ exec_of d
    pub service : t.service ≡ state_of me d
    pub shelf : ShelfStands me t.shelf d
    pub parts : HeldStand me t.parts d
    pub asked : t.asked ≡ asked_host me d

  -- An accepted message was taken by all tables but its sender's gate, which follows last.
  pub record AwaitsGate (me : Identity V) (old new : ReplicaState V) (m : StampedMessage) (d : History) : Type 0 where
    pub who : IsHost me new
    pub gates : new.protocol.gates.items ≡ old.protocol.gates.items
    pub log : LogStands me new.protocol.log (Accepted (as_message m) ∷ d)
    pub rest : RestStands me (tables_of new) (Accepted (as_message m) ∷ d)

  -- A message was stamped and taken by all tables but the own gate and the own log, which follow when it is sent.
  pub record AwaitsPublish (me : Identity V) (r : ReplicaState V) (m : StampedMessage) (d : History) : Type 0 where
    pub who : IsHost me r
    pub gates : GatesStand me r.protocol.gates.items d
    pub log : LogStands me r.protocol.log d
    pub rest : RestStands me (tables_of r) (Stamped m ∷ d)

  -- ---- a message that passes

  -- behind a COMMIT that passed and casts a vote
  pub record BehindCommit (me : Identity V) (m : Commit) (d : History) : Type 0 where
    pub before : History
    pub is : d ≡ Accepted (message.Commit m) ∷ before
    pub casts : casts_vote me before m ≡ true
    pub passed : stamped_refusal me before (stamped.Commit m) ≡ None

  -- There is a history that the replica represents, at which this message passes.
  pub record LetsPass (r : ReplicaState V) (m : StampedMessage) : Type 0 where
    pub me : Identity V
    pub history : History
    pub represents : Represents me r history
    pub passes : stamped_refusal me history m ≡ None

  -- ---- a CHECKPOINT that is kept: its certificate is learnt, and then the own log is cut

  -- the tables that it writes: those of the normal case, the certificate, snapshots and parts
  pub record WritesKept (old new : ReplicaState V) : Type 0 where
    pub same : IsSame old new
    pub tables : tables_of new ≡ record (tables_of old) { normal = new.protocol.normal; stable = new.protocol.stable; shelf = new.keeper.snapshots; parts = new.keeper.fetched }

  -- these tables
  pub record KeepingStands (me : Identity V) (r : ReplicaState V) (d : History) : Type 0 where
    pub normal : NormalStands me r.protocol.normal d
    pub stable : r.protocol.stable ≡ stable_of me d
    pub shelf : ShelfStands me r.keeper.snapshots d
    pub parts : HeldStand me r.keeper.fetched d

  -- An entry with a CHECKPOINT that is not below the stable position comes behind a history for which they stand.
  pub record AwaitsKeeping (me : Identity V) (r : ReplicaState V) (m : Checkpoint) (e : Entry) (d : History) : Type 0 where
    pub who : IsHost me r
    pub sound : IsSound me d
    pub now : IsSound me (e ∷ d)
    pub fit : AreFit me (e ∷ d)
    pub brings : checkpoint_in e ≡ Some m
    pub kept : nat_le (low_of me d) m.pos ≡ true
    pub tables : KeepingStands me r d

  -- It was learnt, and the log, which holds all that was stamped, is not cut yet.
  pub record AwaitsCut (me : Identity V) (r : ReplicaState V) (e : Entry) (d : History) : Type 0 where
    pub who : IsHost me r
    pub kept : is_kept (low_of me d) (checkpoint_in e) ≡ true
    pub log : IsUncut me r.protocol.log e d
    pub counter : r.protocol.usig.counter ≡ counter_of (e ∷ d)
    pub normal : NormalStands me r.protocol.normal (e ∷ d)

  -- There is a history so.
  pub record BringsKept (r : ReplicaState V) (m : Checkpoint) : Type 0 where
    pub me : Identity V
    pub entry : Entry
    pub history : History
    pub awaits : AwaitsKeeping me r m entry history

  pub record BringsCut (r : ReplicaState V) : Type 0 where
    pub me : Identity V
    pub entry : Entry
    pub history : History
    pub awaits : AwaitsCut me r entry history

  -- The certificate on which kept CHECKPOINTs agree, if any, was learnt.
  abbrev pub Learnt : Option StableCert → ReplicaState V → ReplicaState V → Type 0
  Learnt None old new = new ≡ old
  Learnt (Some c) old new = WritesLearnt c old new

  pub record LearntAgreed (old new : ReplicaState V) : Type 0 where
    pub cert : Option StableCert
    pub answers : AnswersStable old.protocol.normal cert
    pub learnt : Learnt cert old new

  -- ---- the own log is cut by a certificate, where this goes forward and not beyond the counter

  abbrev pub goes_forward : ReplicaState V → FloorCert → Bool
  goes_forward r c = nat_lt (start r.protocol.log) (floor_counter r.protocol.host (Some c)) && nat_le (floor_counter r.protocol.host (Some c)) r.protocol.usig.counter

  -- The log holds so much.
  abbrev pub IsWithin : ReplicaState V → FloorCert → Type 0
  IsWithin r c = floor_counter r.protocol.host (Some c) ≤ start r.protocol.log + length r.protocol.log.entries

  pub record CutsBy (c : FloorCert) (old new : ReplicaState V) : Type 0 where
    pub forward : goes_forward old c ≡ true → new.protocol.log ≡ cut_at c old.protocol.log
    pub stays : goes_forward old c ≡ false → new.protocol.log ≡ old.protocol.log

  -- The certificate for this host's log that kept CHECKPOINTs make, if any, cut it.
  abbrev pub CutsFound : ReplicaState V → ReplicaState V → Option FloorCert → Type 0
  CutsFound old new None = new ≡ old
  CutsFound old new (Some c) = CutsBy c old new

  -- ---- the CHECKPOINT of this host

  -- A batch was just executed at a multiple of the interval. There is room for the CHECKPOINT of this state digest.
  pub record AwaitsCheckpoint (me : Identity V) (r : ReplicaState V) (done : StepOutput) (pos : ℕ) (state : Bytes) (x : Progress) : Type 0 where
    pub stands : StandsAt me r done x
    pub executed : JustExecuted me x.history pos
    pub whole : (pos % interval me.shape == 0) ≡ true
    pub room : has_room me x.history ≡ true
    pub digest : state ≡ state_digest (present_parts me x.history) pos

  -- There is a step so.
  pub record BringsCheckpoint (r : ReplicaState V) (done : StepOutput) (pos : ℕ) (state : Bytes) : Type 0 where
    pub me : Identity V
    pub left : Progress
    pub awaits : AwaitsCheckpoint me r done pos state left
