-- What the calls of rules and events do, in the words of the definitions: where a replica stands before a call and behind it.
use Rattle.std.specs.Prelude.{◌≡◌, ℕ, ◌≤◌, ◌%◌, ◌==◌, true, Bool, List, [], ◌∷◌, ◌++◌, Some, Result, OnOk, IfOk}
use Rattle.mb_base.specs.Shapes.{Bytes, interval}
use Rattle.mb_service.specs.Machine.{ServiceMachine}
use Rattle.mb_parts.specs.declared.request.Request.{Request}
use Rattle.mb_msg.specs.declared.event.Outcome.{Outcome}
use Rattle.mb_msg.specs.declared.event.Placed.{Placed}
use Rattle.mb_model.specs.States.{Snapshots, state_digest, parts_of}
use Rattle.mb_model.specs.Histories.{Entry, History, Identity}
use Rattle.mb_model.specs.Stable.{low_of}
use Rattle.mb_model.specs.OwnLog.{has_room}
use Rattle.mb_model.specs.PlainChecks.{last_seq}
use Rattle.mb_model.specs.EnabledRules.{Rule, next_rule}
use Rattle.mb_model.specs.Making.{present_parts, checkpoint}
use Rattle.mb_model.specs.Sending.{Progress, stamp}
use Rattle.mb_model.specs.CarriedOut.{serve_all, serve, with_reply, carry_out}
use Rattle.mb_model.specs.Given.{Answer, answer as answered}
use Rattle.mb_steps.specs.Arises.{Adds, JustExecuted}
use Rattle.mb_history_laws.specs.Sound.{IsSound}
use Rattle.mb_refinement.specs.Stands.{GatesStand}
use Rattle.mb_replica.specs.declared.state.ReplicaState.{ReplicaState}
use Rattle.mb_replica.specs.declared.sending.StepOutput.{StepOutput}
use Rattle.mb_replica.specs.Represents.{IsHost, Serves, StandsServing, StandsAt}
use Rattle.mb_core.specs.declared.rules.Due.{Due}
use Rattle.mb_core.specs.Due.{IsNamed}
use Rattle.mb_core.specs.Serving.{ServesOn, KeepsWhere}

module _ {V : Type 0} where
  -- ---- a rule

  -- Where this rule is next the call carries it out.
  abbrev pub CarriesOut : {X E : Type 0} → Identity V → Progress → Rule → Result X E → ReplicaState V → StepOutput → ReplicaState V → StepOutput → Type 0
  CarriesOut me x rule result old done new more = StandsAt me old done x → next_rule me x.history ≡ Some rule → OnOk result (StandsAt me new more (carry_out me rule x))

  -- the one that the code names
  abbrev pub CarriesNamed : {X E : Type 0} → Identity V → Progress → Due → Rule → Result X E → ReplicaState V → StepOutput → ReplicaState V → StepOutput → Type 0
  CarriesNamed me x due rule result old done new more =
      StandsAt me old done x → IsNamed due rule → next_rule me x.history ≡ Some rule → OnOk result (StandsAt me new more (carry_out me rule x))

  -- Each gate stands behind this entry, too.
  abbrev pub GatesFollow : {X E : Type 0} → Identity V → History → Entry → Result X E → ReplicaState V → ReplicaState V → Type 0
  GatesFollow me d e result old new = IsHost me old → IsSound me d → Adds me d e → GatesStand me old.protocol.gates.items d → OnOk result (GatesStand me new.protocol.gates.items (e ∷ d))

  -- ---- the batch of a position

  -- All requests that are left are served.
  abbrev pub ServesAll : {E : Type 0} → Identity V → Progress → ℕ → List Request → Result (List Placed) E → ReplicaState V → StepOutput → ReplicaState V → StepOutput → Type 0
  ServesAll me x pos requests result old done new more = ServesOn me old done pos requests [] x → IfOk result (λ served. ServesOn me new more pos [] served (serve_all me pos requests x))

  -- The next one is, whichever are served and left, and the call tells whether it is fresh.
  abbrev pub ServesOne : {E : Type 0} → ServiceMachine V → Identity V → Progress → ℕ → Request → Result Bool E → ReplicaState V → StepOutput → ReplicaState V → StepOutput → Type 0
  ServesOne machine me x pos r result old done new more = (rest : List Request) (served : List Placed) → Serves machine me → ServesOn me old done pos (r ∷ rest) served x
      → IfOk result (λ fresh. ServesOn me new more pos rest (served ++ (record { request = r; fresh = fresh }) ∷ []) (serve me pos r x))

  -- A fresh request is answered to its client, whose table has a reply then.
  abbrev pub RepliesTo : {X E : Type 0} → Identity V → Progress → Placed → ℕ → Bool → Result X E → ReplicaState V → StepOutput → StepOutput → Type 0
  RepliesTo me x p client fresh result r done more = (served : List Placed) → StandsServing me r done served x
      → p.request.client ≡ client → p.fresh ≡ fresh → (fresh ≡ true → 1 ≤ last_seq me x.history client) → OnOk result (StandsServing me r more served (with_reply me p x))

  -- At a multiple of the interval the present state is kept as a snapshot.
  abbrev pub KeepsSnapshot : Snapshots V → ℕ → ReplicaState V → ReplicaState V → Type 0
  KeepsSnapshot snapshots pos old new = KeepsWhere (pos % interval old.protocol.shape == 0) pos (parts_of snapshots old.keeper.served) old.keeper.snapshots new.keeper.snapshots

  -- Behind a batch the CHECKPOINT of the present state is stamped.
  abbrev pub Certifies : {X E : Type 0} → Identity V → Progress → ℕ → Bytes → Result X E → ReplicaState V → StepOutput → ReplicaState V → StepOutput → Type 0
  Certifies me x pos state result old done new more = StandsAt me old done x → JustExecuted me x.history pos → (pos % interval me.shape == 0) ≡ true → has_room me x.history ≡ true
      → state ≡ state_digest (present_parts me x.history) pos → OnOk result (StandsAt me new more (stamp me (checkpoint me x.history pos) x))

  -- ---- the end of an event

  -- What follows an event, of which the outcome is known, and before which the stable position was this one.
  abbrev pub Finishes : {X E : Type 0} → (Identity V → Type 0) → ℕ → (Identity V → History → Answer → Answer) → Result X E → ReplicaState V → StepOutput → ReplicaState V → StepOutput → Type 0
  Finishes who before to result old done new more = (me : Identity V) (d : History) (x : Progress) (o : Outcome) → who me → StandsAt me old done x
      → before ≡ low_of me d → OnOk result (StandsAt me new more (to me d (answered o x)).left)
