-- A batch in the middle of its execution: which requests of it are served, and which are left.
use Rattle.std.specs.Prelude.{◌≡◌, ℕ, Bool, true, false, List}
use Rattle.mb_base.specs.Shapes.{Bytes}
use Rattle.mb_service.specs.Machine.{ServiceMachine}
use Rattle.mb_parts.specs.declared.request.Request.{Request}
use Rattle.mb_parts.specs.declared.batch.Batch.{Batch}
use Rattle.mb_msg.specs.declared.event.Placed.{Placed}
use Rattle.mb_model.specs.Histories.{Identity}
use Rattle.mb_model.specs.Sending.{Progress}
use Rattle.mb_steps.specs.Arises.{JustExecuted}
use Rattle.mb_history_laws.specs.Sound.{IsServing}
use Rattle.mb_fetch.specs.Snapshots.{Snapshot, StandsWith}
use Rattle.mb_replica.specs.declared.state.ReplicaState.{ReplicaState}
use Rattle.mb_replica.specs.declared.sending.StepOutput.{StepOutput}
use Rattle.mb_replica.specs.Represents.{tables_of, Serves, StandsServing, StandsAt}
use Rattle.mb_replica.specs.Between.{IsSame}

module _ {V : Type 0} where
  -- Of the batch at a position these requests are served, and these are left.
  pub record ServesOn (me : Identity V) (r : ReplicaState V) (done : StepOutput) (pos : ℕ) (more : List Request) (served : List Placed) (x : Progress) : Type 0 where
    pub stands : StandsServing me r done served x
    pub batch : Batch
    pub serving : IsServing me pos batch more x.history

  module _ (machine : ServiceMachine V) (r : ReplicaState V) (done : StepOutput) (pos : ℕ) where
    -- There is a step so, of a host with this service.
    pub record IsInBatch (more : List Request) (served : List Placed) : Type 0 where
      pub me : Identity V
      pub left : Progress
      pub serves : Serves machine me
      pub stands : ServesOn me r done pos more served left

    -- There is a step in which the batch at this position was just executed.
    pub record IsBehindBatch : Type 0 where
      pub me : Identity V
      pub left : Progress
      pub serves : Serves machine me
      pub stands : StandsAt me r done left
      pub executed : JustExecuted me left.history pos

  -- ---- the snapshot at a multiple of the interval

  -- Nothing but the snapshots was written.
  pub record WritesShelf (old new : ReplicaState V) : Type 0 where
    pub same : IsSame old new
    pub tables : tables_of new ≡ record (tables_of old) { shelf = new.keeper.snapshots }

-- One of these parts was kept, or none.
abbrev pub KeepsWhere : Bool → ℕ → List Bytes → List Snapshot → List Snapshot → Type 0
KeepsWhere true pos parts old new = StandsWith old pos parts new
KeepsWhere false pos parts old new = new ≡ old
