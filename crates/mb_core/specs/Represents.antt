-- What a replica is: the state of a host, which stands for a history of it.
use Rattle.std.specs.Prelude.{Result, IfOk}
use Rattle.mb_service.specs.Machine.{ServiceMachine}
use Rattle.mb_msg.specs.declared.event.Event.{Event}
use Rattle.mb_model.specs.Histories.{History, Identity}
use Rattle.mb_model.specs.Given.{Answer}
use Rattle.mb_model.specs.HostStep.{transition}
use Rattle.mb_steps.specs.Arises.{IsWhole}
use Rattle.mb_replica.specs.Represents as state
use Rattle.mb_core.specs.declared.replica.Replica.{Replica}

module _ {V : Type 0} where
  -- which host it is
  abbrev pub IsHost : Identity V → Replica V → Type 0
  IsHost me r = state.IsHost me r.state

  -- It stands for a history of a host, also in the middle of a batch.
  abbrev pub Represents : Identity V → Replica V → History → Type 0
  Represents me r d = state.Represents me r.state d

  -- There is a history between two events that it represents, of a host with this service.
  abbrev pub IsAtRest : ServiceMachine V → Replica V → Type 0
  IsAtRest machine r = state.IsAtRest machine r.state

  -- It stands for what the answer leaves, which is a whole history.
  abbrev pub StandsBehind : Identity V → Answer → Replica V → Type 0
  StandsBehind me a r = Represents me r a.left.history × IsWhole a.left.history

  -- Whatever history a host of this service stands for, what comes of an event is the answer of the definitions, and it stands for what that leaves.
  abbrev pub StepsAs : {X E : Type 0} → ServiceMachine V → Event → (X → Answer → Type 0) → Replica V → Result X E → Replica V → Type 0
  StepsAs machine event tells old result new = (me : Identity V) (d : History) → state.Serves machine me → Represents me old d → IsWhole d
      → IfOk result (λ x. tells x (transition me d event) × StandsBehind me (transition me d event) new)
