-- What a replica is: each of its tables stands for its searches in the host's history.
use Rattle.std.specs.Prelude.{◌≡◌, List, [], map}
use Rattle.mb_service.specs.Machine.{ServiceMachine}
use Rattle.mb_msg.specs.declared.event.Placed.{Placed}
use Rattle.mb_msg.specs.declared.event.Sent.{Sent}
use Rattle.mb_msg.specs.declared.event.Step.{Step}
use Rattle.mb_msg.specs.Spelling.{spelling}
use Rattle.mb_model.specs.Histories.{History, Identity}
use Rattle.mb_model.specs.CarriedOut.{just_served}
use Rattle.mb_model.specs.Sending.{Letter, Progress}
use Rattle.mb_model.specs.Given.{Answer}
use Rattle.mb_model.specs.HostStep.{rules_follow, asks_on}
use Rattle.mb_steps.specs.Arises.{IsWhole}
use Rattle.mb_msg.specs.declared.message.Message.{Message}
use Rattle.mb_msg.specs.declared.message.Message.TheVariants as message
use Rattle.mb_cache.specs.Represents.{machine_of, snapshots_of}
use Rattle.mb_replica.specs.declared.given.Reaction.{Reaction as GivenAnswer}
use Rattle.mb_refinement.specs.Tables.{Tables}
use Rattle.mb_refinement.specs.Stands.{Stand}
use Rattle.mb_encodable.specs.Fitting.{AreFit}
use Rattle.mb_replica.specs.declared.state.ReplicaState.{ReplicaState}
use Rattle.mb_replica.specs.declared.sending.StepOutput.{StepOutput}
use Rattle.mb_replica.specs.declared.told.StepRecord.{StepRecord}
use Rattle.mb_replica.specs.Told.{as_outgoing}

-- a message that is sent, as its bytes
abbrev pub as_sent : Letter → Sent
as_sent letter = record { to = letter.to; bytes = spelling letter.says }

-- a whole step is an answer
pub record IsStep (step : Step) (a : Answer) : Type 0 where
  pub outcome : step.outcome ≡ a.outcome
  pub sent : step.sent ≡ map as_sent a.left.sent
  pub executed : step.executed ≡ a.left.executed
  pub adopted : step.adopted ≡ a.left.installed

-- and so is one that tells what was stamped
pub record IsTold (told : StepRecord) (a : Answer) : Type 0 where
  pub outcome : told.outcome ≡ a.outcome
  pub sent : told.sent ≡ map as_outgoing a.left.sent
  pub executed : told.executed ≡ a.left.executed
  pub adopted : told.adopted ≡ a.left.installed

module _ {V : Type 0} where
  -- all that it keeps
  abbrev pub tables_of : ReplicaState V → Tables V
  tables_of r = record {
    counter = r.protocol.usig.counter;
    gates = r.protocol.gates.items;
    log = r.protocol.log;
    normal = r.protocol.normal;
    change = r.protocol.change;
    stable = r.protocol.stable;
    exec = r.protocol.exec;
    service = r.keeper.served;
    shelf = r.keeper.snapshots;
    parts = r.keeper.fetched;
    asked = r.protocol.asked;
  }

  -- which host it is
  pub record IsHost (me : Identity V) (r : ReplicaState V) : Type 0 where
    pub shape : me.shape ≡ r.protocol.shape
    pub host : me.host ≡ r.protocol.host
    pub secret : me.secret ≡ r.protocol.usig.secret

  -- A replica stands for a history of a host, also in the middle of a batch. All that is in it has the values of the grammar.
  pub record Represents (me : Identity V) (r : ReplicaState V) (d : History) : Type 0 where
    pub who : IsHost me r
    pub tables : Stand me (tables_of r) d
    pub fit : AreFit me d

  -- ---- the service

  -- Its service is this one, and begins with one of its states.
  pub record Serves (m : ServiceMachine V) (me : Identity V) : Type 0 where
    pub machine : me.machine ≡ machine_of m
    pub snapshots : me.snapshots ≡ snapshots_of m
    pub first : m.is_state me.initial

  -- ---- a step

  -- a replica in the middle of a step, and of a batch of which these requests are served, stands where the step stands
  pub record StandsServing (me : Identity V) (r : ReplicaState V) (done : StepOutput) (served : List Placed) (x : Progress) : Type 0 where
    pub represents : Represents me r x.history
    pub serving : just_served x.history ≡ served
    pub sent : done.sent ≡ map as_outgoing x.sent
    pub executed : done.executed ≡ x.executed
    pub installed : done.installed ≡ x.installed

  -- between two batches of a step
  abbrev pub StandsAt : Identity V → ReplicaState V → StepOutput → Progress → Type 0
  StandsAt me r done x = StandsServing me r done [] x

  -- ---- what is always so, whatever the history

  -- There is a history that it represents.
  pub record HasHistory (r : ReplicaState V) : Type 0 where
    pub me : Identity V
    pub history : History
    pub represents : Represents me r history

  -- There is a step that it is in, of a host with this service, between two batches.
  pub record IsInStep (machine : ServiceMachine V) (r : ReplicaState V) (done : StepOutput) : Type 0 where
    pub me : Identity V
    pub left : Progress
    pub serves : Serves machine me
    pub stands : StandsAt me r done left

  -- There is a history between two events that it represents, of a host with this service.
  pub record IsAtRest (machine : ServiceMachine V) (r : ReplicaState V) : Type 0 where
    pub me : Identity V
    pub history : History
    pub serves : Serves machine me
    pub represents : Represents me r history
    pub whole : IsWhole history

  -- ---- what is answered

  -- what became of a message, and what follows it
  pub record Answers (me : Identity V) (m : Message) (a : GivenAnswer) (is : Answer) : Type 0 where
    pub outcome : a.outcome ≡ is.outcome
    pub follow : a.rules_follow ≡ rules_follow me is.outcome m
    pub asks : a.asks ≡ asks_on me m

-- a stamped message or a REPLY
abbrev pub IsOther : Message → Type 0
IsOther (message.Prepare m) = Unit {0}
IsOther (message.Commit m) = Unit {0}
IsOther (message.Reply m) = Unit {0}
IsOther (message.Checkpoint m) = Unit {0}
IsOther (message.ViewChange m) = Unit {0}
IsOther (message.NewView m) = Unit {0}
IsOther (message.Enter m) = Unit {0}
IsOther (message.Open m) = Unit {0}
IsOther (message.Join m) = Unit {0}
IsOther m = ⊥
