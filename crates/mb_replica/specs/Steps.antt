-- What a call of a host's code does, in the words of the definitions. Before the call the replica, and what is done so far in the step, stand at some progress
-- of a step; behind it they stand where the definition says, unless memory ran out.
use Rattle.std.specs.Prelude.{◌≡◌, ℕ, ◌==◌, false, List, Option, Some, Result, OnOk, IfOk}
use Rattle.mb_base.specs.declared.names.Ui.{Ui}
use Rattle.mb_parts.specs.declared.floor.Floor.{Floor}
use Rattle.mb_msg.specs.declared.event.Outcome.{Outcome}
use Rattle.mb_msg.specs.declared.event.Placed.{Placed}
use Rattle.mb_msg.specs.declared.message.Message.{Message}
use Rattle.mb_msg.specs.declared.stamped.Stamped.{Stamped as StampedMessage}
use Rattle.mb_msg.specs.declared.transfer.Log.{Log}
use Rattle.mb_msg.specs.Fits.{FitsStamped, FitsLog}
use Rattle.mb_msg.specs.Stamps.{ui_of}
use Rattle.mb_model.specs.Histories.{History, Identity}
use Rattle.mb_model.specs.Sending.{Progress, begin}
use Rattle.mb_model.specs.KindChecks.{stamped_refusal}
use Rattle.mb_model.specs.Given.{Answer, closing, floor_shown, jump}
use Rattle.mb_replica.specs.declared.given.Reaction.{Reaction as GivenAnswer}
use Rattle.mb_replica.specs.declared.state.ReplicaState.{ReplicaState}
use Rattle.mb_replica.specs.declared.sending.StepOutput.{StepOutput}
use Rattle.mb_replica.specs.Represents.{StandsServing, StandsAt, Answers}

module _ {V : Type 0} where
  -- ---- calls that go on

  -- From each progress of such a host the call goes to the one that the definition gives.
  abbrev pub StepsTo : {X E : Type 0} → (Identity V → Type 0) → (Identity V → Progress → Progress) → Result X E → ReplicaState V → StepOutput → ReplicaState V → StepOutput → Type 0
  StepsTo who to result old done new more = (me : Identity V) (x : Progress) → who me → StandsAt me old done x → OnOk result (StandsAt me new more (to me x))

  -- From each that is as it has to be.
  abbrev pub StepsWhere : {X E : Type 0} → (Identity V → Type 0) → (Identity V → Progress → Type 0) → (Identity V → Progress → Progress) → Result X E → ReplicaState V → StepOutput → ReplicaState V → StepOutput → Type 0
  StepsWhere who may to result old done new more = (me : Identity V) (x : Progress) → who me → StandsAt me old done x → may me x → OnOk result (StandsAt me new more (to me x))

  -- From this one, where it is as it has to be, the call goes to that one.
  abbrev pub Goes : {X E : Type 0} → Identity V → Progress → Type 0 → Progress → Result X E → ReplicaState V → StepOutput → ReplicaState V → StepOutput → Type 0
  Goes me x may y result old done new more = StandsAt me old done x → may → OnOk result (StandsAt me new more y)

  -- A call that needs no memory, and has nothing to do with what is done so far, goes from a progress as it has to be to another.
  abbrev pub Moves : Identity V → Progress → Type 0 → Progress → ReplicaState V → ReplicaState V → Type 0
  Moves me x may y old new = (done : StepOutput) → StandsAt me old done x → may → StandsAt me new done y

  -- ---- calls that send, also in the middle of a batch

  -- From a progress as it has to be the call goes to another.
  abbrev pub Sends : {X E : Type 0} → Identity V → Progress → Progress → Result X E → ReplicaState V → StepOutput → StepOutput → Type 0
  Sends me x y result r done more = (served : List Placed) → StandsServing me r done served x → OnOk result (StandsServing me r more served y)

  abbrev pub SendsWhere : {X E : Type 0} → Identity V → Progress → Type 0 → Progress → Result X E → ReplicaState V → StepOutput → StepOutput → Type 0
  SendsWhere me x may y result r done more = (served : List Placed) → StandsServing me r done served x → may → OnOk result (StandsServing me r more served y)

  -- ---- calls that tell an outcome: it is that of the definition's answer, and the call goes to the progress that this leaves

  abbrev pub AnswersEvent : {E : Type 0} → (Identity V → Type 0) → (Identity V → History → Answer) → Result Outcome E → ReplicaState V → StepOutput → ReplicaState V → StepOutput → Type 0
  AnswersEvent who to result old done new more =
      (me : Identity V) (d : History) → who me → StandsAt me old done (begin d) → IfOk result (λ o. (o ≡ (to me d).outcome) × StandsAt me new more (to me d).left)

  abbrev pub AnswersAt : {E : Type 0} → (Identity V → Type 0) → (Identity V → Progress → Answer) → Result Outcome E → ReplicaState V → StepOutput → ReplicaState V → StepOutput → Type 0
  AnswersAt who to result old done new more =
      (me : Identity V) (x : Progress) → who me → StandsAt me old done x → IfOk result (λ o. (o ≡ (to me x).outcome) × StandsAt me new more (to me x).left)

  -- A call that sends nothing.
  abbrev pub AnswersQuietly : {E : Type 0} → (Identity V → Progress → Answer) → Result Outcome E → ReplicaState V → ReplicaState V → Type 0
  AnswersQuietly to result old new =
      (me : Identity V) (x : Progress) → (done : StepOutput) → StandsAt me old done x → IfOk result (λ o. (o ≡ (to me x).outcome) × StandsAt me new done (to me x).left)

  -- A call that tells what follows a message, too.
  abbrev pub Reacts : {E : Type 0} → Identity V → Message → Answer → Result GivenAnswer E → ReplicaState V → StepOutput → Type 0
  Reacts me m answer result new more = IfOk result (λ a. Answers me m a answer × StandsAt me new more answer.left)

  -- ---- calls that change a gate

  -- A message that may not stand there closes the gate of its sender.
  abbrev pub Closes : Identity V → Progress → Ui → Outcome → ReplicaState V → ReplicaState V → Type 0
  Closes me x ui outcome old new = (done : StepOutput) (m : StampedMessage) → StandsAt me old done x
      → FitsStamped old.protocol.shape m → ui ≡ ui_of m → stamped_refusal me x.history m ≡ Some outcome → StandsAt me new done (closing outcome ui x)

  -- The floor that a LOG shows moves the gate of its host on, which is another.
  abbrev pub Jumps : Identity V → Progress → ℕ → Option Floor → ReplicaState V → ReplicaState V → Type 0
  Jumps me x host floor old new = (done : StepOutput) (m : Log) → StandsAt me old done x
      → FitsLog me.shape m → host ≡ m.host → floor ≡ floor_shown me m.host m.floor → (host == me.host) ≡ false → StandsAt me new done (jump me host floor x)
