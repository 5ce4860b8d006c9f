-- What follows an event: the rules and the FETCH, where the answer says so.
use Rattle.std.proofs.Common.{◌≡◌, ◌∙◌, Bool, true, false, refl, sym, ap, subst, Result, Option, Some, None}
use Rattle.std.specs.Prelude.{IfOk}
use Rattle.mb_base.specs.declared.shape.Shape.{Shape}
use Rattle.mb_base.specs.Shapes.{Bytes}
use Rattle.mb_msg.specs.Reading.{message_of}
use Rattle.mb_msg.specs.declared.event.Event.TheVariants as event
use Rattle.mb_msg.specs.declared.event.Outcome.{Outcome}
use Rattle.mb_msg.specs.declared.event.Outcome.TheVariants as outcome
use Rattle.mb_msg.specs.declared.message.Message.{Message}
use Rattle.mb_model.specs.Histories.{History, Identity}
use Rattle.mb_model.specs.Sending.{Progress, begin}
use Rattle.mb_model.specs.Given.{Answer, answer, give}
use Rattle.mb_model.specs.HostStep.{transition, on_bytes, on_message, after_message, on_patience, after_patience, on_nudge, finished, finished_where}
use Rattle.mb_model.specs.HostStep as host
use Rattle.mb_fetch.specs.Fetched.{Fetched}
use Rattle.mb_executor.specs.Represents.{RepresentsFetched}
use Rattle.mb_refinement.specs.Stands.{HeldStand}
use Rattle.mb_replica.specs.declared.given.Reaction.{Reaction as GivenAnswer}
use Rattle.mb_replica.specs.declared.state.ReplicaState.{ReplicaState}
use Rattle.mb_replica.specs.declared.sending.StepOutput.{StepOutput}
use Rattle.mb_replica.specs.Represents.{Answers, StandsAt}
use Rattle.mb_replica.proofs.Answering.{same_taken, answer_of}

module _ {V : Type 0} (me : Identity V) where
  -- The outcome stays, and is not looked at.
  same_left : (follow asks : Bool) (d : History) (o : Outcome) (a : Answer) → (finished_where me follow asks d (answer o a.left)).left ≡ (finished_where me follow asks d a).left
  same_left true asks d o a = refl
  same_left false asks d o a = refl

  same_outcome : (follow asks : Bool) (d : History) (a : Answer) → (finished_where me follow asks d a).outcome ≡ a.outcome
  same_outcome true asks d a = refl
  same_outcome false asks d a = refl

  pub message_ends : (d : History) (m : Message) (a : GivenAnswer) (o : Outcome) (r : ReplicaState V) (done : StepOutput) → Answers me m a (give me m (begin d))
      → StandsAt me r done (finished_where me a.rules_follow a.asks d (answer o (give me m (begin d)).left)).left
      → (a.outcome ≡ (on_message me d m).outcome) × StandsAt me r done (on_message me d m).left
  message_ends d m a o r done is stands =
      let given : Answer = give me m (begin d) in
      let follow : Bool = host.rules_follow me given.outcome m in
      let asks : Bool = host.asks_on me m in
      let left : (finished_where me a.rules_follow a.asks d (answer o given.left)).left ≡ (on_message me d m).left =
      ap (λ (b : Bool). (finished_where me b a.asks d (answer o given.left)).left) is.follow
      ∙ (ap (λ (b : Bool). (finished_where me follow b d (answer o given.left)).left) is.asks
      ∙ same_left follow asks d o given) in
      (is.outcome ∙ sym (same_outcome follow asks d given), subst (λ (x : Progress). StandsAt me r done x) left stands)

  -- ---- signals

  pub patience_is : (d : History) → after_patience me d (on_patience me (begin d)) ≡ transition me d event.Patience
  unfolding transition
  patience_is d = refl

  pub nudge_is : (d : History) → finished me true d (on_nudge me (begin d)) ≡ transition me d event.Nudge
  unfolding transition
  nudge_is d = refl

  pub patience_ends : (d : History) (a : Answer) (g : GivenAnswer) (o other : Outcome) (r : ReplicaState V) (done : StepOutput) → g ≡ answer_of o → o ≡ a.outcome
      → StandsAt me r done (finished_where me g.rules_follow g.asks d (answer other a.left)).left
      → (o ≡ (after_patience me d a).outcome) × StandsAt me r done (after_patience me d a).left
  patience_ends d a g o other r done of is stands =
      let taken : Bool = host.is_taken me a.outcome in
      let follow : g.rules_follow ≡ taken = ap (λ (x : GivenAnswer). x.rules_follow) of ∙ (same_taken me o ∙ ap (host.is_taken me) is) in
      let left : (finished_where me g.rules_follow g.asks d (answer other a.left)).left ≡ (after_patience me d a).left =
      ap (λ (b : Bool). (finished_where me b g.asks d (answer other a.left)).left) follow
      ∙ (ap (λ (b : Bool). (finished_where me taken b d (answer other a.left)).left) (ap (λ (x : GivenAnswer). x.asks) of) ∙ same_left taken false d other a) in
      (is ∙ sym (same_outcome taken false d a), subst (λ (x : Progress). StandsAt me r done x) left stands)

  pub nudge_taken : (x : Progress) → (on_nudge me x).outcome ≡ outcome.Took
  unfolding on_nudge
  nudge_taken x = refl

  -- ---- the event

  pub given_is : (d : History) (s : Shape) (bytes : Bytes) → me.shape ≡ s → on_bytes me (message_of s bytes) d ≡ transition me d (event.Given bytes)
  unfolding transition
  given_is d s bytes e = ap (λ (t : Shape). on_bytes me (message_of t bytes) d) (sym e)

  -- one answer that is another
  pub answers_as : {E : Type 0} (r : ReplicaState V) (done : StepOutput) (result : Result Outcome E) (a b : Answer) → a ≡ b
      → IfOk result (λ o. (o ≡ a.outcome) × StandsAt me r done a.left) → IfOk result (λ o. (o ≡ b.outcome) × StandsAt me r done b.left)
  answers_as r done result a b is told = subst (λ (x : Answer). IfOk result (λ o. (o ≡ x.outcome) × StandsAt me r done x.left)) is told

-- the parts that were fetched, as the keeper has them
pub fetched_stand : {V : Type 0} (me : Identity V) (d : History) (held : Option Fetched) → HeldStand me held d → RepresentsFetched me held d
fetched_stand me d None stands = stands
fetched_stand me d (Some t) stands = stands
