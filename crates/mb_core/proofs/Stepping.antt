-- How a step goes on: between two batches of it the replica stands where the step stands.
use Rattle.std.proofs.Common.{◌≡◌, List, [], ◌∷◌, map, Option, Some, None, refl, sym, ap, subst, ◌∙◌}
use Rattle.mb_service.specs.Machine.{ServiceMachine}
use Rattle.mb_msg.specs.declared.event.Event.{Event}
use Rattle.mb_msg.specs.declared.event.Outcome.{Outcome}
use Rattle.mb_msg.specs.declared.event.Sent.{Sent}
use Rattle.mb_msg.specs.declared.event.Step.{Step}
use Rattle.mb_model.specs.Histories.{History, Identity}
use Rattle.mb_model.specs.Sending.{Letter, Progress, begin}
use Rattle.mb_model.specs.EnabledRules.{Rule, next_rule}
use Rattle.mb_model.specs.CarriedOut.{carry_out}
use Rattle.mb_model.specs.Given.{Answer}
use Rattle.mb_model.specs.HostStep.{transition}
use Rattle.mb_steps.specs.Arises.{IsWhole}
use Rattle.mb_steps.proofs.StepArises.{none_served}
use Rattle.mb_history_laws.proofs.SoundRules.{transition_sound}
use Rattle.mb_refinement.specs.Tables.{Tables}
use Rattle.mb_refinement.specs.Stands.{Stand}
use Rattle.mb_executor.specs.Keeping.{Keeping}
use Rattle.mb_replica.specs.declared.protocol.Protocol.{Protocol}
use Rattle.mb_replica.specs.declared.state.ReplicaState.{ReplicaState}
use Rattle.mb_replica.specs.declared.sending.StepOutput.{StepOutput}
use Rattle.mb_core.specs.declared.rules.Due.{Due}
use Rattle.mb_core.specs.Due.{Names, IsNamed, IsDue}
use Rattle.mb_replica.specs.declared.told.Outgoing.{Outgoing}
use Rattle.mb_replica.specs.declared.told.StepRecord.{StepRecord}
use Rattle.mb_replica.specs.Told.{as_outgoing, plain}
use Rattle.mb_replica.specs.Represents.{Represents, Serves, StandsAt, HasHistory, IsInStep, IsAtRest, IsStep, IsTold, as_sent}

module _ {V : Type 0} where
  pub has_history : (me : Identity V) (r : ReplicaState V) (done : StepOutput) (x : Progress) → StandsAt me r done x → HasHistory r
  has_history me r done x stands = record { me = me; history = x.history; represents = stands.represents }

  -- at the beginning of a step nothing is done
  pub stands_begin : (me : Identity V) (r : ReplicaState V) (done : StepOutput) (d : History) → Represents me r d → IsWhole d → done.sent ≡ [] → done.executed ≡ [] → done.installed ≡ None → StandsAt me r done (begin d)
  stands_begin me r done d rep whole sent executed installed = record { represents = rep; serving = none_served d whole; sent = sent; executed = executed; installed = installed }

-- a step that is told
pub is_told : {V : Type 0} (me : Identity V) (r : ReplicaState V) (done : StepOutput) (told : StepRecord) (o : Outcome) (a : Answer) → told ≡ record { outcome = o; sent = done.sent; executed = done.executed; adopted = done.installed } → o ≡ a.outcome → StandsAt me r done a.left → IsTold told a
is_told me r done told o a is same stands = record {
  outcome = ap (λ (t : StepRecord). t.outcome) is ∙ same;
  sent = ap (λ (t : StepRecord). t.sent) is ∙ stands.sent;
  executed = ap (λ (t : StepRecord). t.executed) is ∙ stands.executed;
  adopted = ap (λ (t : StepRecord). t.adopted) is ∙ stands.installed;
}

plain_sent : (letters : List Letter) → map plain (map as_outgoing letters) ≡ map as_sent letters
plain_sent [] = refl
plain_sent (l ∷ ls) = ap (λ (r : List Sent). as_sent l ∷ r) (plain_sent ls)

-- and the step alone
pub is_step : (told : StepRecord) (step : Step) (a : Answer) → step ≡ record { outcome = told.outcome; sent = map plain told.sent; executed = told.executed; adopted = told.adopted } → IsTold told a → IsStep step a
is_step told step a is t = record {
  outcome = ap (λ (s : Step). s.outcome) is ∙ t.outcome;
  sent = ap (λ (s : Step). s.sent) is ∙ (ap (λ (l : List Outgoing). map plain l) t.sent ∙ plain_sent a.left.sent);
  executed = ap (λ (s : Step). s.executed) is ∙ t.executed;
  adopted = ap (λ (s : Step). s.adopted) is ∙ t.adopted;
}

module _ {V : Type 0} (machine : ServiceMachine V) where
  abbrev IsService : Identity V → Type 0
  IsService me = Serves machine me

  pub step_history : (r : ReplicaState V) (done : StepOutput) → IsInStep machine r done → HasHistory r
  step_history r done s = has_history s.me r done s.left s.stands

  -- the rule that the code names is next
  pub is_due : (r : ReplicaState V) (done : StepOutput) (due : Due) → IsInStep machine r done → ((me : Identity V) (d : History) → Represents me r d → Names (Some due) (next_rule me d))
      → IsDue machine r done due
  is_due r done due s named = by_rule (next_rule s.me s.left.history) refl (named s.me s.left.history s.stands.represents) where
    by_rule : (o : Option Rule) → next_rule s.me s.left.history ≡ o → Names (Some due) o → IsDue machine r done due
    by_rule None e n = absurd n
    by_rule (Some rule) e n = record { me = s.me; left = s.left; rule = rule; serves = s.serves; stands = s.stands; named = n; next = e }

  -- and is carried out
  pub is_done : (r new : ReplicaState V) (done more : StepOutput) (due : Due) → IsDue machine r done due
      → ((me : Identity V) (x : Progress) (rule : Rule) → IsService me → StandsAt me r done x → IsNamed due rule → next_rule me x.history ≡ Some rule → StandsAt me new more (carry_out me rule x))
      → IsInStep machine new more
  is_done r new done more due is carried = record { me = is.me; left = carry_out is.me is.rule is.left; serves = is.serves; stands = carried is.me is.left is.rule is.serves is.stands is.named is.next }

  -- at the beginning of a step
  pub step_begins : (r : ReplicaState V) (done : StepOutput) → IsAtRest machine r → done.sent ≡ [] → done.executed ≡ [] → done.installed ≡ None → IsInStep machine r done
  step_begins r done a sent executed installed = record { me = a.me; left = begin a.history; serves = a.serves; stands = stands_begin a.me r done a.history a.represents a.whole sent executed installed }

  -- what a step does of any history it stands for, it does of that which it is in
  pub step_goes_on : (r new : ReplicaState V) (done more : StepOutput) (f : Identity V → Progress → Progress) → IsInStep machine r done
      → ((me : Identity V) (x : Progress) → IsService me → StandsAt me r done x → StandsAt me new more (f me x)) → IsInStep machine new more
  step_goes_on r new done more f s stands = record { me = s.me; left = f s.me s.left; serves = s.serves; stands = stands s.me s.left s.serves s.stands }

  -- at its end it stands for what the event leaves, and is at rest
  pub step_ends : (r new : ReplicaState V) (event : Event) → IsAtRest machine r
      → ((me : Identity V) (d : History) → IsService me → Represents me r d → IsWhole d → Represents me new (transition me d event).left.history)
      → IsAtRest machine new
  step_ends r new event a represents = record {
    me = a.me;
    history = (transition a.me a.history event).left.history;
    serves = a.serves;
    represents = represents a.me a.history a.serves a.represents a.whole;
    whole = (transition_sound a.me a.history event a.represents.tables.sound a.whole).1;
  }
