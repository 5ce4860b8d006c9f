-- The rules one after the other, and that each is the one that the code names.
use Rattle.std.proofs.Common.{◌≡◌, ℕ, zero, suc, List, Option, Some, None, Result, refl, sym, ap, subst, ◌∙◌}
use Rattle.std.specs.Prelude.{OnOk}
use Rattle.mb_base.specs.Limits.{rule_limit}
use Rattle.mb_service.specs.Machine.{ServiceMachine}
use Rattle.mb_msg.specs.declared.change.ViewChange.{ViewChange}
use Rattle.mb_msg.specs.declared.change.NewView.{NewView}
use Rattle.mb_msg.specs.declared.change.Plan.{Plan}
use Rattle.mb_parts.specs.declared.batch.Batch.{Batch}
use Rattle.mb_parts.specs.declared.certificates.Evidence.{Evidence}
use Rattle.mb_model.specs.declared.known.KnownSlot.{KnownSlot}
use Rattle.mb_model.specs.Histories.{History, Identity}
use Rattle.mb_model.specs.Sending.{Progress}
use Rattle.mb_model.specs.EnabledRules.{Rule, ChangeView, Announce, Enter, Open, Join, Commit, Execute, Prepare, next_rule}
use Rattle.mb_model.specs.CarriedOut.{carry_out, if_enabled, run_rules, enough}
use Rattle.mb_replica.specs.declared.state.ReplicaState.{ReplicaState}
use Rattle.mb_replica.specs.declared.sending.StepOutput.{StepOutput}
use Rattle.mb_core.specs.declared.rules.Due.{Due}
use Rattle.mb_core.specs.declared.rules.Due.TheVariants as due
use Rattle.mb_core.specs.Due.{Names, IsNamed}
use Rattle.mb_replica.specs.Represents.{Represents, Serves, StandsAt}

-- ---- the rule of a name

pub change_view_named : (view : ℕ) (r : Rule) → IsNamed (due.ChangeView view) r → r ≡ ChangeView view
change_view_named view (ChangeView target) is = ap ChangeView (sym is)
change_view_named view r is = absurd is

pub announce_named : (r : Rule) → IsNamed due.Announce r → (changes : List ViewChange) × (r ≡ Announce changes)
announce_named (Announce changes) is = (changes, refl)
announce_named r is = absurd is

pub enter_named : (r : Rule) → IsNamed due.Enter r → (n : NewView) × (r ≡ Enter n)
enter_named (Enter n) is = (n, refl)
enter_named r is = absurd is

pub open_named : (r : Rule) → IsNamed due.Open r → (e : Evidence) × ((plan : Plan) × (r ≡ Open e plan))
open_named (Open e plan) is = (e, (plan, refl))
open_named r is = absurd is

pub join_named : (r : Rule) → IsNamed due.Join r → r ≡ Join
join_named Join is = refl
join_named r is = absurd is

pub commit_named : (pos : ℕ) (r : Rule) → IsNamed (due.Commit pos) r → (k : KnownSlot) × ((b : Batch) × (r ≡ Commit pos k b))
commit_named pos (Commit p k b) is = (k, (b, ap (λ n. Commit n k b) (sym is)))
commit_named pos r is = absurd is

pub execute_named : (pos : ℕ) (r : Rule) → IsNamed (due.Execute pos) r → (b : Batch) × (r ≡ Execute pos b)
execute_named pos (Execute p b) is = (b, ap (λ n. Execute n b) (sym is))
execute_named pos r is = absurd is

pub prepare_named : (r : Rule) → IsNamed due.Prepare r → (pos : ℕ) × ((b : Batch) × (r ≡ Prepare pos b))
prepare_named (Prepare p b) is = (p, (b, refl))
prepare_named r is = absurd is

-- ---- one more rule, or none

module _ {V : Type 0} (me : Identity V) where
  one_more : (n : ℕ) (x : Progress) (rule : Rule) → next_rule me x.history ≡ Some rule → run_rules me (suc n) x ≡ run_rules me n (carry_out me rule x)
  unfolding run_rules
  one_more n x rule e = ap (λ r. if_enabled me r x (λ y. run_rules me n y)) e

  no_more : (n : ℕ) (x : Progress) → next_rule me x.history ≡ None → run_rules me n x ≡ x
  unfolding run_rules
  no_more zero x e = refl
  no_more (suc n) x e = ap (λ r. if_enabled me r x (λ y. run_rules me n y)) e

  -- The replica stands where so many rules are left to be carried out.
  pub record Running (r : ReplicaState V) (done : StepOutput) (left : ℕ) (all : Progress) : Type 0 where
    pub at : Progress
    pub stands : StandsAt me r done at
    pub rest : run_rules me left at ≡ all

  pub begins : (r : ReplicaState V) (done : StepOutput) (x : Progress) (left : ℕ) → left ≡ rule_limit → StandsAt me r done x → Running r done left (run_rules me enough x)
  unfolding enough
  begins r done x left is st = record { at = x; stands = st; rest = ap (λ n. run_rules me n x) is }

  pub ends : (r : ReplicaState V) (done : StepOutput) (left : ℕ) (all : Progress) → left ≡ 0 → Running r done left all → StandsAt me r done all
  unfolding run_rules
  ends r done left all is run = subst (λ (x : Progress). StandsAt me r done x) (ap (λ n. run_rules me n run.at) (sym is) ∙ run.rest) run.stands

  -- no rule is enabled
  pub stops : (r : ReplicaState V) (done : StepOutput) (left : ℕ) (all : Progress) → ((d : History) → Represents me r d → Names None (next_rule me d)) → Running r done left all → StandsAt me r done all
  stops r done left all named run = subst (λ (x : Progress). StandsAt me r done x) (sym (no_more left run.at (named run.at.history run.stands.represents)) ∙ run.rest) run.stands

  -- One is enabled, and is carried out.
  pub goes_on : (r new : ReplicaState V) (before after : StepOutput) (due : Due) (left more : ℕ) (all : Progress) → left ≡ suc more
      → ((d : History) → Represents me r d → Names (Some due) (next_rule me d))
      → ((x : Progress) (rule : Rule) → StandsAt me r before x → IsNamed due rule → next_rule me x.history ≡ Some rule → StandsAt me new after (carry_out me rule x))
      → Running r before left all → Running new after more all
  goes_on r new before after due left more all is named carried run = by_rule (next_rule me run.at.history) refl (named run.at.history run.stands.represents) where
    by_rule : (o : Option Rule) → next_rule me run.at.history ≡ o → Names (Some due) o → Running new after more all
    by_rule None e n = absurd n
    by_rule (Some rule) e n = record {
      at = carry_out me rule run.at;
      stands = carried run.at rule run.stands n e;
      rest = sym (one_more more run.at rule e) ∙ (ap (λ k. run_rules me k run.at) (sym is) ∙ run.rest);
    }

-- Behind so many rounds the replica stands where the rules that are left go on, whatever it stood for at first.
abbrev pub Runs : {V : Type 0} → ServiceMachine V → ReplicaState V → StepOutput → ReplicaState V → StepOutput → ℕ → Type 0
Runs {V} machine r done now more left = (me : Identity V) (x : Progress) → Serves machine me → StandsAt me r done x → Running me now more left (run_rules me enough x)

-- The rule is this one, so what carries out this one carries out the rule.
pub carried_as : {V : Type 0} {T E : Type 0} (me : Identity V) (new : ReplicaState V) (more : StepOutput) (x : Progress) (result : Result T E) (rule this : Rule) → rule ≡ this → next_rule me x.history ≡ Some rule
    → (next_rule me x.history ≡ Some this → OnOk result (StandsAt me new more (carry_out me this x))) → OnOk result (StandsAt me new more (carry_out me rule x))
carried_as me new more x result rule this is next f = subst (λ (r : Rule). OnOk result (StandsAt me new more (carry_out me r x))) (sym is) (f (next ∙ ap (λ (r : Rule). Some r) is))
