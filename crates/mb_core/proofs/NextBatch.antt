-- The next rule, where it is the execution of a batch.
use Rattle.std.proofs.Common.{◌≡◌, ◌∙◌, ℕ, [], ap, sym, subst, inl, inr, Option, Some}
use Rattle.mb_service.specs.Machine.{ServiceMachine}
use Rattle.mb_parts.specs.declared.batch.Batch.{Batch}
use Rattle.mb_model.specs.Histories.{History, Identity, here}
use Rattle.mb_model.specs.Stable.{low_of}
use Rattle.mb_model.specs.Positions.{exec_of, slot_at}
use Rattle.mb_model.specs.Sending.{Progress}
use Rattle.mb_model.specs.CarriedOut.{serve_all, close_slot, at_interval, execute, carry_out}
use Rattle.mb_history_laws.proofs.SoundRules.{serving_begins}
use Rattle.mb_normal.specs.Tables.{batch_of}
use Rattle.mb_model.specs.OwnLog.{has_other_room}
use Rattle.mb_model.specs.EnabledRules.{Rule, Execute, next_rule}
use Rattle.mb_model.proofs.Options.{or_some}
use Rattle.mb_change.specs.declared.due.ChangeDue.{ChangeDue}
use Rattle.mb_change.specs.declared.due.ChangeDue.TheVariants as due
use Rattle.mb_change.specs.Histories.{IsRule, first_rule}
use Rattle.mb_change.specs.Represents.{searches_of}
use Rattle.mb_change.specs.Rules.{due_with}
use Rattle.mb_change.proofs.Agreeing.{rules_agree}
use Rattle.mb_refinement.proofs.PositionsRules.{normal_rule, next_is, ExecuteIs, execute_is}
use Rattle.mb_replica.specs.declared.state.ReplicaState.{ReplicaState}
use Rattle.mb_replica.specs.declared.sending.StepOutput.{StepOutput}
use Rattle.mb_core.specs.declared.rules.Due.TheVariants as named
use Rattle.mb_core.specs.Due.{IsNamed, IsDue}
use Rattle.mb_replica.specs.Represents.{Represents, Serves, StandsAt}
use Rattle.mb_core.specs.Serving.{ServesOn, IsInBatch}
use Rattle.mb_core.proofs.Publishing.{nothing_served}

module _ {S : Type 0} (me : Identity S) (d : History) (p : ℕ) (b : Batch) where
  -- It is none of a view change.
  no_change : (x : ChangeDue) → IsRule me d x (Some (Execute p b)) → ⊥
  no_change due.Nothing is = is
  no_change (due.ViewChange view) is = is
  no_change due.NewView is = is
  no_change due.Enter is = is
  no_change due.Open is = is
  no_change (due.Join base) is = is

  pub execute_next : next_rule me d ≡ Some (Execute p b) → ExecuteIs me d p b
  execute_next e = execute_is me d p b (elim (or_some (first_rule me d) (normal_rule me d) (Execute p b) (sym (next_is me d) ∙ e)) [
    | inl first ↦ absurd (no_change _ (subst (IsRule me d (due_with me.shape me.host (here me d) (searches_of me d) (exec_of d) (low_of me d) (has_other_room me d))) first (rules_agree S me d)))
    | inr normal ↦ normal
  ])

-- ---- where the execution of a batch begins

module _ {V : Type 0} (me : Identity V) (r : ReplicaState V) (done : StepOutput) (x : Progress) (s : StandsAt me r done x) (p : ℕ) (b : Batch) (next : next_rule me x.history ≡ Some (Execute p b)) where
  is_next : ExecuteIs me x.history p b
  is_next = execute_next me x.history p b next

  -- Its batch is the one that is known at the position.
  pub batch_is : (o : Option Batch) → o ≡ batch_of (slot_at me x.history p) → o ≡ Some b
  batch_is o is = is ∙ is_next.batch

  pub begins : ServesOn me r done p b.requests [] x
  begins =
      record {
        stands = s;
        batch = b;
        serving = serving_begins me p b x.history is_next.enabled s.represents.tables.sound (nothing_served x.history s.serving);
      }

-- What carrying it out comes to, where this is its batch.
pub executed_is : {S : Type 0} (me : Identity S) (p : ℕ) (b batch : Batch) (x : Progress) → b ≡ batch → at_interval me p (close_slot me p (serve_all me p batch.requests x)) ≡ carry_out me (Execute p b) x
unfolding carry_out execute
executed_is me p b batch x same = ap (λ (c : Batch). at_interval me p (close_slot me p (serve_all me p c.requests x))) (sym same)

-- ---- there is a step so

module _ {V : Type 0} (machine : ServiceMachine V) (r : ReplicaState V) (done : StepOutput) (pos : ℕ) where
  by_rule : (me : Identity V) (x : Progress) (rule : Rule) → Serves machine me → StandsAt me r done x → IsNamed (named.Execute pos) rule → next_rule me x.history ≡ Some rule → (batch : Batch)
      → ((me : Identity V) → Represents me r x.history → Some batch ≡ batch_of (slot_at me x.history pos)) → IsInBatch machine r done pos batch.requests []
  by_rule me x (Execute p b) serves s is next batch known =
      let here : next_rule me x.history ≡ Some (Execute pos b) = next ∙ ap (λ (q : ℕ). Some (Execute q b)) (sym is) in
      let same : Some batch ≡ Some b = batch_is me r done x s pos b here (Some batch) (known me s.represents) in
      let equal : b ≡ batch = cc in
      record { me = me; left = x; serves = serves; stands = subst (λ (c : Batch). ServesOn me r done pos c.requests [] x) equal (begins me r done x s pos b here) }
  by_rule me x rule serves s is next batch known = absurd is

  pub in_batch : IsDue machine r done (named.Execute pos) → (batch : Batch) → ((me : Identity V) (d : History) → Represents me r d → Some batch ≡ batch_of (slot_at me d pos))
      → IsInBatch machine r done pos batch.requests []
  in_batch t batch known = by_rule t.me t.left t.rule t.serves t.stands t.named t.next batch (λ me rep. known me t.left.history rep)
