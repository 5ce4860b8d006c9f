-- The OPEN of another host that completes f+1 for the position behind the last executed one is executed in the step in which it is given.
use Rattle.std.proofs.Common.{◌≡◌, ℕ, ◌<◌, ◌≤◌, true, false, ◌∷◌, refl, sym, ap, subst, ◌∙◌, arith, inl, inr, Option, Some, None}
use Rattle.std.specs.Prelude.{◌==◌, nat_lt}
use Rattle.std.proofs.lemmas.Bool.{cases_Bool, and_from, and_right, eq-eqb, ne_eqb, ltb-true}
use Rattle.mb_base.specs.Shapes.{IsShape, HasQuorum, host_count}
use Rattle.mb_parts.specs.declared.batch.Batch.{Batch}
use Rattle.mb_parts.specs.declared.certificates.Evidence.{Evidence}
use Rattle.mb_parts.specs.Bares.{batch_digest}
use Rattle.mb_parts.specs.Ordered.{current_view, is_opened, is_entered as entered_in, last_position}
use Rattle.mb_msg.specs.declared.message.Message.TheVariants as message
use Rattle.mb_msg.specs.declared.change.Open.{Open}
use Rattle.mb_msg.specs.declared.change.Plan.{Plan}
use Rattle.mb_msg.specs.declared.stamped.Stamped.TheVariants as stamped
use Rattle.mb_msg.specs.Plans.{plan_digest}
use Rattle.mb_model.specs.declared.known.Vote.{Vote}
use Rattle.mb_model.specs.declared.known.KnownSlot.{KnownSlot}
use Rattle.mb_model.specs.Votes.{is_vote}
use Rattle.mb_model.specs.Histories.{Entry, Accepted, History, Identity, origin, taken_of, here, view_of, stamped as all_stamped}
use Rattle.mb_model.specs.Held.{wish_of, new_view_of, opened_by, is_current, evidence_view, evidence_of, is_news, gives_plan, plan_in, plan_held}
use Rattle.mb_model.specs.Stable.{stable_of, low_of, log_floor, plan_base, further}
use Rattle.mb_model.specs.Positions.{exec_of, batch_from, slot_in, slot_vote, vote_of, counts_at}
use Rattle.mb_model.specs.Sending.{begin}
use Rattle.mb_model.specs.KindChecks.{stamped_refusal}
use Rattle.mb_model.specs.EnabledRules.{IsQuiescent}
use Rattle.mb_model.specs.Given.{give_stamped}
use Rattle.mb_model.specs.HostStep.{is_taken}
use Rattle.mb_model.proofs.ShapesFit.{shape_fits}
use Rattle.mb_steps.proofs.StepArises.{ArisesWhole}
use Rattle.mb_steps.proofs.StepOwnStamped.{steady}
use Rattle.mb_steps.proofs.StepPotential.{max_none}
use Rattle.mb_world_model.specs.World.{System, self_of}
use Rattle.mb_world_model.specs.WorldSteps.{world}
use Rattle.mb_promise.specs.NothingLeft.{has_vote, Lacks, ExecutesWithOpen}
use Rattle.mb_each_host.proofs.Words.{window_is}
use Rattle.mb_reading_laws.proofs.ReadFits.{read_fits}
use Rattle.mb_obligations.proofs.Taken.{stamped_passed}
use Rattle.mb_obligations.proofs.TakesValid.{valid_passes}
use Rattle.mb_obligations.proofs.Staying.{Stays}
use Rattle.mb_obligations.proofs.Voted.{IsVoted, slot_kept, completes}
use Rattle.mb_obligations.proofs.Running.{Waits, calm_still}
use Rattle.mb_obligations.proofs.OpensCount.{vote_is}
use Rattle.mb_obligations.proofs.OwnCounts.{vote_now}
use Rattle.mb_obligations.proofs.Completing.{same_vote, taken_so, step_executes, calm_before, quiescent, arisen}

module _ {S : Type 0} (self : Identity S) where
  -- Evidence of the view that is open is held, or of a later one.
  no_news : (d : History) (e : Evidence) → e.view ≤ evidence_view (evidence_of self d) → is_news self d (evidence_of self d) e ≡ false
  no_news d e below = elim (cases_Bool (nat_lt (evidence_view (evidence_of self d)) e.view)) [
    | inl more ↦ let lt = ltb-true (evidence_view (evidence_of self d)) e.view more in absurd (omega (arith, lt, below))
    | inr no_more ↦ and_right (is_current self d e.view) _ no_more
  ]

  gives_none : (d : History) (e : Evidence) (plan : Plan) → is_news self d (evidence_of self d) e ≡ false → gives_plan self d (Some (e.view, plan)) e ≡ false
  gives_none d e plan old = rw (old, eq-eqb e.view e.view refl) (and_right (is_current self d e.view) _ (and_right (evidence_view (evidence_of self d) == e.view) false refl))

  open_low : (d : History) (m : Open) → gives_plan self d (plan_held self d) m.evidence ≡ false → low_of self (Accepted (message.Open m) ∷ d) ≡ low_of self d
  unfolding stable_of
  open_low d m none =
      let brings : plan_in self d (plan_held self d) (Accepted (message.Open m)) ≡ None = rw none refl in
      ap (λ (o : Option (ℕ × Plan)). (further (stable_of self d) (plan_base o)).pos) brings

  open_last : (d : History) (m : Open) → (m.ui.host == self.host) ≡ false → (here self (Accepted (message.Open m) ∷ d)).last ≡ (here self d).last
  unfolding origin taken_of
  open_last d m other = rw other refl

  -- The OPEN of another in the open view whose plan is held changes nothing but the votes.
  takes_open : (d : History) (m : Open) (plan : Plan) → (m.ui.host ≡ self.host → ⊥) → is_news self d (evidence_of self d) m.evidence ≡ false → plan_held self d ≡ Some (m.evidence.view, plan)
      → Stays self d (Accepted (message.Open m) ∷ d)
  unfolding origin taken_of current_view is_opened entered_in last_position wish_of new_view_of evidence_of log_floor exec_of all_stamped
  takes_open d m plan apart old held =
      let other : (m.ui.host == self.host) ≡ false = ne_eqb m.ui.host self.host apart in
      let none : gives_plan self d (plan_held self d) m.evidence ≡ false = rw held (gives_none d m.evidence plan old) in
      record {
        view = rw other refl;
        opened = rw other refl;
        wishes = λ h. max_none self (wish_of self d h);
        new_view = refl;
        evidence = rw old refl;
        low = open_low d m none;
        exec = refl;
        last = λ less. omega (arith, less, open_low d m none, open_last d m other);
        room = λ r. r;
      }

  opened_now : (d : History) (m : Open) → opened_by (Accepted (message.Open m) ∷ d) m.ui.host ≡ Some m.evidence
  unfolding opened_by
  opened_now d m = rw (eq-eqb m.ui.host m.ui.host refl) refl

  held_still : (d : History) (m : Open) (plan : Plan) → is_news self d (evidence_of self d) m.evidence ≡ false → plan_held self d ≡ Some (m.evidence.view, plan)
      → plan_held self (Accepted (message.Open m) ∷ d) ≡ Some (m.evidence.view, plan)
  unfolding plan_held
  held_still d m plan old held =
      let none : gives_plan self d (plan_held self d) m.evidence ≡ false = rw held (gives_none d m.evidence plan old) in
      rw none held

  open_counts : (d : History) (m : Open) (plan : Plan) (pos : ℕ) (c : Batch) → is_news self d (evidence_of self d) m.evidence ≡ false → plan_held self d ≡ Some (m.evidence.view, plan)
      → plan_digest plan ≡ m.evidence.plan → batch_from plan.base.pos pos plan.batches ≡ Some c → counts_at self (Accepted (message.Open m) ∷ d) m.evidence.view pos ≡ true
      → vote_of self d m.ui.host m.evidence.view pos ≡ None
      → vote_of self (Accepted (message.Open m) ∷ d) m.ui.host m.evidence.view pos ≡ Some (record { counter = m.evidence.counter; request = batch_digest c })
  open_counts d m plan pos c old held digest at there none =
      let e : Entry = Accepted (message.Open m) in
      vote_now self e d m.ui.host m.evidence.view pos (record { counter = m.evidence.counter; request = batch_digest c }) none refl there
      (vote_is self (e ∷ d) m.ui.host m.evidence.view pos m.evidence plan c (opened_now d m) (held_still d m plan old held) refl digest at)

  open_votes : (d : History) (m : Open) (plan : Plan) (pos : ℕ) (k : KnownSlot) (c : Batch) → m.ui.host < host_count self.shape → is_news self d (evidence_of self d) m.evidence ≡ false
      → plan_held self d ≡ Some (m.evidence.view, plan) → plan_digest plan ≡ m.evidence.plan → batch_from plan.base.pos pos plan.batches ≡ Some c
      → counts_at self (Accepted (message.Open m) ∷ d) m.evidence.view pos ≡ true → m.evidence.view ≡ view_of self d → m.evidence.counter ≡ k.counter → batch_digest c ≡ k.digest
      → Lacks self d m.ui.host pos (slot_vote k) → view_of self (Accepted (message.Open m) ∷ d) ≡ view_of self d → HasQuorum self.shape (has_vote self (Accepted (message.Open m) ∷ d) pos (slot_vote k))
  open_votes d m plan pos k c host old held digest at there current counter same lacks view =
      let e : Entry = Accepted (message.Open m) in
      let x : Vote = record { counter = m.evidence.counter; request = batch_digest c } in
      let is : x ≡ slot_vote k = rw (counter, same) refl in
      let none : vote_of self d m.ui.host m.evidence.view pos ≡ None = subst (λ (v : ℕ). vote_of self d m.ui.host v pos ≡ None) (sym current) lacks.first in
      let counts : vote_of self (e ∷ d) m.ui.host m.evidence.view pos ≡ Some x = open_counts d m plan pos c old held digest at there none in
      let now : vote_of self (e ∷ d) m.ui.host (view_of self (e ∷ d)) pos ≡ Some x = subst (λ (v : ℕ). vote_of self (e ∷ d) m.ui.host v pos ≡ Some x) (current ∙ sym view) counts in
      let new : has_vote self (e ∷ d) pos x m.ui.host ≡ true = ap (λ (o : Option Vote). is_vote o x) now ∙ same_vote x in
      completes self e d m.ui.host pos (slot_vote k) view host lacks.first (subst (λ (y : Vote). has_vote self (e ∷ d) pos y m.ui.host ≡ true) is new) lacks.others

  open_waits : (d : History) (m : Open) (pos : ℕ) (k : KnownSlot) (b : Batch) → stamped_refusal self d (stamped.Open m) ≡ None
      → Waits self pos k b (Accepted (message.Open m) ∷ d) → Waits self pos k b (give_stamped self (stamped.Open m) (begin d)).left.history
  unfolding give_stamped
  open_waits d m pos k b none w = rw none w

  pub executes_with_open : IsShape self.shape → (d : History) → IsQuiescent self d → ArisesWhole self d → ExecutesWithOpen self d
  executes_with_open shape d quiet arises bytes m plan pos k b c r =
      let is = r.is in
      let sent = r.sent in
      let planned = r.planned in
      let n = r.next in
      let held = r.held in
      let digest = r.plan_is in
      let at = r.at in
      let slot = r.slot in
      let counter = r.counter in
      let same = r.digest in
      let lacks = r.lacks in
      let e : Entry = Accepted (message.Open m) in
      let current = n.current in
      let evident : view_of self d ≤ evidence_view (evidence_of self d) = (steady self d arises.0).opened n.opened in
      let old : is_news self d (evidence_of self d) m.evidence ≡ false = no_news d m.evidence (omega (arith, current, evident)) in
      let s : Stays self d (e ∷ d) = takes_open d m plan sent.other old held in
      let calm = calm_still self d (e ∷ d) pos s (calm_before self d m.evidence.view pos quiet n) in
      let there : counts_at self (e ∷ d) m.evidence.view pos ≡ true = and_from _ _ (eq-eqb (view_of self (e ∷ d)) m.evidence.view (s.view ∙ sym current)) (window_is self (e ∷ d) pos calm.inside) in
      let fits = read_fits self.shape shape bytes (message.Open m) is in
      let none = stamped_passed self d (stamped.Open m) (valid_passes self d (message.Open m) (sent, λ x now whole. planned x whole)) in
      let voted : IsVoted self (e ∷ d) pos k b = record {
        slot = subst (λ (w : ℕ). slot_in self (e ∷ d) w pos ≡ Some k) (sym s.view) (slot_kept self e d (view_of self d) pos k slot.0.1);
        batch = slot.1;
        votes = open_votes d m plan pos k c fits.ui.host old held digest at there current counter same lacks s.view;
      } in
      step_executes self shape d quiet arises bytes (message.Open m) is (ap (is_taken self) (taken_so self d (stamped.Open m) none)) pos k b (open_waits d m pos k b none (calm, voted))

-- Each host executes with the OPEN that completes f+1, whoever is faulty and whatever is forged.
pub hosts_execute_with_open : {S : Type 0} (system : System S) → (k h : ℕ) → ExecutesWithOpen (self_of system h) ((world system k).histories h)
hosts_execute_with_open system k h =
    executes_with_open (self_of system h) (shape_fits system.schedule.shape) ((world system k).histories h) (quiescent system k h) (arisen system k h)
