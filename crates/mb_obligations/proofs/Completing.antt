-- The vote that completes f+1 for the position behind the last executed one is executed in the step in which it is given.
use Rattle.std.proofs.Common.{◌≡◌, ℕ, ◌<◌, Bool, true, false, ◌&&◌, ◌||◌, not, [], ◌∷◌, refl, sym, ap, subst, ◌∙◌, arith, inl, inr, Option, Some, None, Ok}
use Rattle.std.specs.Prelude.{◌==◌}
use Rattle.std.proofs.lemmas.Bool.{cases_Bool, and_from, and_parts, and_right, eq-eqb, ne_eqb}
use Rattle.mb_base.specs.Shapes.{Bytes, IsShape, HasQuorum, primary, host_count}
use Rattle.mb_base.specs.declared.names.Ui.{Ui}
use Rattle.mb_usig.proofs.Laws.{true-same_bytes}
use Rattle.mb_parts.specs.declared.batch.Batch.{Batch}
use Rattle.mb_parts.specs.Spelling.{batch_bytes}
use Rattle.mb_parts.specs.Ordered.{current_view, permits}
use Rattle.mb_msg.specs.declared.message.Body.{Body}
use Rattle.mb_msg.specs.declared.message.Body.TheVariants.{Whole}
use Rattle.mb_msg.specs.declared.message.Message.{Message}
use Rattle.mb_msg.specs.declared.message.Message.TheVariants as message
use Rattle.mb_msg.specs.declared.normal.Prepare.{Prepare}
use Rattle.mb_msg.specs.declared.normal.Commit.{Commit}
use Rattle.mb_msg.specs.declared.stamped.Stamped.{Stamped as StampedMessage}
use Rattle.mb_msg.specs.declared.stamped.Stamped.TheVariants as stamped
use Rattle.mb_msg.specs.Bodies.{body_digest, whole_body}
use Rattle.mb_msg.specs.Reading.{message_of}
use Rattle.mb_msg.specs.declared.event.Event.TheVariants as event
use Rattle.mb_msg.specs.declared.event.Outcome.{Outcome}
use Rattle.mb_msg.specs.declared.event.Outcome.TheVariants as outcome
use Rattle.mb_model.specs.declared.known.Vote.{Vote}
use Rattle.mb_model.specs.declared.known.KnownSlot.{KnownSlot}
use Rattle.mb_model.specs.Votes.{is_vote}
use Rattle.mb_model.specs.Histories.{Entry, Accepted, Closed, History, Identity, origin, taken_of, closed_at, view_of}
use Rattle.mb_model.specs.Positions.{is_behind, slot_in, slot_vote, vote_of, vote_with, counts_at, if_counts_at}
use Rattle.mb_model.specs.Sending.{Progress, begin, write, note}
use Rattle.mb_model.specs.Compared.{compared_in}
use Rattle.mb_model.specs.KindChecks.{stamped_refusal}
use Rattle.mb_model.specs.EnabledRules.{IsQuiescent}
use Rattle.mb_model.specs.CarriedOut.{run_rules, enough}
use Rattle.mb_model.specs.Given.{closing, offer_prepare, named_prepare, casts_vote, give_stamped, give}
use Rattle.mb_model.specs.HostStep.{is_taken, rules_follow, asks_on, low_rose, with_fetch, transition}
use Rattle.mb_model.proofs.Options.{option_cases, of_both}
use Rattle.mb_model.proofs.ShapesFit.{shape_fits}
use Rattle.mb_steps.proofs.StepArises.{ArisesWhole}
use Rattle.mb_steps.proofs.StepGivenArise.{give_arises}
use Rattle.mb_steps.proofs.StepEventsArise.{transition_arises}
use Rattle.mb_steps.proofs.StepQuiescent.{begins_quiescent, stays_quiescent}
use Rattle.mb_world_model.specs.World.{System, self_of}
use Rattle.mb_world_model.specs.WorldSteps.{world}
use Rattle.mb_promise.specs.TakesValid.{AreTagged, IsShown, IsVote, IsNextOfSender}
use Rattle.mb_promise.specs.NothingLeft.{has_vote, slot_of, IsNext, Lacks, LackBoth, Executes, ExecutesWithCommit, ExecutesWithPrepare, ExecutesWithBoth}
use Rattle.mb_each_host.proofs.Words.{window_is}
use Rattle.mb_each_host.proofs.DueVotes.{keeps_slots, counts_prepares, counts_commits}
use Rattle.mb_world_laws.proofs.KeptByWorlds.{world_keeps}
use Rattle.mb_host_laws.proofs.Parts.{primary_is_host}
use Rattle.mb_reading_laws.proofs.ReadFits.{read_fits}
use Rattle.mb_obligations.proofs.Taken.{stamped_passed}
use Rattle.mb_obligations.proofs.TakesValid.{prepare_passes, commit_passes}
use Rattle.mb_obligations.proofs.Staying.{Stays, takes_commit, takes_prepare, closes}
use Rattle.mb_obligations.proofs.Voted.{IsVoted, voted_still, slot_kept, tally_one_more, has_still, completes}
use Rattle.mb_obligations.proofs.Running.{IsCalm, Waits, calm_still, IsDone, quiet_parts, run_executes}

pub same_vote : (x : Vote) → is_vote (Some x) x ≡ true
same_vote x = and_from _ _ (eq-eqb x.counter x.counter refl) (true-same_bytes x.request x.request refl)

abbrev commit_vote : Commit → Vote
commit_vote m = record { counter = m.counter; request = body_digest batch_bytes m.body }

module _ {S : Type 0} (self : Identity S) where
  waits_still : (x : Entry) (d : History) (pos : ℕ) (k : KnownSlot) (b : Batch) → Stays self d (x ∷ d) → Waits self pos k b d → Waits self pos k b (x ∷ d)
  waits_still x d pos k b s w = (calm_still self d (x ∷ d) pos s w.0, voted_still self x d pos k b s.view w.1)

  -- ---- what a COMMIT leaves that is taken: its PREPARE is offered behind it

  closing_waits : (o : Outcome) (u : Ui) (x : Progress) (pos : ℕ) (k : KnownSlot) (b : Batch) → Waits self pos k b x.history → Waits self pos k b (closing o u x).history
  closing_waits (outcome.Illegal r) u x pos k b w = waits_still (Closed u.host u.counter) x.history pos k b (closes self x.history u.host u.counter) w
  closing_waits o u x pos k b w = w

  offer_waits : (m : Prepare) (x : Progress) (k : KnownSlot) (b : Batch) → m.view ≡ view_of self x.history → Waits self m.pos k b x.history → Waits self m.pos k b (offer_prepare self m x).history
  unfolding offer_prepare
  offer_waits m x k b there w = elim (option_cases (stamped_refusal self x.history (stamped.Prepare m))) [
    | inl none ↦ rw none (waits_still (Accepted (message.Prepare m)) x.history m.pos k b (takes_prepare self x.history m there w.0.inside.above) w)
    | inr (o, some) ↦ rw some (closing_waits o m.ui x m.pos k b w)
  ]

  commit_waits : (d : History) (m : Commit) (k : KnownSlot) (b : Batch) → stamped_refusal self d (stamped.Commit m) ≡ None → m.view ≡ view_of self (Accepted (message.Commit m) ∷ d)
      → Waits self m.pos k b (Accepted (message.Commit m) ∷ d) → Waits self m.pos k b (give_stamped self (stamped.Commit m) (begin d)).left.history
  unfolding give_stamped
  commit_waits d m k b none there w = rw none (elim (cases_Bool (casts_vote self d m)) [
    | inl votes ↦ rw votes (offer_waits (named_prepare self m) (write (Accepted (message.Commit m)) (note (compared_in self d (stamped.Commit m)) (begin d))) k b there w)
    | inr not_so ↦ rw not_so w
  ])

  prepare_waits : (d : History) (m : Prepare) (k : KnownSlot) (b : Batch) → stamped_refusal self d (stamped.Prepare m) ≡ None
      → Waits self m.pos k b (Accepted (message.Prepare m) ∷ d) → Waits self m.pos k b (give_stamped self (stamped.Prepare m) (begin d)).left.history
  unfolding give_stamped
  prepare_waits d m k b none w = rw none w

  pub taken_so : (d : History) (m : StampedMessage) → stamped_refusal self d m ≡ None → (give_stamped self m (begin d)).outcome ≡ outcome.Took
  unfolding give_stamped
  taken_so d m none = rw none refl

  -- ---- the whole step

  fetch_same : (asks : Bool) (d : History) (x : Progress) → (with_fetch self asks d x).history ≡ x.history
  fetch_same asks d x = elim (cases_Bool (is_behind self x.history && (asks || low_rose self d x.history))) [
    | inl does ↦ rw does refl
    | inr not_so ↦ rw not_so refl
  ]

  given_left : (d : History) (bytes : Bytes) (m : Message) → message_of self.shape bytes ≡ Ok m → rules_follow self (give self m (begin d)).outcome m ≡ true
      → (transition self d (event.Given bytes)).left.history ≡ (run_rules self enough (give self m (begin d)).left).history
  unfolding transition
  given_left d bytes m is follow =
      rw (is, follow) (fetch_same (asks_on self m) d (run_rules self enough (give self m (begin d)).left))

  pub step_executes : IsShape self.shape → (d : History) → IsQuiescent self d → ArisesWhole self d → (bytes : Bytes) (m : Message) → message_of self.shape bytes ≡ Ok m
      → rules_follow self (give self m (begin d)).outcome m ≡ true → (pos : ℕ) (k : KnownSlot) (b : Batch) → Waits self pos k b (give self m (begin d)).left.history → Executes self d bytes pos b
  step_executes shape d quiet arises bytes m is follow pos k b w =
      let left = given_left d bytes m is follow in
      let ends = subst (λ (h : History). IsQuiescent self h) left (stays_quiescent self shape d (event.Given bytes) quiet) in
      let done = run_executes self enough (give self m (begin d)).left pos k b w.0 w.1 (give_arises self m (begin d) arises) ends in
      let there = subst (λ (h : History). IsDone h pos b) (sym left) done in
      record { slot = there.slot; position = there.position; batch = there.batch; there = there.there }

  pub calm_before : (d : History) (view pos : ℕ) → IsQuiescent self d → IsNext self d view pos → IsCalm self d pos
  calm_before d view pos quiet n =
      let rules = quiet_parts self d quiet in
      record { opened = n.opened; no_change = rules.0; no_join = rules.1; next = n.next; inside = n.within }

  -- A vote for the next position, whose batch is whole and tagged, is one that is taken.
  is_vote_here : (d : History) (view pos : ℕ) (body : Body Batch) (b : Batch) → IsNext self d view pos → body ≡ Whole b → AreTagged self b → IsVote self d view pos body
  is_vote_here d view pos body b n whole tagged =
      let current = n.current in
      record {
        reached = omega (arith, current);
        near = λ here. n.within.near;
        shown = λ here. subst (λ (x : Body Batch). IsShown self d pos x) (sym whole) tagged;
      }

  -- ---- by a COMMIT

  -- The vote of a COMMIT that is taken counts.
  commit_counts : (d : History) (m : Commit) → IsNext self d m.view m.pos → vote_of self d m.ui.host (view_of self d) m.pos ≡ None → view_of self (Accepted (message.Commit m) ∷ d) ≡ view_of self d
      → has_vote self (Accepted (message.Commit m) ∷ d) m.pos (commit_vote m) m.ui.host ≡ true
  commit_counts d m n first view =
      let e : Entry = Accepted (message.Commit m) in
      let x : Vote = commit_vote m in
      let none : vote_of self d m.ui.host m.view m.pos ≡ None = subst (λ (v : ℕ). vote_of self d m.ui.host v m.pos ≡ None) (sym n.current) first in
      let counts : vote_of self (e ∷ d) m.ui.host m.view m.pos ≡ Some x = counts_commits self (e ∷ d) [] d m refl (sym n.current) n.within none in
      let now : vote_of self (e ∷ d) m.ui.host (view_of self (e ∷ d)) m.pos ≡ Some x = subst (λ (v : ℕ). vote_of self (e ∷ d) m.ui.host v m.pos ≡ Some x) (n.current ∙ sym view) counts in
      ap (λ (o : Option Vote). is_vote o x) now ∙ same_vote x

  commit_votes : (d : History) (m : Commit) (k : KnownSlot) → m.ui.host < host_count self.shape → IsNext self d m.view m.pos → m.counter ≡ k.counter → body_digest batch_bytes m.body ≡ k.digest
      → Lacks self d m.ui.host m.pos (slot_vote k) → view_of self (Accepted (message.Commit m) ∷ d) ≡ view_of self d → HasQuorum self.shape (has_vote self (Accepted (message.Commit m) ∷ d) m.pos (slot_vote k))
  commit_votes d m k host n counter digest lacks view =
      let e : Entry = Accepted (message.Commit m) in
      let same : commit_vote m ≡ slot_vote k = rw (counter, digest) refl in
      let new : has_vote self (e ∷ d) m.pos (slot_vote k) m.ui.host ≡ true = subst (λ (x : Vote). has_vote self (e ∷ d) m.pos x m.ui.host ≡ true) same (commit_counts d m n lacks.first view) in
      completes self e d m.ui.host m.pos (slot_vote k) view host lacks.first new lacks.others

  pub executes_with_commit : IsShape self.shape → (d : History) → IsQuiescent self d → ArisesWhole self d → ExecutesWithCommit self d
  executes_with_commit shape d quiet arises bytes m k b c r =
      let is = r.is in
      let sent = r.sent in
      let n = r.next in
      let body = r.body in
      let tagged = r.tagged in
      let slot = r.slot in
      let counter = r.counter in
      let digest = r.digest in
      let lacks = r.lacks in
      let e : Entry = Accepted (message.Commit m) in
      let same : body_digest batch_bytes m.body ≡ k.digest = ap (λ (x : Body Batch). body_digest batch_bytes x) body ∙ digest in
      let s : Stays self d (e ∷ d) = takes_commit self d m n.current n.within.above in
      let fits = read_fits self.shape shape bytes (message.Commit m) is in
      let none = stamped_passed self d (stamped.Commit m) (commit_passes self d m sent (is_vote_here d m.view m.pos m.body c n body tagged)) in
      let voted : IsVoted self (e ∷ d) m.pos k b = record {
        slot = subst (λ (w : ℕ). slot_in self (e ∷ d) w m.pos ≡ Some k) (sym s.view) (slot_kept self e d (view_of self d) m.pos k slot.0.1);
        batch = slot.1;
        votes = commit_votes d m k fits.ui.host n counter same lacks s.view;
      } in
      let w = commit_waits d m k b none (n.current ∙ sym s.view) (calm_still self d (e ∷ d) m.pos s (calm_before d m.view m.pos quiet n), voted) in
      step_executes shape d quiet arises bytes (message.Commit m) is (ap (is_taken self) (taken_so d (stamped.Commit m) none)) m.pos k b w

  -- ---- by the PREPARE itself

  prepare_votes : (d : History) (m : Prepare) → m.ui.host < host_count self.shape → IsNext self d m.view m.pos → Lacks self d m.ui.host m.pos (slot_vote (slot_of self d m))
      → view_of self (Accepted (message.Prepare m) ∷ d) ≡ view_of self d → HasQuorum self.shape (has_vote self (Accepted (message.Prepare m) ∷ d) m.pos (slot_vote (slot_of self d m)))
  prepare_votes d m host n lacks view =
      let e : Entry = Accepted (message.Prepare m) in
      let x : Vote = slot_vote (slot_of self d m) in
      let none : vote_of self d m.ui.host m.view m.pos ≡ None = subst (λ (v : ℕ). vote_of self d m.ui.host v m.pos ≡ None) (sym n.current) lacks.first in
      let counts : vote_of self (e ∷ d) m.ui.host m.view m.pos ≡ Some x = counts_prepares self (e ∷ d) [] d m refl (sym n.current) n.within none in
      let now : vote_of self (e ∷ d) m.ui.host (view_of self (e ∷ d)) m.pos ≡ Some x = subst (λ (v : ℕ). vote_of self (e ∷ d) m.ui.host v m.pos ≡ Some x) (n.current ∙ sym view) counts in
      let new : has_vote self (e ∷ d) m.pos x m.ui.host ≡ true = ap (λ (o : Option Vote). is_vote o x) now ∙ same_vote x in
      completes self e d m.ui.host m.pos x view host lacks.first new lacks.others

  -- A PREPARE that is taken leaves its position waiting, where it completes f+1.
  prepare_leaves : (d : History) (m : Prepare) (b : Batch) → m.ui.host < host_count self.shape → IsCalm self d m.pos → IsNext self d m.view m.pos → m.body ≡ Whole b → slot_in self d m.view m.pos ≡ None
      → Lacks self d m.ui.host m.pos (slot_vote (slot_of self d m)) → Waits self m.pos (slot_of self d m) b (Accepted (message.Prepare m) ∷ d)
  prepare_leaves d m b host calm n body no_slot lacks =
      let e : Entry = Accepted (message.Prepare m) in
      let k : KnownSlot = slot_of self d m in
      let s : Stays self d (e ∷ d) = takes_prepare self d m n.current n.within.above in
      let slot : slot_in self (e ∷ d) m.view m.pos ≡ Some k = keeps_slots self (e ∷ d) [] d m refl (sym n.current) n.within no_slot in
      let voted : IsVoted self (e ∷ d) m.pos k b = record {
        slot = subst (λ (w : ℕ). slot_in self (e ∷ d) w m.pos ≡ Some k) (n.current ∙ sym s.view) slot;
        batch = ap (λ (x : Body Batch). whole_body x) body;
        votes = prepare_votes d m host n lacks s.view;
      } in
      (calm_still self d (e ∷ d) m.pos s calm, voted)

  pub executes_with_prepare : IsShape self.shape → (d : History) → IsQuiescent self d → ArisesWhole self d → ExecutesWithPrepare self d
  executes_with_prepare shape d quiet arises bytes m b r =
      let is = r.is in
      let sent = r.sent in
      let n = r.next in
      let body = r.body in
      let tagged = r.tagged in
      let no_slot = r.no_slot in
      let lacks = r.lacks in
      let fits = read_fits self.shape shape bytes (message.Prepare m) is in
      let none = stamped_passed self d (stamped.Prepare m) (prepare_passes self d m sent (is_vote_here d m.view m.pos m.body b n body tagged)) in
      let lacks_it : Lacks self d m.ui.host m.pos (slot_vote (slot_of self d m)) = subst (λ (x : Body Batch). Lacks self d m.ui.host m.pos (record { counter = m.ui.counter; request = body_digest batch_bytes x })) (sym body) lacks in
      let w = prepare_waits d m (slot_of self d m) b none (prepare_leaves d m b fits.ui.host (calm_before d m.view m.pos quiet n) n body no_slot lacks_it) in
      step_executes shape d quiet arises bytes (message.Prepare m) is (ap (is_taken self) (taken_so d (stamped.Prepare m) none)) m.pos (slot_of self d m) b w

  -- ---- by a COMMIT that brings its PREPARE

  is_backup : (d : History) (m : Commit) → IsNextOfSender self d (stamped.Commit m) → m.ui.host ≡ primary self.shape m.view → ⊥
  unfolding permits
  is_backup d m n same =
      let a = and_parts (m.view == current_view (origin d m.ui.host) (taken_of d m.ui.host)) _ n.permitted in
      let b = and_parts (not (m.ui.host == primary self.shape m.view)) _ a.1 in
      let c = rw (eq-eqb m.ui.host (primary self.shape m.view) same) at b.0 in absurd cc

  -- What a host's gate takes is as it was for another host.
  still_next : (d : History) (m : Commit) (p : Prepare) → (m.ui.host ≡ p.ui.host → ⊥) → IsNextOfSender self d (stamped.Prepare p) → IsNextOfSender self (Accepted (message.Commit m) ∷ d) (stamped.Prepare p)
  unfolding origin taken_of closed_at
  still_next d m p apart n = record {
    certified = n.certified;
    other = n.other;
    free = n.free;
    next = rw (ne_eqb m.ui.host p.ui.host apart) n.next;
    permitted = rw (ne_eqb m.ui.host p.ui.host apart) n.permitted;
  }

  no_vote : (voter h v p view pos : ℕ) (body : Body Batch) (counter : ℕ) → (voter ≡ h → ⊥) → vote_with voter h v p view pos body counter ≡ None
  no_vote voter h v p view pos body counter apart = rw (and_right (view == v) (pos == p && voter == h) (and_right (pos == p) (voter == h) (ne_eqb voter h apart))) refl

  none_at : {A : Type 0} (d : History) (v p : ℕ) (o : Option A) → o ≡ None → if_counts_at self d v p o ≡ None
  none_at {A = A} d v p o none = of_both (λ (x : Option A). x ≡ None) (counts_at self d v p) o None none refl

  -- A COMMIT gives no vote to another host, and no slot.
  others_none : (d : History) (m : Commit) (h v p : ℕ) → (m.ui.host ≡ h → ⊥) → vote_of self d h v p ≡ None → vote_of self (Accepted (message.Commit m) ∷ d) h v p ≡ None
  unfolding vote_of
  others_none d m h v p apart none = rw none (none_at (Accepted (message.Commit m) ∷ d) v p _ (rw (no_vote m.ui.host h v p m.view m.pos m.body m.counter apart) refl))

  slot_none : (d : History) (m : Commit) (v p : ℕ) → slot_in self d v p ≡ None → slot_in self (Accepted (message.Commit m) ∷ d) v p ≡ None
  unfolding slot_in
  slot_none d m v p none = rw none (none_at (Accepted (message.Commit m) ∷ d) v p None refl)

  -- Behind the COMMIT the primary's vote is the one that lacks.
  one_lacks : (d : History) (m : Commit) (h : ℕ) → m.ui.host < host_count self.shape → IsNext self d m.view m.pos → (m.ui.host ≡ h → ⊥) → view_of self (Accepted (message.Commit m) ∷ d) ≡ view_of self d
      → LackBoth self d m.ui.host h m.pos (commit_vote m) → Lacks self (Accepted (message.Commit m) ∷ d) h m.pos (commit_vote m)
  one_lacks d m h host n apart view l =
      let e : Entry = Accepted (message.Commit m) in
      let x : Vote = commit_vote m in
      let lacks_it : has_vote self d m.pos x m.ui.host ≡ false = ap (λ (o : Option Vote). is_vote o x) l.first in
      let others = l.others in
      record {
        first = subst (λ (v : ℕ). vote_of self (e ∷ d) h v m.pos ≡ None) (sym view) (others_none d m h (view_of self d) m.pos apart l.second);
        others = omega (arith, others, tally_one_more (has_vote self d m.pos x) (has_vote self (e ∷ d) m.pos x) m.ui.host (host_count self.shape) host lacks_it (commit_counts d m n l.first view) (has_still self e d m.pos x view));
      }

  both_waits : (d : History) (m : Commit) (k : KnownSlot) (b : Batch) → stamped_refusal self d (stamped.Commit m) ≡ None → casts_vote self d m ≡ true
      → stamped_refusal self (Accepted (message.Commit m) ∷ d) (stamped.Prepare (named_prepare self m)) ≡ None
      → Waits self m.pos k b (Accepted (message.Prepare (named_prepare self m)) ∷ Accepted (message.Commit m) ∷ d) → Waits self m.pos k b (give_stamped self (stamped.Commit m) (begin d)).left.history
  unfolding give_stamped offer_prepare
  both_waits d m k b none votes passes w = rw none (rw votes (rw passes w))

  pub executes_with_both : IsShape self.shape → (d : History) → IsQuiescent self d → ArisesWhole self d → ExecutesWithBoth self d
  executes_with_both shape d quiet arises bytes m b r =
      let is = r.is in
      let sent = r.sent in
      let ordered = r.ordered in
      let n = r.next in
      let body = r.body in
      let tagged = r.tagged in
      let no_slot = r.no_slot in
      let lack = r.lack in
      let e : Entry = Accepted (message.Commit m) in
      let p : Prepare = named_prepare self m in
      let fits = read_fits self.shape shape bytes (message.Commit m) is in
      let s : Stays self d (e ∷ d) = takes_commit self d m n.current n.within.above in
      let calm : IsCalm self (e ∷ d) m.pos = calm_still self d (e ∷ d) m.pos s (calm_before d m.view m.pos quiet n) in
      let n1 : IsNext self (e ∷ d) m.view m.pos = record { opened = calm.opened; current = n.current ∙ sym s.view; next = calm.next; within = calm.inside } in
      let apart = is_backup d m sent in
      let none = stamped_passed self d (stamped.Commit m) (commit_passes self d m sent (is_vote_here d m.view m.pos m.body b n body tagged)) in
      let none1 = stamped_passed self (e ∷ d) (stamped.Prepare p) (prepare_passes self (e ∷ d) p (still_next d m p apart ordered) (is_vote_here (e ∷ d) m.view m.pos m.body b n1 body tagged)) in
      let lack_it : LackBoth self d m.ui.host p.ui.host m.pos (commit_vote m) = subst (λ (x : Body Batch). LackBoth self d m.ui.host p.ui.host m.pos (record { counter = m.counter; request = body_digest batch_bytes x })) (sym body) lack in
      let lacks1 = one_lacks d m p.ui.host fits.ui.host n apart s.view lack_it in
      let votes : casts_vote self d m ≡ true = and_from (view_of self d == m.view) _ (eq-eqb (view_of self d) m.view (sym n.current)) (window_is self d m.pos n.within) in
      let w = prepare_leaves (e ∷ d) p b (primary_is_host self.shape m.view) calm n1 body (slot_none d m m.view m.pos no_slot) lacks1 in
      step_executes shape d quiet arises bytes (message.Commit m) is (ap (is_taken self) (taken_so d (stamped.Commit m) none)) m.pos (slot_of self (e ∷ d) p) b (both_waits d m (slot_of self (e ∷ d) p) b none votes none1 w)

-- ---- in each world

module _ {S : Type 0} (system : System S) (k h : ℕ) where
  pub quiescent : IsQuiescent (self_of system h) ((world system k).histories h)
  quiescent = world_keeps system (λ g d. IsQuiescent (self_of system g) d) (λ g. begins_quiescent (self_of system g))
      (λ g d e q. stays_quiescent (self_of system g) (shape_fits system.schedule.shape) d e q) k h

  pub arisen : ArisesWhole (self_of system h) ((world system k).histories h)
  arisen = world_keeps system (λ g d. ArisesWhole (self_of system g) d) (λ g. (tt, tt)) (λ g d e a. transition_arises (self_of system g) d e a) k h

  -- Each host executes with the COMMIT that completes f+1.
  pub hosts_execute_with_commit : ExecutesWithCommit (self_of system h) ((world system k).histories h)
  hosts_execute_with_commit = executes_with_commit (self_of system h) (shape_fits system.schedule.shape) ((world system k).histories h) quiescent arisen

  -- and with the PREPARE that does
  pub hosts_execute_with_prepare : ExecutesWithPrepare (self_of system h) ((world system k).histories h)
  hosts_execute_with_prepare = executes_with_prepare (self_of system h) (shape_fits system.schedule.shape) ((world system k).histories h) quiescent arisen

  -- and with both
  pub hosts_execute_with_both : ExecutesWithBoth (self_of system h) ((world system k).histories h)
  hosts_execute_with_both = executes_with_both (self_of system h) (shape_fits system.schedule.shape) ((world system k).histories h) quiescent arisen
