-- Each execution of a correct host is justified by what it stamped and what it was given.
--
-- It was in an open view, with f+1 counted votes for the slot (`IsExecution`). The own vote stands in the own list (`own_voted`). Another's was that of a
-- message which the host accepted (`other_vote`), behind all that its gate took before, from its start or from a certified floor on (`gate_given`).
use Rattle.std.proofs.Common.{◌≡◌, ℕ, ◌+◌, ◌≤◌, true, List, ◌∷◌, ◌++◌, length, refl, sym, ap, subst, ◌∙◌, inl, inr, eqb, Some}
use Rattle.std.proofs.lemmas.Bool.{cases_Bool, eqb-true, eqb-false, leb-true}
use Rattle.mb_base.specs.Shapes.{quorum, host_count}
use Rattle.mb_parts.specs.Bares.{Bare, batch_digest}
use Rattle.mb_parts.specs.Ordered.{initial_floor, is_opened, phase_is_open, floor_after}
use Rattle.mb_parts.specs.declared.floor.Floor.{Floor}
use Rattle.mb_msg.specs.declared.event.Slot.{Slot}
use Rattle.mb_msg.specs.Stamps.{ui_of, bare_of, as_message}
use Rattle.mb_model.specs.declared.known.Vote.{Vote}
use Rattle.mb_model.specs.Votes.{is_vote}
use Rattle.mb_model.specs.Committed.{vote_by, vote_in}
use Rattle.mb_model.specs.Histories.{Accepted, Executed, History, Identity, origin, taken_of, gate, said, view_of, is_open, here, stamped as all_stamped}
use Rattle.mb_steps.specs.OwnLists.{AreNumbered}
use Rattle.mb_model.specs.Positions.{in_window, slot_in, slot_vote, vote_of, matching, vote_at}
use Rattle.mb_model.proofs.Members.{in_contained}
use Rattle.mb_model.proofs.Options.{if_some}
use Rattle.mb_steps.specs.Arises.{Arises}
use Rattle.mb_agreement.proofs.Stays.{is_vote_is}
use Rattle.mb_steps.proofs.StepOwnFloor.{open_from}
use Rattle.mb_steps.proofs.StepOwnList.{stands_here}
use Rattle.mb_steps.proofs.StepOwnStamped.{steady}
use Rattle.mb_world_model.specs.WorldEvents.{IsCorrect}
use Rattle.mb_world_model.specs.World.{World, System, self_of}
use Rattle.mb_world_model.specs.WorldRecord.{issued, plans, prefix, IsConsistent}
use Rattle.mb_promise.specs.Justification.{IsVoteGiven, IsVoted, IsJustifiedSlot}
use Rattle.mb_host_laws.specs.Rests.{Each}
use Rattle.mb_world_laws.proofs.Facts.{Facts}
use Rattle.mb_views.proofs.Prefixes.{prefix_said}
use Rattle.mb_views.proofs.Follows.{JumpsLed}
use Rattle.mb_one_log.proofs.CountedVotes.{IsVoteIn, counted_vote}
use Rattle.mb_one_log.proofs.OneVote.{stands_voted}
use Rattle.mb_views.proofs.AcceptedIn.{passes_as}
use Rattle.mb_host_laws.proofs.Moments.{IsPast, past_tail, each_at, past_numbered, arises_by, past_past}
use Rattle.mb_justified.proofs.FirstHosts.{FirstHosts, first_hosts}
use Rattle.mb_views.proofs.GateGiven.{IsGateGiven, gate_given, takes_given}
use Rattle.mb_justified.proofs.VoterGiven.{IsVoter, other_vote}
use Rattle.mb_justified.proofs.SlotBatches.{slot_sound}
use Rattle.mb_parts.specs.declared.batch.Batch.{Batch}
use Rattle.mb_model.specs.Service.{batch_of}
use Rattle.mb_host_laws.proofs.Executing.{IsExecution}
use Rattle.mb_one_log.proofs.Executions.{executed_so}

module _ {S : Type 0} (system : System S) (w : World) (f : Facts system w) (jumps : (h : ℕ) → IsCorrect system.schedule h → Each (JumpsLed system w f) (w.histories h))
    (record_is : IsConsistent system.schedule w) (h : ℕ) (correct : IsCorrect system.schedule h) where
  abbrev self : Identity S
  self = self_of system h

  -- The own vote that is counted is the own list's.
  own_voted : (d : History) (v p : ℕ) (x : Vote) → IsPast d (w.histories h) → vote_of self d h v p ≡ Some x → vote_in (plans system.schedule w) (said (w.histories h)) v p ≡ Some x
  own_voted d v p x past e =
      let c : IsVoteIn system w f jumps h v p x = counted_vote system w f jumps h correct d past h v p x e in
      subst (λ (l : List Bare). vote_in (plans system.schedule w) l v p ≡ Some x) (prefix_said system w f h correct)
      (stands_voted system.schedule.shape system.schedule.secret (plans system.schedule w) (issued system.schedule w) (prefix system.schedule w) record_is h c.counter c.says v p x c.there c.votes)

  -- Another's was given, with all before it.
  vote_given : (d : History) (g v p : ℕ) (x : Vote) → IsPast d (w.histories h) → (g ≡ h → ⊥) → IsVoter system w f jumps h correct d g v p x → IsVoteGiven system.schedule w h g v p x
  vote_given d g v p x past other r =
      let now : IsPast (Accepted (as_message r.message) ∷ r.before) (w.histories h) = past_past (Accepted (as_message r.message) ∷ r.before) d (w.histories h) r.past past in
      let before : IsPast r.before (w.histories h) = past_tail (Accepted (as_message r.message)) r.before (w.histories h) now in
      let a = arises_by self now.later (Accepted (as_message r.message) ∷ r.before) (subst (λ (y : History). Arises self y) (sym now.is) (f.arises h)) in
      let p' = passes_as self r.before r.message a.0 in
      let taken : IsGateGiven system w f h g (origin r.before g) (taken_of r.before g) =
      gate_given system w f h g other r.before (each_at _ r.before (w.histories h) before (f.standing.rests h)) a.1
      (past_numbered self before.later r.before (subst (λ (y : History). AreNumbered self (all_stamped y)) (sym before.is) (f.numbered h))) in
      let all : IsGateGiven system w f h g (origin r.before g) (bare_of r.message ∷ taken_of r.before g) =
      takes_given system w f h g r.message r.before (each_at _ (Accepted (as_message r.message) ∷ r.before) (w.histories h) now (f.standing.rests h)).0 p'.gate r.sender taken in
      let count : (ui_of r.message).counter ≡ (origin r.before g).counter + length (taken_of r.before g) + 1 = p'.gate.next ∙ ap (λ (k : ℕ). (gate r.before k).counter + 1) r.sender in
      record {
        begins = origin r.before g;
        before = taken_of r.before g;
        says = bare_of r.message;
        from = all.from;
        all = all.all;
        ordered = all.ordered;
        votes = subst (λ (n : ℕ). vote_by (plans system.schedule w) n (bare_of r.message) v p ≡ Some x) count r.votes;
      }

  counted_voted : (d : History) (g p : ℕ) (x : Vote) → IsPast d (w.histories h) → vote_at self d g p ≡ Some x → IsVoted system.schedule w h g (view_of self d) p x
  counted_voted d g p x past e =
      let v : ℕ = view_of self d in
      let e : vote_of self d g v p ≡ Some x = (if_some (in_window self d p) (vote_of self d g v p) x e).1 in
      elim (cases_Bool (eqb g h)) [
        | inl same ↦ let is : g ≡ h = eqb-true g h same in inl (is, own_voted d v p x past (subst (λ (k : ℕ). vote_of self d k v p ≡ Some x) is e))
        | inr other ↦ inr (vote_given d g v p x past (eqb-false g h other) (other_vote system w f jumps h correct d g v p x past (eqb-false g h other) e))
      ]

  opened_then : (d : History) → IsPast d (w.histories h) → is_open self d ≡ true → is_opened initial_floor (said d) (view_of self d) ≡ true
  opened_then d past e =
      let a = arises_by self past.later d (subst (λ (y : History). Arises self y) (sym past.is) (f.arises h)) in
      let stands : here self d ≡ floor_after initial_floor (said d) = stands_here self d (steady self d a).list.own in
      let open_there : phase_is_open (floor_after initial_floor (said d)).phase ≡ true = subst (λ (o : Floor). phase_is_open o.phase ≡ true) stands e in
      subst (λ (o : Floor). is_opened initial_floor (said d) o.view ≡ true) (sym stands) (sym (open_from _ _) ∙ open_there)

  -- So each execution is justified.
  pub executed_justified : (later before : History) (slot : Slot) → w.histories h ≡ later ++ Executed slot ∷ before → IsJustifiedSlot system.schedule w h before slot
  executed_justified later before slot is =
      let past : IsPast (Executed slot ∷ before) (w.histories h) = record { later = later; is = sym is } in
      let d : IsPast before (w.histories h) = past_tail (Executed slot) before (w.histories h) past in
      let r : IsExecution self before slot = executed_so self before (w.histories h) slot (f.arises h) past in
      let v : ℕ = view_of self before in
      let b : Batch = batch_of slot in
      let known : slot_in self before v slot.pos ≡ Some r.known = (if_some (in_window self before slot.pos) (slot_in self before v slot.pos) r.known r.there).1 in
      let digest : batch_digest b ≡ r.known.digest = (slot_sound system w f h correct before d v slot.pos r.known known b r.shown).0 in
      let many : quorum system.schedule.shape ≤ matching self before slot.pos (slot_vote r.known) = leb-true (quorum system.schedule.shape) (matching self before slot.pos (slot_vote r.known)) r.committed in
      let x : FirstHosts (λ (g : ℕ). is_vote (vote_at self before g slot.pos) (slot_vote r.known)) (host_count system.schedule.shape) (quorum system.schedule.shape) = first_hosts _ (host_count system.schedule.shape) (quorum system.schedule.shape) many in
      let same : slot_vote r.known ≡ record { counter = r.known.counter; request = batch_digest b } = rw digest refl in
      record {
        view = v;
        counter = r.known.counter;
        opened = opened_then before d r.opened;
        voted = record {
          hosts = x.hosts;
          many = x.count;
          rising = x.rising;
          each = λ g c. let e = x.each g (in_contained x.hosts g c) in
              (e.0, subst (λ (y : Vote). IsVoted system.schedule w h g v slot.pos y) same (counted_voted before g slot.pos (slot_vote r.known) d (is_vote_is (vote_at self before g slot.pos) (slot_vote r.known) e.1)));
        };
      }
