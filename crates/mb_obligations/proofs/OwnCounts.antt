-- What a host stamps counts for itself as what others stamp, the vote of another's OPEN is the one that the plan says, and a position that a plan carries on is
-- not left waiting.
use Rattle.std.proofs.Common.{◌≡◌, ℕ, ◌+◌, ◌-◌, ◌<◌, ◌≤◌, ◌^◌, true, false, ◌&&◌, not, ◌∷◌, ◌++◌, [], length, refl, sym, ap, subst, ◌∙◌, inl, inr, arith, Option, Some, None}
use Rattle.std.specs.Prelude.{◌==◌, is_some, slice_get, nat_lt, option_map}
use Rattle.std.proofs.lemmas.Bool.{cases_Bool, and_parts, and_from, eq-eqb, eqb-true, ltb-true}
use Rattle.std.proofs.lemmas.Option.{slice_get_within}
use Rattle.mb_base.specs.Shapes.{span}
use Rattle.mb_parts.specs.declared.batch.Batch.{Batch}
use Rattle.mb_parts.specs.declared.certificates.Evidence.{Evidence}
use Rattle.mb_parts.specs.Spelling.{batch_bytes}
use Rattle.mb_parts.specs.Bares.{batch_digest}
use Rattle.mb_msg.specs.declared.message.Body.TheVariants.{Whole}
use Rattle.mb_msg.specs.declared.message.Message.TheVariants as message
use Rattle.mb_msg.specs.declared.normal.Prepare.{Prepare}
use Rattle.mb_msg.specs.declared.normal.Commit.{Commit}
use Rattle.mb_msg.specs.declared.change.Open.{Open as OpenMessage}
use Rattle.mb_msg.specs.declared.change.OpenBody.{OpenBody}
use Rattle.mb_msg.specs.declared.change.Plan.{Plan}
use Rattle.mb_msg.specs.declared.stamped.Stamped.TheVariants as stamped
use Rattle.mb_msg.specs.Bodies.{body_digest}
use Rattle.mb_model.specs.declared.known.Vote.{Vote}
use Rattle.mb_model.specs.declared.known.KnownSlot.{KnownSlot}
use Rattle.mb_model.specs.Histories.{Entry, Accepted, Stamped, History, Identity, view_of, is_open, is_primary}
use Rattle.mb_model.specs.Held.{opened_by, plan_held, plan_at, plan_of_view, evidence_for}
use Rattle.mb_model.specs.Stable.{stable_of, low_of}
use Rattle.mb_model.specs.Positions.{exec_of, batch_from, slot_of_plan, slot_of_open, slot_by, slot_vote, vote_by, counts_opens, open_vote, counts_at, slot_in, slot_at, in_window, vote_of}
use Rattle.mb_model.specs.Batches.{first_batch}
use Rattle.mb_model.specs.EnabledRules.{Open, Commit as CommitAt, Prepare as PrepareAt, open_enabled, open_with, may_open, with_batch, next_position, commit_enabled, may_order, unordered, prepare_enabled}
use Rattle.mb_model.specs.Sending.{signed}
use Rattle.mb_model.specs.Making.{prepare, commit, opening}
use Rattle.mb_model.specs.OwnLog.{has_room, has_other_room}
use Rattle.mb_model.proofs.Options.{if_some, map_some}
use Rattle.mb_steps.specs.Arises.{Arises}
use Rattle.mb_steps.proofs.StepHeldEvidence.{open_seen, shows_checked, evidence_checks}
use Rattle.mb_steps.proofs.StepPotential.{grown_low, order_parts}
use Rattle.mb_world_model.specs.World.{System, self_of}
use Rattle.mb_world_model.specs.WorldSteps.{world}
use Rattle.mb_promise.specs.NothingLeft.{IsInWindow, slot_of, ExecutesAtQuorum}
use Rattle.mb_promise.specs.OwnStamps.{carried_slot, carried_vote, CountsOwnPrepares, CountsOwnCommits, OpenCounts, CountsOwnOpens, CountsVotesOfOpens, ExecutesPlanned, CountsOwn}
use Rattle.mb_each_host.proofs.CarriedOut.{hosts_carry_out}
use Rattle.mb_each_host.proofs.DueVotes.{slot_stays, vote_stays, counts_where, slot_new, vote_new, own_place}
use Rattle.mb_world_laws.proofs.KeptByWorlds.{world_arises}
use Rattle.mb_each_host.proofs.Words.{window_is, window_says}
use Rattle.mb_host_laws.proofs.Cases.{some_is}
use Rattle.mb_host_laws.proofs.Found.{opened_plan, commit_shape}
use Rattle.mb_host_laws.proofs.Moments.{each_past}
use Rattle.mb_views.proofs.OwnSeen.{seen_prepare, seen_commit}
use Rattle.mb_views.proofs.PlanMoments.{base_below, low_grows}
use Rattle.mb_obligations.proofs.AcceptedFits.{HasValues, values_in_worlds}
use Rattle.mb_obligations.proofs.OpensCount.{opened_same, plan_same, view_same, vote_is, held_short, counted, Values}
use Rattle.mb_provenance.proofs.WhatCame.{named_in}
use Rattle.mb_obligations.proofs.OwnBehind.{no_vote_of_prepare, no_slot_of_prepare, no_vote_of_commit, no_vote_of_open}

module _ {S : Type 0} (self : Identity S) where
  -- ---- a PREPARE, COMMIT or OPEN that is stamped changes neither view nor window

  prepare_low : (m : Prepare) (d : History) → low_of self (Stamped (stamped.Prepare m) ∷ d) ≡ low_of self d
  unfolding stable_of
  prepare_low m d = refl

  commit_low : (m : Commit) (d : History) → low_of self (Stamped (stamped.Commit m) ∷ d) ≡ low_of self d
  unfolding stable_of
  commit_low m d = refl

  open_low : (m : OpenMessage) (d : History) → low_of self (Stamped (stamped.Open m) ∷ d) ≡ low_of self d
  unfolding stable_of
  open_low m d = refl

  arises_at : (l h : History) → Arises self (l ++ h) → Arises self h
  arises_at [] h a = a
  arises_at (y ∷ l) h a = arises_at l h a.1

  arises_since : (later before : History) (e : Entry) (d : History) → Arises self d → d ≡ later ++ e ∷ before → Arises self (e ∷ before)
  arises_since later before e d a is = arises_at later (e ∷ before) (subst (λ (h : History). Arises self h) is a)

  -- ---- own PREPAREs

  own_prepare : (d : History) (p : ℕ) (b : Batch) (m : Prepare) → signed self d (prepare self d p b) ≡ stamped.Prepare m → p ≡ m.pos
  own_prepare d p b m is = cc

  prepare_inside : (d : History) (p : ℕ) (b : Batch) → prepare_enabled self d ≡ Some (PrepareAt p b) → IsInWindow self d p
  unfolding prepare_enabled
  prepare_inside d p b e =
      let t = if_some (may_order self d) (option_map (PrepareAt (next_position self d)) (first_batch (unordered self d))) (PrepareAt p b) e in
      let q = map_some (PrepareAt (next_position self d)) (first_batch (unordered self d)) (PrepareAt p b) t.1 in
      let same : next_position self d ≡ p = cc (q.2) in
      subst (λ (n : ℕ). IsInWindow self d n) same (window_says self d (next_position self d) (order_parts self d t.0).inside)

  counts_own_prepares : (d : History) → Arises self d → CountsOwnPrepares self d
  counts_own_prepares d arises later before m is =
      let e : Entry = Stamped (stamped.Prepare m) in
      let a = arises_since later before e d arises is in
      let x : Vote = record { counter = m.ui.counter; request = body_digest batch_bytes m.body } in
      let k : KnownSlot = slot_of self d m in
      let s = seen_prepare self before m a.0 in
      let view : view_of self before ≡ m.view = sym s.view in
      let inside : IsInWindow self before m.pos = subst (λ (n : ℕ). IsInWindow self before n) (own_prepare before a.0.0 a.0.1 m a.0.3) (prepare_inside before a.0.0 a.0.1 a.0.2) in
      let counts = counts_where self e before m.view m.pos (view_same self e before a refl) (prepare_low m before) view inside in
      let by : slot_by e m.view m.pos ≡ Some k = rw (eq-eqb m.view m.view refl, eq-eqb m.pos m.pos refl) refl in
      record {
        batch = s.batch;
        body = s.body;
        view = view;
        inside = inside;
        slot = subst (λ (h : History). slot_in self h m.view m.pos ≡ Some k) (sym is)
            (slot_stays self later (e ∷ before) m.view m.pos k (slot_new self e before m.view m.pos k counts (no_slot_of_prepare self before m a) by));
        vote = subst (λ (h : History). vote_of self h self.host m.view m.pos ≡ Some x) (sym is) (vote_stays self later (e ∷ before) self.host m.view m.pos x
            (vote_new self e before self.host m.view m.pos x counts (no_vote_of_prepare self before m a) (own_place self self.host m.view m.pos m.ui.counter m.body)));
      }

  -- ---- own COMMITs

  own_commit : (d : History) (p : ℕ) (k : KnownSlot) (b : Batch) (m : Commit) → signed self d (commit self d p k b) ≡ stamped.Commit m → p ≡ m.pos
  own_commit d p k b m is = cc

  commit_inside : (d : History) (p : ℕ) (k : KnownSlot) (b : Batch) → commit_enabled self d ≡ Some (CommitAt p k b) → IsInWindow self d p
  unfolding commit_enabled
  commit_inside d p k b e =
      let t = if_some (is_open self d && (not (is_primary self d) && has_room self d)) (with_batch (CommitAt (next_position self d)) (slot_at self d (next_position self d))) (CommitAt p k b) e in
      let m = commit_shape (next_position self d) (slot_at self d (next_position self d)) p k b t.1 in
      let u = if_some (in_window self d (next_position self d)) (slot_in self d (view_of self d) (next_position self d)) k m.1 in
      subst (λ (n : ℕ). IsInWindow self d n) m.0 (window_says self d (next_position self d) u.0)

  commit_place : (m : Commit) (k : KnownSlot) (b : Batch) → m.body ≡ Whole b → m.counter ≡ k.counter → k.digest ≡ batch_digest b
      → vote_by self.host (Stamped (stamped.Commit m)) self.host m.view m.pos ≡ Some (slot_vote k)
  commit_place m k b whole counter named = rw (eq-eqb m.view m.view refl, eq-eqb m.pos m.pos refl, eq-eqb self.host self.host refl, whole, counter, named) refl

  counts_own_commits : (d : History) → Arises self d → CountsOwnCommits self d
  counts_own_commits d arises later before m is =
      let e : Entry = Stamped (stamped.Commit m) in
      let a = arises_since later before e d arises is in
      let s = seen_commit self before m a.0 in
      let x : Vote = slot_vote s.slot in
      let view : view_of self before ≡ m.view = sym s.view in
      let inside : IsInWindow self before m.pos = subst (λ (n : ℕ). IsInWindow self before n) (own_commit before a.0.0 a.0.1 a.0.2 m a.0.4) (commit_inside before a.0.0 a.0.1 a.0.2 a.0.3) in
      let counts = counts_where self e before m.view m.pos (view_same self e before a refl) (commit_low m before) view inside in
      record {
        view = view;
        inside = inside;
        slot = s.slot;
        batch = s.batch;
        there = subst (λ (v : ℕ). slot_in self before v m.pos ≡ Some s.slot) view s.known;
        counter = s.counter;
        held = s.there;
        body = s.body;
        vote = subst (λ (h : History). vote_of self h self.host m.view m.pos ≡ Some x) (sym is) (vote_stays self later (e ∷ before) self.host m.view m.pos x
            (vote_new self e before self.host m.view m.pos x counts (no_vote_of_commit self before m a) (commit_place m s.slot s.batch s.body s.counter (named_in self before (view_of self before) m.pos s.slot s.batch s.known s.there))));
      }

  -- ---- the own OPEN

  -- what is known of it as it is stamped
  record OwnOpen (d : History) (m : OpenMessage) : Type 0 where
    plan : Plan
    view : view_of self d ≡ m.evidence.view
    held : plan_held self d ≡ Some (m.evidence.view, plan)
    base : m.evidence.base ≡ plan.base.pos
    body : m.body ≡ Whole (record { stable = plan.base; batches = plan.batches })

  own_evidence : (d : History) (e : Evidence) (plan : Plan) (m : OpenMessage) → signed self d (opening e plan) ≡ stamped.Open m → e ≡ m.evidence
  own_evidence d e plan m is = cc is

  own_body : (d : History) (e : Evidence) (plan : Plan) (m : OpenMessage) → signed self d (opening e plan) ≡ stamped.Open m → Whole (record { stable = plan.base; batches = plan.batches }) ≡ m.body
  own_body d e plan m is = cc is

  held_of : (o : Option (ℕ × Plan)) (v : ℕ) (plan : Plan) → plan_of_view v o ≡ Some plan → o ≡ Some (v, plan)
  held_of None v plan e = absurd cc
  held_of (Some q) v plan e =
      let t = if_some (q.0 == v) (Some q.1) plan e in
      let view : q.0 ≡ v = eqb-true q.0 v t.0 in
      let is : q.1 ≡ plan = some_is q.1 plan t.1 in
      subst (λ (w : ℕ). Some q ≡ Some (w, plan)) view (subst (λ (z : Plan). Some q ≡ Some (q.0, z)) is refl)

  plan_at_open : (d : History) (e : Evidence) (plan : Plan) → open_enabled self d ≡ Some (Open e plan) → plan_held self d ≡ Some (view_of self d, plan)
  unfolding open_enabled
  plan_at_open d e plan o =
      let t = if_some (may_open self d && has_other_room self d) (open_with (evidence_for self d (view_of self d)) (plan_at self d (view_of self d))) (Open e plan) o in
      held_of (plan_held self d) (view_of self d) plan (opened_plan (evidence_for self d (view_of self d)) (plan_at self d (view_of self d)) e plan t.1)

  own_open : (d : History) (m : OpenMessage) → Arises self (Stamped (stamped.Open m) ∷ d) → OwnOpen d m
  own_open d m a =
      let e : Evidence = a.0.0 in
      let plan : Plan = a.0.1 in
      let seen = open_seen self d e plan a.0.2 in
      let shown = shows_checked self d a.1 (evidence_checks self d a.1) (view_of self d) e seen.0 in
      let same : e ≡ m.evidence = own_evidence d e plan m a.0.3 in
      let parts = and_parts (e.base == plan.base.pos) _ seen.1 in
      let view : view_of self d ≡ m.evidence.view = sym shown.0 ∙ ap (λ (z : Evidence). z.view) same in
      record {
        plan = plan;
        view = view;
        held = subst (λ (v : ℕ). plan_held self d ≡ Some (v, plan)) view (plan_at_open d e plan a.0.2);
        base = ap (λ (z : Evidence). z.base) (sym same) ∙ eqb-true e.base plan.base.pos parts.0;
        body = sym (own_body d e plan m a.0.3);
      }

  open_slot : (m : OpenMessage) (b : OpenBody) (c : Batch) (p : ℕ) → m.body ≡ Whole b → batch_from m.evidence.base p b.batches ≡ Some c → slot_of_open m m.evidence.view p ≡ Some (carried_slot m.evidence c)
  open_slot m b c p whole at = rw (eq-eqb m.evidence.view m.evidence.view refl, whole) (ap (λ (o : Option Batch). option_map (slot_of_plan m.evidence) o) at)

  own_open_vote : (m : OpenMessage) (b : OpenBody) (c : Batch) (p : ℕ) → m.body ≡ Whole b → batch_from m.evidence.base p b.batches ≡ Some c
      → vote_by self.host (Stamped (stamped.Open m)) self.host m.evidence.view p ≡ Some (carried_vote m.evidence c)
  own_open_vote m b c p whole at = rw (eq-eqb self.host self.host refl) (ap (λ (o : Option KnownSlot). option_map slot_vote o) (open_slot m b c p whole at))

  module _ (later before : History) (m : OpenMessage) (a : Arises self (Stamped (stamped.Open m) ∷ before)) where
    opens_at : (pos : ℕ) → view_of self before ≡ m.evidence.view → IsInWindow self before pos → counts_at self (Stamped (stamped.Open m) ∷ before) m.evidence.view pos ≡ true
    opens_at pos view inside = counts_where self (Stamped (stamped.Open m)) before m.evidence.view pos (view_same self (Stamped (stamped.Open m)) before a refl) (open_low m before) view inside

    carried_in : (b : OpenBody) (c : Batch) (pos : ℕ) → m.body ≡ Whole b → view_of self before ≡ m.evidence.view → IsInWindow self before pos → batch_from m.evidence.base pos b.batches ≡ Some c
        → slot_in self before m.evidence.view pos ≡ None → slot_in self (later ++ Stamped (stamped.Open m) ∷ before) m.evidence.view pos ≡ Some (carried_slot m.evidence c)
    carried_in b c pos whole view inside at none =
        slot_stays self later (Stamped (stamped.Open m) ∷ before) m.evidence.view pos (carried_slot m.evidence c)
        (slot_new self (Stamped (stamped.Open m)) before m.evidence.view pos (carried_slot m.evidence c) (opens_at pos view inside) none (open_slot m b c pos whole at))

    voted_in : (b : OpenBody) (c : Batch) (pos : ℕ) → m.body ≡ Whole b → view_of self before ≡ m.evidence.view → IsInWindow self before pos → batch_from m.evidence.base pos b.batches ≡ Some c
        → vote_of self (later ++ Stamped (stamped.Open m) ∷ before) self.host m.evidence.view pos ≡ Some (carried_vote m.evidence c)
    voted_in b c pos whole view inside at =
        vote_stays self later (Stamped (stamped.Open m) ∷ before) self.host m.evidence.view pos (carried_vote m.evidence c)
        (vote_new self (Stamped (stamped.Open m)) before self.host m.evidence.view pos (carried_vote m.evidence c) (opens_at pos view inside) (no_vote_of_open self before m a pos) (own_open_vote m b c pos whole at))

    open_counts : OpenCounts self (later ++ Stamped (stamped.Open m) ∷ before) before m
    open_counts =
        let o = own_open before m a in
        let from : (pos : ℕ) (b : Batch) → batch_from o.plan.base.pos pos o.plan.batches ≡ Some b → batch_from m.evidence.base pos o.plan.batches ≡ Some b =
        λ pos b at. subst (λ (n : ℕ). batch_from n pos o.plan.batches ≡ Some b) (sym o.base) at in
        record {
          plan = o.plan;
          view = o.view;
          held = o.held;
          base = o.base;
          body = o.body;
          votes = λ pos b inside at. voted_in (record { stable = o.plan.base; batches = o.plan.batches }) b pos o.body o.view inside (from pos b at);
          slots = λ pos b inside at none. carried_in (record { stable = o.plan.base; batches = o.plan.batches }) b pos o.body o.view inside (from pos b at) none;
        }

  counts_own_opens : (d : History) → Arises self d → CountsOwnOpens self d
  counts_own_opens d arises later before m is =
      subst (λ (h : History). OpenCounts self h before m) (sym is) (open_counts later before m (arises_since later before (Stamped (stamped.Open m)) d arises is))

  -- ---- OPENs of others

  none_said : (x : Entry) (g v p : ℕ) → counts_opens x ≡ true → vote_by self.host x g v p ≡ None
  none_said (Accepted (message.Open m)) g v p e = refl
  none_said (Accepted (message.NewView m)) g v p e = refl
  none_said (Stamped (stamped.NewView m)) g v p e = refl
  none_said (Stamped (stamped.ViewChange m)) g v p e = refl
  none_said x g v p e = absurd cc

  pub vote_now : (x : Entry) (d : History) (g v p : ℕ) (y : Vote) → vote_of self d g v p ≡ None → counts_opens x ≡ true → counts_at self (x ∷ d) v p ≡ true
      → open_vote (opened_by (x ∷ d) g) (plan_at self (x ∷ d) v) v p ≡ Some y → vote_of self (x ∷ d) g v p ≡ Some y
  unfolding vote_of
  vote_now x d g v p y none counts there is = rw (none, there, none_said x g v p counts, counts) is

  some_of_none : (o : Option Vote) → o ≡ None → is_some o ≡ true → ⊥
  some_of_none o none some = let f : is_some o ≡ false = rw none refl in absurd cc

  counts_votes_of_opens : (d : History) → Arises self d → Values self d → CountsVotesOfOpens self d
  counts_votes_of_opens d arises a later before x g pos e plan b is none opened at held digest inside batch =
      let arises_here : Arises self (x ∷ before) = arises_since later before x d arises is in
      let values_here : Values self (x ∷ before) = each_past (HasValues self) later (x ∷ before) (subst (λ (h : History). Values self h) is a) in
      subst (λ (h : History). vote_of self h g e.view pos ≡ Some (carried_vote e b)) (sym is) (vote_stays self later (x ∷ before) g e.view pos (carried_vote e b) (elim (cases_Bool (counts_opens x)) [
        | inl counts ↦
            let there : counts_at self (x ∷ before) e.view pos ≡ true = and_from _ _ (eq-eqb (view_of self (x ∷ before)) e.view at) (window_is self (x ∷ before) pos inside) in
            vote_now x before g e.view pos (carried_vote e b) none counts there (vote_is self (x ∷ before) g e.view pos e plan b opened held refl digest batch)
        | inr other ↦
            let above = inside.above in
            absurd (some_of_none (vote_of self before g e.view pos) none (counted self g pos e.view e plan b refl digest inside.allowed batch before arises_here.1 values_here.1
            (sym (opened_same x before g other) ∙ opened) (sym (view_same self x before arises_here other) ∙ at) (sym (plan_same self x before other) ∙ held) (omega (arith, above, grown_low self before x))))
      ]))

  -- ---- what a plan carries on is executed

  whole_same : (x y : OpenBody) → Whole x ≡ Whole y → x ≡ y
  whole_same x y e = cc

  -- A position that its plan has, above the stable one, was in the window.
  was_inside : (d : History) (m : OpenMessage) (b : OpenBody) (c : Batch) (pos : ℕ) → Arises self (Stamped (stamped.Open m) ∷ d) → Values self d → m.body ≡ Whole b
      → batch_from m.evidence.base pos b.batches ≡ Some c → low_of self d < pos → pos < 2 ^ 63 → IsInWindow self d pos
  was_inside d m b c pos a values whole at above allowed =
      let o = own_open d m a in
      let same : b ≡ record { stable = o.plan.base; batches = o.plan.batches } = whole_same b (record { stable = o.plan.base; batches = o.plan.batches }) (sym whole ∙ o.body) in
      let many : length b.batches ≡ length o.plan.batches = ap (λ (z : OpenBody). length z.batches) same in
      let t = if_some (nat_lt m.evidence.base pos) (slice_get b.batches (pos - m.evidence.base - 1)) c at in
      let inside = slice_get_within b.batches (pos - m.evidence.base - 1) c t.1 in
      let past = ltb-true m.evidence.base pos t.0 in
      let short : length o.plan.batches ≤ span self.shape = held_short self d values (m.evidence.view, o.plan) o.held in
      let below : o.plan.base.pos ≤ low_of self d = base_below self d (m.evidence.view, o.plan) o.held in
      let base = o.base in
      record { above = above; near = omega (arith, inside, past, short, below, base, many); allowed = allowed }

  executes_planned : (d : History) → Arises self d → Values self d → ExecutesAtQuorum self d → ExecutesPlanned self d
  executes_planned d arises values executes later before m b c is whole opened view inside batch none votes =
      let e : Entry = Stamped (stamped.Open m) in
      let pos : ℕ = exec_of d + 1 in
      let a : Arises self (e ∷ before) = arises_since later before e d arises is in
      let v : Values self (e ∷ before) = each_past (HasValues self) later (e ∷ before) (subst (λ (h : History). Values self h) is values) in
      let grown : low_of self (e ∷ before) ≤ low_of self d = subst (λ (h : History). low_of self (e ∷ before) ≤ low_of self h) (sym is) (low_grows self later (e ∷ before)) in
      let above = inside.above in
      let was : IsInWindow self before pos = was_inside before m b c pos a v.1 whole batch (omega (arith, above, grown, open_low m before)) inside.allowed in
      let k : KnownSlot = carried_slot m.evidence c in
      let slot : slot_in self d m.evidence.view pos ≡ Some k = subst (λ (h : History). slot_in self h m.evidence.view pos ≡ Some k) (sym is) (carried_in later before m a b c pos whole (own_open before m a).view was batch none) in
      executes k c opened ((inside, subst (λ (w : ℕ). slot_in self d w pos ≡ Some k) (sym view) slot), refl) votes

  pub counts_own : (d : History) → Arises self d → Values self d → ExecutesAtQuorum self d → CountsOwn self d
  counts_own d arises values executes = record {
    prepares = counts_own_prepares d arises;
    commits = counts_own_commits d arises;
    opens = counts_own_opens d arises;
    votes_of_opens = counts_votes_of_opens d arises values;
    planned = executes_planned d arises values executes;
  }

-- In each world, whoever is faulty and whatever is forged.
pub hosts_count_own : {S : Type 0} (system : System S) → (k h : ℕ) → CountsOwn (self_of system h) ((world system k).histories h)
hosts_count_own system k h =
    counts_own (self_of system h) ((world system k).histories h) (world_arises system k h) (values_in_worlds system k h) (hosts_carry_out _ system k h).executes
