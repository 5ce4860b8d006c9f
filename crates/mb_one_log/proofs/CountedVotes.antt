-- Each vote that a correct host counts was stamped by the voter, and stands in its ordered prefix.
--
-- A PREPARE or COMMIT of another host was accepted, so it stands there. What the host stamped itself stands in its own list. The vote of an OPEN is
-- that of the plan that the host holds, whose digest the OPEN's evidence names, and this plan is known.
use Rattle.std.proofs.Common.{◌≡◌, ℕ, ◌-◌, true, ◌&&◌, List, [], ◌∷◌, refl, sym, ap, subst, ◌∙◌, inl, inr, eqb, Option, Some, None}
use Rattle.std.specs.Prelude.{map, nat_lt, slice_get, ◌==◌, if◌then◌else◌, option_map}
use Rattle.std.specs.Option.{option_or}
use Rattle.std.proofs.lemmas.Bool.{and_parts, cases_Bool, eqb-true, eqb-false}
use Rattle.std.proofs.lemmas.Option.{slice_get-map}
use Rattle.mb_base.specs.Shapes.{Bytes}
use Rattle.mb_usig.specs.Tags.{same_bytes}
use Rattle.mb_usig.proofs.Laws.{same_bytes-true}
use Rattle.mb_parts.specs.declared.certificates.Evidence.{Evidence}
use Rattle.mb_parts.specs.Spelling.{batch_bytes}
use Rattle.mb_parts.specs.Bares.{Bare, batch_digest}
use Rattle.mb_parts.specs.Bares as bare
use Rattle.mb_parts.specs.Counters.{at_counter}
use Rattle.mb_msg.specs.declared.message.Body.{Body}
use Rattle.mb_msg.specs.declared.message.Body.TheVariants.{Whole}
use Rattle.mb_msg.specs.declared.message.Message.TheVariants as message
use Rattle.mb_msg.specs.declared.change.Open.{Open as OpenMessage}
use Rattle.mb_msg.specs.declared.change.Plan.{Plan}
use Rattle.mb_msg.specs.declared.stamped.Stamped.{Stamped as StampedMessage}
use Rattle.mb_msg.specs.declared.stamped.Stamped.TheVariants as stamped
use Rattle.mb_msg.specs.Bodies.{body_digest}
use Rattle.mb_msg.specs.Spelling.{open_body_bytes}
use Rattle.mb_msg.specs.Plans.{plan_digest, plan_end}
use Rattle.mb_msg.specs.Stamps.{bare_of, ui_of, as_message}
use Rattle.mb_model.specs.declared.known.Vote.{Vote}
use Rattle.mb_model.specs.declared.known.KnownSlot.{KnownSlot}
use Rattle.mb_model.specs.Committed.{Plans, planned, vote_by}
use Rattle.mb_model.specs.Histories.{Entry, Accepted, Stamped, History, Identity, view_of}
use Rattle.mb_model.specs.Held.{opened_by, plan_at, evidence_for}
use Rattle.mb_model.specs.Positions.{batch_from, slot_of_plan, slot_of_open, slot_vote, vote_with, vote_by as counted_by, counts_opens, open_vote, open_vote_by, counts_at, vote_of}
use Rattle.mb_model.specs.Sending.{next_ui}
use Rattle.mb_model.specs.Making.{opening}
use Rattle.mb_model.specs.EnabledRules.{Open, open_enabled, open_with, may_open, is_evidence_of}
use Rattle.mb_model.specs.OwnLog.{has_other_room}
use Rattle.mb_model.proofs.Options.{or_some, if_some, map_some}
use Rattle.mb_steps.specs.Arises.{Makes}
use Rattle.mb_steps.proofs.StepOwnList.{own_passed}
use Rattle.mb_steps.proofs.StepOwnStamped.{steady}
use Rattle.mb_world_model.specs.WorldEvents.{IsCorrect}
use Rattle.mb_world_model.specs.World.{World, System, self_of}
use Rattle.mb_world_model.specs.WorldRecord.{prefix, plans}
use Rattle.mb_host_laws.proofs.Cases.{some_is}
use Rattle.mb_host_laws.specs.Rests.{Each}
use Rattle.mb_world_laws.proofs.Facts.{Facts}
use Rattle.mb_views.proofs.Follows.{JumpsLed}
use Rattle.mb_host_laws.proofs.Moments.{IsPast, past_tail}
use Rattle.mb_views.proofs.Floors.{arises_then}
use Rattle.mb_views.proofs.Prefixes.{prefix_said}
use Rattle.mb_world_laws.proofs.OwnIssued.{own_stamp}
use Rattle.mb_views.proofs.AcceptedIn.{passes_as, accepted_in_prefix}
use Rattle.mb_views.proofs.HeldPlans.{IsPlanKnown, plan_at_known}
use Rattle.mb_parts.specs.declared.batch.Batch.{Batch}

-- ---- the vote of a plan

-- What a plan has at a position is the digest of its batch there.
planned_at : (plans : Plans) (digest : Bytes) (base : ℕ) (batches : List Batch) (p : ℕ) (r : Batch) → plans digest ≡ Some (record { base = base; digests = map batch_digest batches }) → batch_from base p batches ≡ Some r
    → planned (plans digest) p ≡ Some (batch_digest r)
planned_at plans digest base batches p r known e =
    let t = if_some (nat_lt base p) (slice_get batches (p - base - 1)) r e in
    rw (known, t.0) (slice_get-map batch_digest batches (p - base - 1) ∙ ap (option_map batch_digest) t.1)

module _ {S : Type 0} (system : System S) (w : World) (f : Facts system w) (jumps : (h : ℕ) → IsCorrect system.schedule h → Each (JumpsLed system w f) (w.histories h)) where
  -- A vote that was stamped by a host, and stands in its prefix.
  pub record IsVoteIn (g v p : ℕ) (x : Vote) : Type 0 where
    pub counter : ℕ
    pub says : Bare
    pub there : at_counter (prefix system.schedule w g) counter ≡ Some says
    pub votes : vote_by (plans system.schedule w) counter says v p ≡ Some x

  module _ (h : ℕ) (correct : IsCorrect system.schedule h) where
    abbrev self : Identity S
    self = self_of system h

    -- Its sender is another.
    pub other_sender : (m : StampedMessage) (d : History) → IsPast (Accepted (as_message m) ∷ d) (w.histories h) → (ui_of m).host ≡ h → ⊥
    other_sender m d past =
        let before : IsPast d (w.histories h) = past_tail (Accepted (as_message m)) d (w.histories h) past in
        let own = (steady self d (arises_then system w f h correct (jumps h correct) d before)).list.own in
        eqb-false (ui_of m).host h (own_passed self d m own (passes_as self d m (arises_then system w f h correct (jumps h correct) (Accepted (as_message m) ∷ d) past).0).gate)

    -- what was accepted stands in its sender's prefix
    pub accepted_there : (m : StampedMessage) (d : History) → IsPast (Accepted (as_message m) ∷ d) (w.histories h) → at_counter (prefix system.schedule w (ui_of m).host) (ui_of m).counter ≡ Some (bare_of m)
    accepted_there m d past = accepted_in_prefix system w f jumps h m d correct past (other_sender m d past)

    -- what was stamped, in the own one
    pub stamped_there : (m : StampedMessage) (d : History) → IsPast (Stamped m ∷ d) (w.histories h) → at_counter (prefix system.schedule w h) (ui_of m).counter ≡ Some (bare_of m)
    stamped_there m d past = subst (λ (l : List Bare). at_counter l (ui_of m).counter ≡ Some (bare_of m)) (sym (prefix_said system w f h correct)) (own_stamp system w f h m d correct past).there

    record Votes (voter g v p view pos : ℕ) (body : Body Batch) (counter : ℕ) (x : Vote) : Type 0 where
      in_view : (view == v) ≡ true
      place : (pos == p) ≡ true
      by : voter ≡ g
      is : record { counter = counter; request = body_digest batch_bytes body } ≡ x

    votes_with : (voter g v p view pos : ℕ) (body : Body Batch) (counter : ℕ) (x : Vote) → vote_with voter g v p view pos body counter ≡ Some x → Votes voter g v p view pos body counter x
    votes_with voter g v p view pos body counter x e =
        let t = if_some (view == v && (pos == p && voter == g)) (Some (record { counter = counter; request = body_digest batch_bytes body })) x e in
        let a = and_parts (view == v) (pos == p && voter == g) t.0 in
        let b = and_parts (pos == p) (voter == g) a.1 in
        record { in_view = a.0; place = b.0; by = eqb-true voter g b.1; is = some_is (record { counter = counter; request = body_digest batch_bytes body }) x t.1 }

    prepare_votes : (g v p n view pos : ℕ) (digest : Bytes) (x : Vote) → at_counter (prefix system.schedule w g) n ≡ Some (bare.Prepare view pos digest) → (view == v) ≡ true → (pos == p) ≡ true → record { counter = n; request = digest } ≡ x → IsVoteIn g v p x
    unfolding vote_by
    prepare_votes g v p n view pos digest x at a b is = record { counter = n; says = bare.Prepare view pos digest; there = at; votes = rw (a, b) (ap Some is) }

    commit_votes : (g v p n view pos c : ℕ) (cert digest : Bytes) (x : Vote) → at_counter (prefix system.schedule w g) n ≡ Some (bare.Commit view pos c cert digest) → (view == v) ≡ true → (pos == p) ≡ true → record { counter = c; request = digest } ≡ x → IsVoteIn g v p x
    unfolding vote_by
    commit_votes g v p n view pos c cert digest x at a b is = record { counter = n; says = bare.Commit view pos c cert digest; there = at; votes = rw (a, b) (ap Some is) }

    open_votes : (g v p n : ℕ) (e : Evidence) (digest : Bytes) (base : ℕ) (batches : List Batch) (r : Batch) → at_counter (prefix system.schedule w g) n ≡ Some (bare.Open e digest) → (e.view == v) ≡ true
        → plans system.schedule w e.plan ≡ Some (record { base = base; digests = map batch_digest batches }) → batch_from base p batches ≡ Some r → IsVoteIn g v p (record { counter = e.counter; request = batch_digest r })
    unfolding vote_by
    open_votes g v p n e digest base batches r at a known found = record {
      counter = n;
      says = bare.Open e digest;
      there = at;
      votes = rw (a, planned_at (plans system.schedule w) e.plan base batches p r known found) refl;
    }

    -- ---- the own OPEN

    open_made : (d : History) (e : Evidence) (plan : Plan) → open_enabled self d ≡ Some (Open e plan) → (plan_at self d (view_of self d) ≡ Some plan) × (is_evidence_of e plan ≡ true)
    unfolding open_enabled
    open_made d e plan o = go (evidence_for self d (view_of self d)) (plan_at self d (view_of self d)) refl (if_some (may_open self d && has_other_room self d) (open_with (evidence_for self d (view_of self d)) (plan_at self d (view_of self d))) (Open e plan) o).1 where
      go : (x : Option Evidence) (y : Option Plan) → plan_at self d (view_of self d) ≡ y → open_with x y ≡ Some (Open e plan) → (plan_at self d (view_of self d) ≡ Some plan) × (is_evidence_of e plan ≡ true)
      go (Some a) (Some b) is t =
          let u = if_some (is_evidence_of a b) (Some (Open a b)) (Open e plan) t in
          let same_e : a ≡ e = cc (u.1) in
          let same_p : b ≡ plan = cc (u.1) in
          (is ∙ ap (λ (z : Plan). Some z) same_p, subst (λ (z : Evidence). is_evidence_of z plan ≡ true) same_e (subst (λ (z : Plan). is_evidence_of a z ≡ true) same_p u.0))
      go (Some a) None is t = absurd cc
      go None y is t = absurd cc

    own_open : (m : OpenMessage) (d : History) → IsPast (Stamped (stamped.Open m) ∷ d) (w.histories h) → (v p : ℕ) (k : KnownSlot) → slot_of_open m v p ≡ Some k → IsVoteIn h v p (slot_vote k)
    own_open m d past v p k found =
        let makes : Makes self d (stamped.Open m) = (arises_then system w f h correct (jumps h correct) (Stamped (stamped.Open m) ∷ d) past).0 in
        let before : IsPast d (w.histories h) = past_tail (Stamped (stamped.Open m)) d (w.histories h) past in
        let plan : Plan = makes.1 in
        let made : OpenMessage = record { evidence = makes.0; body = Whole (record { stable = plan.base; batches = plan.batches }); ui = next_ui self d (bare_of (opening makes.0 plan)) } in
        let same : made ≡ m = cc makes.3 in
        let o = open_made d makes.0 plan makes.2 in
        let known : IsPlanKnown system w f jumps plan = plan_at_known system w f jumps h (view_of self d) d correct before plan o.0 in
        let a = and_parts (makes.0.base == plan.base.pos) (makes.0.end == plan_end plan && same_bytes makes.0.plan (plan_digest plan)) o.1 in
        let b = and_parts (makes.0.end == plan_end plan) (same_bytes makes.0.plan (plan_digest plan)) a.1 in
        let digest : makes.0.plan ≡ plan_digest plan = same_bytes-true makes.0.plan (plan_digest plan) b.1 in
        let t = if_some (makes.0.view == v) (option_map (slot_of_plan makes.0) (batch_from makes.0.base p plan.batches)) k (subst (λ (y : OpenMessage). slot_of_open y v p ≡ Some k) (sym same) found) in
        let r = map_some (slot_of_plan makes.0) (batch_from makes.0.base p plan.batches) k t.1 in
        let there : at_counter (prefix system.schedule w h) m.ui.counter ≡ Some (bare.Open makes.0 (body_digest open_body_bytes made.body)) =
        stamped_there (stamped.Open m) d past ∙ ap (λ (y : OpenMessage). Some (bare_of (stamped.Open y))) (sym same) in
        let text : plans system.schedule w makes.0.plan ≡ Some (record { base = makes.0.base; digests = map batch_digest plan.batches }) =
        ap (plans system.schedule w) digest ∙ known.known ∙ ap (λ (n : ℕ). Some (record { base = n; digests = map batch_digest plan.batches })) (sym (eqb-true makes.0.base plan.base.pos a.0)) in
        subst (λ (y : KnownSlot). IsVoteIn h v p (slot_vote y)) r.2 (open_votes h v p m.ui.counter makes.0 (body_digest open_body_bytes made.body) makes.0.base plan.batches r.0 there t.0 text r.1)

    -- ---- another's OPEN

    record WasOpened (g : ℕ) (e : Evidence) : Type 0 where
      shown : OpenMessage
      before : History
      past : IsPast (Accepted (message.Open shown) ∷ before) (w.histories h)
      sender : shown.ui.host ≡ g
      evidence : shown.evidence ≡ e

    opened_was : (d : History) → IsPast d (w.histories h) → (g : ℕ) (e : Evidence) → opened_by d g ≡ Some e → WasOpened g e
    unfolding opened_by
    opened_was [] past g e is = absurd cc
    opened_was (Accepted (message.Open m) ∷ d) past g e is = elim (cases_Bool (eqb m.ui.host g)) [
      | inl same ↦ record { shown = m; before = d; past = past; sender = eqb-true m.ui.host g same; evidence = some_is m.evidence e (rw same at is) }
      | inr other ↦ opened_was d (past_tail (Accepted (message.Open m)) d (w.histories h) past) g e (rw other at is)
    ]
    opened_was (x ∷ d) past g e is = opened_was d (past_tail x d (w.histories h) past) g e is

    other_open : (d : History) → IsPast d (w.histories h) → (g v p : ℕ) (x : Vote) → open_vote (opened_by d g) (plan_at self d v) v p ≡ Some x → IsVoteIn g v p x
    other_open d past g v p x e = go (opened_by d g) (plan_at self d v) refl refl e where
      go : (o : Option Evidence) (y : Option Plan) → opened_by d g ≡ o → plan_at self d v ≡ y → open_vote o y v p ≡ Some x → IsVoteIn g v p x
      go (Some ev) (Some plan) is has e =
          let t = if_some (ev.view == v && same_bytes (plan_digest plan) ev.plan) (option_map (λ r. record { counter = ev.counter; request = batch_digest r }) (batch_from plan.base.pos p plan.batches)) x e in
          let a = and_parts (ev.view == v) (same_bytes (plan_digest plan) ev.plan) t.0 in
          let r = map_some (λ (r : Batch). record { counter = ev.counter; request = batch_digest r }) (batch_from plan.base.pos p plan.batches) x t.1 in
          let was = opened_was d past g ev is in
          let known : IsPlanKnown system w f jumps plan = plan_at_known system w f jumps h v d correct past plan has in
          let there : at_counter (prefix system.schedule w g) was.shown.ui.counter ≡ Some (bare.Open ev (body_digest open_body_bytes was.shown.body)) =
          subst (λ (i : ℕ). at_counter (prefix system.schedule w i) was.shown.ui.counter ≡ Some (bare.Open ev (body_digest open_body_bytes was.shown.body))) was.sender
          (accepted_there (stamped.Open was.shown) was.before was.past ∙ ap (λ (y : Evidence). Some (bare.Open y (body_digest open_body_bytes was.shown.body))) was.evidence) in
          subst (IsVoteIn g v p) r.2 (open_votes g v p was.shown.ui.counter ev (body_digest open_body_bytes was.shown.body) plan.base.pos plan.batches r.0 there a.0
          (ap (plans system.schedule w) (sym (same_bytes-true (plan_digest plan) ev.plan a.1)) ∙ known.known) r.1)
      go (Some ev) None is has e = absurd cc
      go None y is has e = absurd cc

    -- ---- any vote

    entry_vote : (e : Entry) (d : History) → IsPast (e ∷ d) (w.histories h) → (g v p : ℕ) (x : Vote) → counted_by h e g v p ≡ Some x → IsVoteIn g v p x
    entry_vote (Accepted (message.Prepare m)) d past g v p x e =
        let a = votes_with m.ui.host g v p m.view m.pos m.body m.ui.counter x e in
        subst (λ (i : ℕ). IsVoteIn i v p x) a.by (prepare_votes m.ui.host v p m.ui.counter m.view m.pos (body_digest batch_bytes m.body) x (accepted_there (stamped.Prepare m) d past) a.in_view a.place a.is)
    entry_vote (Accepted (message.Commit m)) d past g v p x e =
        let a = votes_with m.ui.host g v p m.view m.pos m.body m.counter x e in
        subst (λ (i : ℕ). IsVoteIn i v p x) a.by (commit_votes m.ui.host v p m.ui.counter m.view m.pos m.counter m.cert (body_digest batch_bytes m.body) x (accepted_there (stamped.Commit m) d past) a.in_view a.place a.is)
    entry_vote (Stamped (stamped.Prepare m)) d past g v p x e =
        let a = votes_with h g v p m.view m.pos m.body m.ui.counter x e in
        subst (λ (i : ℕ). IsVoteIn i v p x) a.by (prepare_votes h v p m.ui.counter m.view m.pos (body_digest batch_bytes m.body) x (stamped_there (stamped.Prepare m) d past) a.in_view a.place a.is)
    entry_vote (Stamped (stamped.Commit m)) d past g v p x e =
        let a = votes_with h g v p m.view m.pos m.body m.counter x e in
        subst (λ (i : ℕ). IsVoteIn i v p x) a.by (commit_votes h v p m.ui.counter m.view m.pos m.counter m.cert (body_digest batch_bytes m.body) x (stamped_there (stamped.Commit m) d past) a.in_view a.place a.is)
    entry_vote (Stamped (stamped.Open m)) d past g v p x e =
        let t = if_some (h == g) (option_map slot_vote (slot_of_open m v p)) x e in
        let k = map_some slot_vote (slot_of_open m v p) x t.1 in
        subst (λ (i : ℕ). IsVoteIn i v p x) (eqb-true h g t.0) (subst (IsVoteIn h v p) k.2 (own_open m d past v p k.0 k.1))
    entry_vote e d past g v p x is = absurd cc

    pub counted_vote : (d : History) → IsPast d (w.histories h) → (g v p : ℕ) (x : Vote) → vote_of self d g v p ≡ Some x → IsVoteIn g v p x
    unfolding vote_of
    counted_vote [] past g v p x e = absurd cc
    counted_vote (y ∷ d) past g v p x e =
        let new : Option Vote = option_or (counted_by h y g v p) (open_vote_by self (y ∷ d) y g v p) in
        elim (or_some (vote_of self d g v p) (if counts_at self (y ∷ d) v p then new else None) x e) [
          | inl before ↦ counted_vote d (past_tail y d (w.histories h) past) g v p x before
          | inr now ↦ elim (or_some (counted_by h y g v p) (open_vote_by self (y ∷ d) y g v p) x (if_some (counts_at self (y ∷ d) v p) new x now).1) [
            | inl voted ↦ entry_vote y d past g v p x voted
            | inr opened ↦ other_open (y ∷ d) past g v p x (if_some (counts_opens y) (open_vote (opened_by (y ∷ d) g) (plan_at self (y ∷ d) v) v p) x opened).1
          ]
        ]
