-- The batch of each slot that a correct host holds is sound, and so is that of each slot that it executes.
--
-- By induction on the own history: what it stamped shows sound batches. A PREPARE orders pending requests, each of which came by itself. A COMMIT is of a
-- slot, an OPEN of the plan that is held, and a VIEW_CHANGE shows what was stamped before.
use Rattle.std.proofs.Common.{◌≡◌, ℕ, ◌-◌, true, false, ◌&&◌, not, List, [], ◌∷◌, refl, sym, ap, subst, ◌∙◌, inl, inr, eqb, Option, Some, None}
use Rattle.std.specs.Prelude.{◌==◌, filter_map, nat_lt, slice_get, option_map, option_and_then, if◌then◌else◌}
use Rattle.std.specs.List.{AllByRecursion, range_with_len}
use Rattle.std.proofs.lemmas.Bool.{and_parts, cases_Bool, eqb-true, eq-eqb, ne_eqb}
use Rattle.mb_base.specs.Shapes.{Bytes, client_count}
use Rattle.mb_parts.specs.declared.request.Request.{Request}
use Rattle.mb_parts.specs.Fits.{FitsRequest}
use Rattle.mb_msg.specs.declared.message.Body.{Body}
use Rattle.mb_msg.specs.declared.message.Body.TheVariants.{Whole, Bare as Short}
use Rattle.mb_msg.specs.declared.message.Message.TheVariants as message
use Rattle.mb_msg.specs.declared.event.Slot.{Slot}
use Rattle.mb_msg.specs.declared.normal.Prepare.{Prepare as PrepareMessage}
use Rattle.mb_msg.specs.declared.normal.Commit.{Commit as CommitMessage}
use Rattle.mb_msg.specs.declared.change.Open.{Open as OpenMessage}
use Rattle.mb_msg.specs.declared.change.OpenBody.{OpenBody}
use Rattle.mb_msg.specs.declared.change.Plan.{Plan}
use Rattle.mb_msg.specs.declared.stamped.Stamped.{Stamped as StampedMessage}
use Rattle.mb_msg.specs.declared.stamped.Stamped.TheVariants as stamped
use Rattle.mb_msg.specs.Stamps.{bare_of}
use Rattle.mb_model.specs.declared.known.KnownSlot.{KnownSlot}
use Rattle.mb_model.specs.Service.{Served, is_fresh, batch_of}
use Rattle.mb_model.specs.Verified.{is_rightly_tagged, are_rightly_tagged}
use Rattle.mb_model.specs.Histories.{Entry, Accepted, Stamped, Executed, Installed, History, Identity, origin, taken_of, view_of, is_open, is_primary, stamped as all_stamped}
use Rattle.mb_model.specs.Histories as entry
use Rattle.mb_model.specs.Held.{plan_at, evidence_for}
use Rattle.mb_model.specs.OwnLog.{has_room, has_other_room, as_shown}
use Rattle.mb_model.specs.Positions.{batch_from, slot_of_prepare, slot_of_plan, slot_of_open, slot_by, counts_at, in_window, slot_in, slot_at}
use Rattle.mb_model.specs.Execution.{state_of, pending, if_fresh}
use Rattle.mb_model.specs.KindChecks.{is_of_view, has_bad_tag}
use Rattle.mb_model.specs.Sending.{next_ui}
use Rattle.mb_model.specs.Making.{prepare, commit, opening}
use Rattle.mb_model.specs.EnabledRules.{Open, Commit, Prepare, open_with, may_open, open_enabled, next_position, with_batch, commit_enabled, greatest_in_slots, window, unordered, prepare_enabled, may_order, unordered_of}
use Rattle.mb_model.proofs.Options.{or_some, if_some, map_some}
use Rattle.mb_model.specs.Members.{In}
use Rattle.mb_model.proofs.Members.{all_in}
use Rattle.mb_steps.specs.Arises.{Makes}
use Rattle.mb_model.specs.Inside.{requests_in, body_in, strings_in, bodies_in}
use Rattle.mb_world_model.specs.WorldEvents.{IsCorrect}
use Rattle.mb_world_model.specs.World.{World, System, self_of}
use Rattle.mb_host_laws.proofs.Cases.{not_false, some_is, all_more}
use Rattle.mb_host_laws.proofs.Found.{above_is, opened_plan}
use Rattle.mb_host_laws.specs.Rests.{Each}
use Rattle.mb_world_laws.proofs.Facts.{Facts}
use Rattle.mb_views.proofs.Follows.{JumpsLed}
use Rattle.mb_host_laws.proofs.Moments.{IsPast, past_tail, each_at}
use Rattle.mb_views.proofs.Floors.{arises_then}
use Rattle.mb_one_log.proofs.CountedVotes.{other_sender}
use Rattle.mb_one_log.proofs.SoundBatches.{OfStamped, IsSoundRequest, IsOwn, brought, own_tail, brought_request, IsSoundBatch}
use Rattle.mb_one_log.proofs.HeldBatches.{plan_at_sound}
use Rattle.mb_model.proofs.Lists.{in_at}
use Rattle.mb_msg.specs.Bodies.{whole_body, inside_whole, body_digest}
use Rattle.mb_parts.specs.Spelling.{batch_bytes}
use Rattle.mb_host_laws.proofs.Executing.{IsExecution}
use Rattle.mb_one_log.proofs.Executions.{executed_so}
use Rattle.mb_world_laws.proofs.AcceptedParts.{accepted_fits}
use Rattle.mb_host_laws.proofs.Parts.{body_string}
use Rattle.mb_model.specs.Passed.{PassesBody}
use Rattle.mb_host_laws.proofs.FirstBatches.{first_fits, first_all}
use Rattle.mb_model.specs.Batches.{first_batch}
use Rattle.mb_one_log.proofs.Batches.{shown_batches}
use Rattle.mb_parts.specs.declared.batch.Batch.{Batch}

-- what is kept of a request that waits, where it is still fresh
pub fresh_is : {S : Type 0} (self : Identity S) (x : Served S) (o : Option Request) (r : Request) → if_fresh self x o ≡ Some r → o ≡ Some r
fresh_is self x None r e = absurd cc
fresh_is self x (Some q) r e = (if_some (is_fresh x q) (Some q) r e).1

module _ {S : Type 0} (system : System S) (w : World) (f : Facts system w) (jumps : (h : ℕ) → IsCorrect system.schedule h → Each (JumpsLed system w f) (w.histories h))
    (asked_fits : (r : Request) → In w.asked r → FitsRequest system.schedule.shape r) (h : ℕ) (correct : IsCorrect system.schedule h) where
  abbrev self : Identity S
  self = self_of system h

  abbrev R : Batch → Type 0
  R b = IsSoundBatch system w f jumps asked_fits b

  abbrev Sound : Request → Type 0
  Sound r = IsSoundRequest system w f jumps asked_fits r

  abbrev Own : History → Type 0
  Own d = IsOwn system w f jumps asked_fits d

  abbrev Past : History → Type 0
  Past d = IsPast d (w.histories h)

  -- ---- slots

  abbrev SlotSound : KnownSlot → Type 0
  SlotSound k = (b : Batch) → k.batch ≡ Some b → R b

  prepare_made : (m : PrepareMessage) (v p : ℕ) (k : KnownSlot) → slot_of_prepare m v p ≡ Some k → ((m.view == v) ≡ true) × (k.batch ≡ whole_body m.body)
  prepare_made m v p k e =
      let made : KnownSlot = record { counter = m.ui.counter; cert = m.ui.cert; digest = body_digest batch_bytes m.body; batch = whole_body m.body } in
      let t = if_some (m.view == v && m.pos == p) (Some made) k e in
      ((and_parts (m.view == v) (m.pos == p) t.0).0, ap (λ (y : KnownSlot). y.batch) (sym (some_is made k t.1)))

  -- another's PREPARE changes no view
  view_same : (m : PrepareMessage) (d : History) → (m.ui.host ≡ h → ⊥) → view_of self (Accepted (message.Prepare m) ∷ d) ≡ view_of self d
  unfolding origin taken_of
  view_same m d other = rw (ne_eqb m.ui.host h other) refl

  accepted_slot : (m : PrepareMessage) (d : History) → Past (Accepted (message.Prepare m) ∷ d) → (v p : ℕ) (k : KnownSlot) → counts_at self (Accepted (message.Prepare m) ∷ d) v p ≡ true → slot_of_prepare m v p ≡ Some k → SlotSound k
  accepted_slot m d past v p k counts found r has =
      let passes = (arises_then system w f h correct (jumps h correct) (Accepted (message.Prepare m) ∷ d) past).0 in
      let a = and_parts (view_of self (Accepted (message.Prepare m) ∷ d) == v) (in_window self (Accepted (message.Prepare m) ∷ d) p) counts in
      let b = prepare_made m v p k found in
      let other = other_sender system w f jumps h correct (stamped.Prepare m) d past in
      let view : view_of self d ≡ m.view = sym (view_same m d other) ∙ eqb-true (view_of self (Accepted (message.Prepare m) ∷ d)) v a.0 ∙ sym (eqb-true m.view v b.0) in
      let whole : whole_body m.body ≡ Some r = sym b.1 ∙ has in
      let here : is_of_view self d m.view ≡ true = in_view view in
      shown m.body refl whole (passes.kind.shown here) where
        in_view : view_of self d ≡ m.view → is_of_view self d m.view ≡ true
        in_view e = rw e (eq-eqb m.view m.view refl)

        shown : (b : Body Batch) → m.body ≡ b → whole_body m.body ≡ Some r → PassesBody self d m.pos m.body → R r
        shown (Whole q) is whole passes =
            let same : q ≡ r = some_is q r (ap whole_body (sym is) ∙ whole) in
            let tag : has_bad_tag self q ≡ false = subst (λ (y : Body Batch). PassesBody self d m.pos y) is passes in
            subst R same (brought system w f jumps asked_fits h (message.Prepare m) d past q (subst (λ (y : Body Batch). In (inside_whole (λ (z : Batch). z ∷ []) y) q) (sym is) (inl refl)) (not_false (are_rightly_tagged system.schedule.secret q) tag))
        shown (Short z) is whole passes = let e : None ≡ Some r = ap whole_body (sym is) ∙ whole in absurd cc

  own_slot : (m : StampedMessage) (b : Body Batch) (r : Batch) → shown_batches (as_shown m) ≡ inside_whole (λ (z : Batch). z ∷ []) b → OfStamped R m → whole_body b ≡ Some r → R r
  own_slot m (Whole q) r is own e = subst R (some_is q r e) (subst (AllByRecursion R) is own).0
  own_slot m (Short z) r is own e = absurd cc

  open_found : (base p : ℕ) (b : Body OpenBody) (r : Batch) → AllByRecursion R (inside_whole (λ (x : OpenBody). x.batches) b) → option_and_then (λ (x : OpenBody). batch_from base p x.batches) (whole_body b) ≡ Some r → R r
  open_found base p (Whole x) r own e = let t = if_some (nat_lt base p) (slice_get x.batches (p - base - 1)) r e in all_in R x.batches r own (in_at x.batches (p - base - 1) r t.1)
  open_found base p (Short z) r own e = absurd cc

  open_slot : (m : OpenMessage) (v p : ℕ) (k : KnownSlot) → OfStamped R (stamped.Open m) → slot_of_open m v p ≡ Some k → SlotSound k
  open_slot m v p k own e r has =
      let t = if_some (m.evidence.view == v) (option_map (slot_of_plan m.evidence) (option_and_then (λ b. batch_from m.evidence.base p b.batches) (whole_body m.body))) k e in
      let q = map_some (slot_of_plan m.evidence) (option_and_then (λ (b : OpenBody). batch_from m.evidence.base p b.batches) (whole_body m.body)) k t.1 in
      subst R (some_is q.0 r (ap (λ (y : KnownSlot). y.batch) q.2 ∙ has)) (open_found m.evidence.base p m.body q.0 own q.1)

  own_of : (m : StampedMessage) (d : History) → Own (Stamped m ∷ d) → OfStamped R m
  unfolding all_stamped
  own_of m d a = a.0

  entry_slot : (x : Entry) (d : History) → Past (x ∷ d) → Own (x ∷ d) → (v p : ℕ) (k : KnownSlot) → counts_at self (x ∷ d) v p ≡ true → slot_by x v p ≡ Some k → SlotSound k
  entry_slot (Accepted (message.Prepare m)) d past own v p k counts e = accepted_slot m d past v p k counts e
  entry_slot (Stamped (stamped.Prepare m)) d past own v p k counts e = λ r has. own_slot (stamped.Prepare m) m.body r refl (own_of (stamped.Prepare m) d own) (sym (prepare_made m v p k e).1 ∙ has)
  entry_slot (Stamped (stamped.Open m)) d past own v p k counts e = open_slot m v p k (own_of (stamped.Open m) d own) e
  entry_slot x d past own v p k counts e = absurd cc

  slot_sound : (d : History) → Past d → Own d → (v p : ℕ) (k : KnownSlot) → slot_in self d v p ≡ Some k → SlotSound k
  unfolding slot_in
  slot_sound [] past own v p k e = absurd cc
  slot_sound (x ∷ d) past own v p k e = elim (or_some (slot_in self d v p) (if counts_at self (x ∷ d) v p then slot_by x v p else None) k e) [
    | inl before ↦ slot_sound d (past_tail x d (w.histories h) past) (own_tail system w f jumps asked_fits h correct x d own) v p k before
    | inr now ↦ let t = if_some (counts_at self (x ∷ d) v p) (slot_by x v p) k now in entry_slot x d past own v p k t.0 t.1
  ]

  slot_at_sound : (d : History) → Past d → Own d → (p : ℕ) (k : KnownSlot) → slot_at self d p ≡ Some k → SlotSound k
  slot_at_sound d past own p k e = slot_sound d past own (view_of self d) p k (if_some (in_window self d p) (slot_in self d (view_of self d) p) k e).1

  -- ---- a pending request came by itself

  request_came : (q : Request) (d : History) → Past (Accepted (message.Request q) ∷ d) → Sound q
  unfolding requests_in
  request_came q d past =
      let rests = (each_at _ (Accepted (message.Request q) ∷ d) (w.histories h) past (f.standing.rests h)).0 in
      brought_request system w f jumps asked_fits h (message.Request q) d past q (inl refl) (accepted_fits system w f h (message.Request q) d rests)
      (not_false (is_rightly_tagged system.schedule.secret q) (arises_then system w f h correct (jumps h correct) (Accepted (message.Request q) ∷ d) past).0.tagged)

  pending_sound : (d : History) → Past d → (c : ℕ) (r : Request) → pending self d c ≡ Some r → Sound r
  unfolding pending
  pending_sound [] past c r e = absurd cc
  pending_sound (Accepted (message.Request q) ∷ d) past c r e = elim (cases_Bool (eqb q.client c)) [
    | inl here ↦ subst Sound (some_is q r (rw here at e)) (request_came q d past)
    | inr other ↦ pending_sound d (past_tail (Accepted (message.Request q)) d (w.histories h) past) c r (rw other at e)
  ]
  pending_sound (entry.Served pos p ∷ d) past c r e = elim (cases_Bool (eqb p.request.client c)) [
    | inl here ↦ pending_sound d (past_tail (entry.Served pos p) d (w.histories h) past) c r (above_is p.request.seq (pending self d c) r (rw here at e))
    | inr other ↦ pending_sound d (past_tail (entry.Served pos p) d (w.histories h) past) c r (rw other at e)
  ]
  pending_sound (Installed pos parts ∷ d) past c r e = pending_sound d (past_tail (Installed pos parts) d (w.histories h) past) c r (fresh_is self (state_of self (Installed pos parts ∷ d)) (pending self d c) r e)
  pending_sound (x ∷ d) past c r e = pending_sound d (past_tail x d (w.histories h) past) c r e

  unordered_all : (d : History) → Past d → (cs : List ℕ) → AllByRecursion Sound (filter_map (unordered_of self d) cs)
  unordered_all d past [] = tt
  unordered_all d past (c ∷ cs) = go (unordered_of self d c) refl (unordered_all d past cs) where
    go : (o : Option Request) → unordered_of self d c ≡ o → AllByRecursion Sound (filter_map (unordered_of self d) cs) → AllByRecursion Sound (filter_map (unordered_of self d) (c ∷ cs))
    go None is rest = rw is rest
    go (Some r) is rest = rw is (pending_sound d past c r (above_is (greatest_in_slots self d c (window self d)) (pending self d c) r is), rest)

  unordered_sound : (d : History) → Past d → AllByRecursion Sound (unordered self d)
  unfolding unordered
  unordered_sound d past = unordered_all d past (range_with_len 0 (client_count self.shape))

  -- ---- a batch of sound requests

  -- Its bytes are a body of the own PREPARE, so they are hashed.
  prepared_hashed : (m : PrepareMessage) (b : Batch) (d : History) → Past (Stamped (stamped.Prepare m) ∷ d) → m.body ≡ Whole b → In w.hashed (batch_bytes b)
  unfolding bodies_in
  prepared_hashed m b d past is =
      let strings = (each_at _ (Stamped (stamped.Prepare m) ∷ d) (w.histories h) past (f.standing.rests h)).0.0 in
      let there : In (bodies_in (message.Prepare m)) (batch_bytes b) = subst (λ (y : Body Batch). In (body_in batch_bytes y) (batch_bytes b)) (sym is) (inl refl) in
      all_in (λ (x : Bytes). In w.hashed x) (strings_in system.schedule.shape (message.Prepare m)) (batch_bytes b) strings (body_string system.schedule.shape (message.Prepare m) (batch_bytes b) there)

  all_fit : (l : List Request) → AllByRecursion Sound l → AllByRecursion (FitsRequest system.schedule.shape) l
  all_fit l a = all_more Sound (FitsRequest system.schedule.shape) (λ r s. s.fits) l a

  batch_sound : (d : History) → Past d → (b : Batch) → first_batch (unordered self d) ≡ Some b → In w.hashed (batch_bytes b) → R b
  batch_sound d past b e hashed =
      let sound = unordered_sound d past in
      let requests = first_all Sound (unordered self d) b sound e in
      record {
        fits = first_fits system.schedule.shape (unordered self d) b (all_fit (unordered self d) sound) e;
        hashed = hashed;
        requests = λ r i. all_in Sound b.requests r requests i;
      }

  -- ---- what the host stamps

  prepare_sound : (m : PrepareMessage) (d : History) → Past (Stamped (stamped.Prepare m) ∷ d) → OfStamped R (stamped.Prepare m)
  unfolding prepare_enabled
  prepare_sound m d past =
      let before : Past d = past_tail (Stamped (stamped.Prepare m)) d (w.histories h) past in
      let makes : Makes self d (stamped.Prepare m) = (arises_then system w f h correct (jumps h correct) (Stamped (stamped.Prepare m) ∷ d) past).0 in
      let made : PrepareMessage = record { view = view_of self d; pos = makes.0; body = Whole makes.1; ui = next_ui self d (bare_of (prepare self d makes.0 makes.1)) } in
      let same : made ≡ m = cc makes.3 in
      let t = if_some (may_order self d) (option_map (Prepare (next_position self d)) (first_batch (unordered self d))) (Prepare makes.0 makes.1) makes.2 in
      let u = map_some (Prepare (next_position self d)) (first_batch (unordered self d)) (Prepare makes.0 makes.1) t.1 in
      let batch : u.0 ≡ makes.1 = cc u.2 in
      let hashed : In w.hashed (batch_bytes makes.1) = prepared_hashed m makes.1 d past (ap (λ (y : PrepareMessage). y.body) (sym same)) in
      subst (λ (y : PrepareMessage). OfStamped R (stamped.Prepare y)) same (subst R batch (batch_sound d before u.0 u.1 (subst (λ (b : Batch). In w.hashed (batch_bytes b)) (sym batch) hashed)), tt)

  commit_sound : (m : CommitMessage) (d : History) → Past (Stamped (stamped.Commit m) ∷ d) → Own d → OfStamped R (stamped.Commit m)
  unfolding commit_enabled
  commit_sound m d past own =
      let before : Past d = past_tail (Stamped (stamped.Commit m)) d (w.histories h) past in
      let makes : Makes self d (stamped.Commit m) = (arises_then system w f h correct (jumps h correct) (Stamped (stamped.Commit m) ∷ d) past).0 in
      let k : KnownSlot = makes.1 in
      let made : CommitMessage = record { view = view_of self d; pos = makes.0; counter = k.counter; cert = k.cert; body = Whole makes.2; ui = next_ui self d (bare_of (commit self d makes.0 k makes.2)) } in
      let same : made ≡ m = cc makes.4 in
      let t = if_some (is_open self d && (not (is_primary self d) && has_room self d)) (with_batch (Commit (next_position self d)) (slot_at self d (next_position self d))) (Commit makes.0 k makes.2) makes.3 in
      let u = requested (slot_at self d (next_position self d)) makes.0 k makes.2 t.1 in
      subst (λ (y : CommitMessage). OfStamped R (stamped.Commit y)) same (slot_at_sound d before own (next_position self d) u.0 u.1 makes.2 u.2, tt) where
        requested : (o : Option KnownSlot) (p : ℕ) (k : KnownSlot) (r : Batch) → with_batch (Commit (next_position self d)) o ≡ Some (Commit p k r) → (x : KnownSlot) × (o ≡ Some x) × (x.batch ≡ Some r)
        requested None p k r e = absurd cc
        requested (Some x) p k r e =
            let u = map_some (Commit (next_position self d) x) x.batch (Commit p k r) e in
            let same : u.0 ≡ r = cc u.2 in
            (x, refl, u.1 ∙ ap Some same)

  open_sound : (m : OpenMessage) (d : History) → Past (Stamped (stamped.Open m) ∷ d) → Own d → OfStamped R (stamped.Open m)
  unfolding open_enabled
  open_sound m d past own =
      let before : Past d = past_tail (Stamped (stamped.Open m)) d (w.histories h) past in
      let makes : Makes self d (stamped.Open m) = (arises_then system w f h correct (jumps h correct) (Stamped (stamped.Open m) ∷ d) past).0 in
      let plan : Plan = makes.1 in
      let made : OpenMessage = record { evidence = makes.0; body = Whole (record { stable = plan.base; batches = plan.batches }); ui = next_ui self d (bare_of (opening makes.0 plan)) } in
      let same : made ≡ m = cc makes.3 in
      let t = if_some (may_open self d && has_other_room self d) (open_with (evidence_for self d (view_of self d)) (plan_at self d (view_of self d))) (Open makes.0 plan) makes.2 in
      let there : plan_at self d (view_of self d) ≡ Some plan = opened_plan (evidence_for self d (view_of self d)) (plan_at self d (view_of self d)) makes.0 plan t.1 in
      subst (λ (y : OpenMessage). OfStamped R (stamped.Open y)) same (plan_at_sound system w f jumps asked_fits h correct d before own (view_of self d) plan there)

  stamp_sound : (m : StampedMessage) (d : History) → Past (Stamped m ∷ d) → Own d → OfStamped R m
  stamp_sound (stamped.Prepare m) d past own = prepare_sound m d past
  stamp_sound (stamped.Commit m) d past own = commit_sound m d past own
  stamp_sound (stamped.Open m) d past own = open_sound m d past own
  stamp_sound (stamped.Checkpoint m) d past own = tt
  stamp_sound (stamped.ViewChange m) d past own = tt
  stamp_sound (stamped.NewView m) d past own = tt
  stamp_sound (stamped.Enter m) d past own = tt
  stamp_sound (stamped.Join m) d past own = tt

  own_sound : (d : History) → Past d → Own d
  unfolding all_stamped
  own_sound [] past = tt
  own_sound (Stamped m ∷ d) past = let rest : Own d = own_sound d (past_tail (Stamped m) d (w.histories h) past) in (stamp_sound m d past rest, rest)
  own_sound (x ∷ d) past = own_sound d (past_tail x d (w.histories h) past)

  -- The batch of an executed slot is sound.
  pub executed_sound : (slot : Slot) (d : History) → Past (Executed slot ∷ d) → R (batch_of slot)
  executed_sound slot d past =
      let before : Past d = past_tail (Executed slot) d (w.histories h) past in
      let x : IsExecution self d slot = executed_so self d (w.histories h) slot (f.arises h) past in
      slot_at_sound d before (own_sound d before) slot.pos x.known x.there (batch_of slot) x.shown
