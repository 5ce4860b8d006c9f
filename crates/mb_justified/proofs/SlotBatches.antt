-- A request that waits, or that stands in the batch of a slot, has the tag of its client; the batch of a slot has the digest that the slot names.
--
-- A REQUEST was accepted with its tag. A slot came of a PREPARE of the host's view that was accepted with its batch, of the own PREPARE of requests that
-- waited, or of the own OPEN, whose plan is sound (`held_sound`).
use Rattle.std.proofs.Common.{◌≡◌, ℕ, true, false, ◌&&◌, List, [], ◌∷◌, refl, sym, ap, subst, ◌∙◌, inl, inr, Option, Some, None}
use Rattle.std.specs.Prelude.{◌==◌, ◌-◌, filter_map, option_map, option_and_then, if◌then◌else◌, nat_lt, slice_get}
use Rattle.std.specs.List.{AllByRecursion, list_all, range_with_len}
use Rattle.std.proofs.lemmas.Bool.{cases_Bool, and_parts, and_from, eqb-true, eq-eqb}
use Rattle.mb_base.specs.Shapes.{client_count}
use Rattle.mb_parts.specs.declared.request.Request.{Request}
use Rattle.mb_parts.specs.Bares.{batch_digest}
use Rattle.mb_parts.specs.Spelling.{batch_bytes}
use Rattle.mb_msg.specs.declared.message.Body.{Body}
use Rattle.mb_msg.specs.declared.message.Body.TheVariants.{Whole, Bare as Short}
use Rattle.mb_msg.specs.declared.message.Message.TheVariants as message
use Rattle.mb_msg.specs.declared.change.Open.{Open as OpenMessage}
use Rattle.mb_msg.specs.declared.change.OpenBody.{OpenBody}
use Rattle.mb_msg.specs.declared.normal.Prepare.{Prepare as PrepareMessage}
use Rattle.mb_msg.specs.declared.stamped.Stamped.TheVariants as stamped
use Rattle.mb_msg.specs.Bodies.{body_digest, whole_body}
use Rattle.mb_model.specs.declared.known.KnownSlot.{KnownSlot}
use Rattle.mb_model.specs.Histories.{Entry, Accepted, Stamped, Served, Installed, History, Identity, origin, taken_of, view_of}
use Rattle.mb_model.specs.KindChecks.{is_badly_tagged}
use Rattle.mb_model.specs.Passed.{PassesBody}
use Rattle.mb_model.specs.Positions.{batch_from, slot_of_prepare, slot_of_plan, slot_of_open, slot_by, counts_at, in_window, slot_in}
use Rattle.mb_model.specs.Execution.{pending, state_of}
use Rattle.mb_model.specs.EnabledRules.{unordered, greatest_in_slots, window, unordered_of}
use Rattle.mb_model.proofs.Options.{or_some, map_some, if_some}
use Rattle.mb_steps.specs.Arises.{Arises}
use Rattle.mb_steps.proofs.StepOwnList.{own_passed}
use Rattle.mb_steps.proofs.StepOwnStamped.{steady}
use Rattle.mb_world_model.specs.WorldEvents.{IsCorrect}
use Rattle.mb_world_model.specs.World.{World, System, self_of}
use Rattle.mb_host_laws.proofs.Cases.{not_false, some_is}
use Rattle.mb_host_laws.proofs.Found.{above_is}
use Rattle.mb_world_laws.proofs.Facts.{Facts}
use Rattle.mb_host_laws.proofs.Moments.{IsPast, past_tail, arises_by}
use Rattle.mb_views.proofs.SoundPlans.{AreTagged}
use Rattle.mb_views.proofs.HeldSound.{held_sound}
use Rattle.mb_views.proofs.OwnSeen.{SeenPrepare, seen_prepare, SeenOpen, seen_open}
use Rattle.mb_parts.specs.declared.batch.Batch.{Batch}
use Rattle.mb_model.specs.Batches.{first_batch}
use Rattle.mb_model.specs.Verified.{is_rightly_tagged}
use Rattle.mb_host_laws.proofs.FirstBatches.{first_all}
use Rattle.mb_one_log.proofs.ExecutedSound.{fresh_is}
use Rattle.mb_model.proofs.Lists.{all_at}

module _ {S : Type 0} (self : Identity S) where
  abbrev IsTaggedRequest : Request → Type 0
  IsTaggedRequest r = is_rightly_tagged self.secret r ≡ true

  -- ---- requests that wait

  tag_is : (r : Request) → is_badly_tagged self r ≡ false → IsTaggedRequest r
  tag_is r e = not_false _ e

  pub pending_tagged : (d : History) → Arises self d → (c : ℕ) (r : Request) → pending self d c ≡ Some r → IsTaggedRequest r
  unfolding pending
  pending_tagged [] a c r e = absurd cc
  pending_tagged (Accepted (message.Request q) ∷ d) a c r e = elim (cases_Bool (q.client == c)) [
    | inl mine ↦ subst IsTaggedRequest (some_is q r (rw mine at e)) (tag_is q a.0.tagged)
    | inr other ↦ pending_tagged d a.1 c r (rw other at e)
  ]
  pending_tagged (Served pos p ∷ d) a c r e = elim (cases_Bool (p.request.client == c)) [
    | inl mine ↦ pending_tagged d a.1 c r (above_is p.request.seq (pending self d c) r (rw mine at e))
    | inr other ↦ pending_tagged d a.1 c r (rw other at e)
  ]
  pending_tagged (Installed pos parts ∷ d) a c r e = pending_tagged d a.1 c r (fresh_is self (state_of self (Installed pos parts ∷ d)) (pending self d c) r e)
  pending_tagged (z ∷ d) a c r e = pending_tagged d a.1 c r e

  unordered_all : (d : History) → Arises self d → (cs : List ℕ) → AllByRecursion IsTaggedRequest (filter_map (unordered_of self d) cs)
  unordered_all d a [] = tt
  unordered_all d a (c ∷ cs) = go (unordered_of self d c) refl (unordered_all d a cs) where
    go : (o : Option Request) → unordered_of self d c ≡ o → AllByRecursion IsTaggedRequest (filter_map (unordered_of self d) cs) → AllByRecursion IsTaggedRequest (filter_map (unordered_of self d) (c ∷ cs))
    go None is rest = rw is rest
    go (Some r) is rest = rw is (pending_tagged d a c r (above_is (greatest_in_slots self d c (window self d)) (pending self d c) r is), rest)

  unordered_tagged : (d : History) → Arises self d → AllByRecursion IsTaggedRequest (unordered self d)
  unfolding unordered
  unordered_tagged d a = unordered_all d a (range_with_len 0 (client_count self.shape))

  each_tagged : (l : List Request) → AllByRecursion IsTaggedRequest l → list_all (is_rightly_tagged self.secret) l ≡ true
  each_tagged [] a = refl
  each_tagged (r ∷ l) a = and_from (is_rightly_tagged self.secret r) (list_all (is_rightly_tagged self.secret) l) a.0 (each_tagged l a.1)

  -- The batch that a PREPARE would have is of requests that wait.
  pub first_tagged : (d : History) → Arises self d → (b : Batch) → first_batch (unordered self d) ≡ Some b → AreTagged self b
  first_tagged d a b e = each_tagged b.requests (first_all IsTaggedRequest (unordered self d) b (unordered_tagged d a) e)

  -- ---- slots

  -- The batch of a slot, if it is there, has its digest and is rightly tagged.
  abbrev pub IsSoundSlot : KnownSlot → Type 0
  IsSoundSlot k = (b : Batch) → k.batch ≡ Some b → (batch_digest b ≡ k.digest) × AreTagged self b

  whole_slot : (b : Body Batch) → ((r : Batch) → b ≡ Whole r → AreTagged self r) → (r : Batch) → whole_body b ≡ Some r → (batch_digest r ≡ body_digest batch_bytes b) × AreTagged self r
  whole_slot (Whole q) t r e = (ap batch_digest (sym (some_is q r e)), subst (AreTagged self) (some_is q r e) (t q refl))
  whole_slot (Short d) t r e = absurd cc

  prepare_slot : (m : PrepareMessage) (v p : ℕ) (k : KnownSlot) → (m.view ≡ v → (r : Batch) → m.body ≡ Whole r → AreTagged self r) → slot_of_prepare m v p ≡ Some k → IsSoundSlot k
  prepare_slot m v p k tagged e =
      let made : KnownSlot = record { counter = m.ui.counter; cert = m.ui.cert; digest = body_digest batch_bytes m.body; batch = whole_body m.body } in
      let t = if_some (m.view == v && m.pos == p) (Some made) k e in
      subst IsSoundSlot (some_is made k t.1) (whole_slot m.body (tagged (eqb-true m.view v (and_parts (m.view == v) (m.pos == p) t.0).0)))

  passed_tagged : (d : History) (pos : ℕ) (b : Body Batch) → PassesBody self d pos b → (r : Batch) → b ≡ Whole r → AreTagged self r
  passed_tagged d pos (Whole q) p r e = subst (AreTagged self) (same q r e) (not_false _ p) where
    same : (x y : Batch) → Whole x ≡ Whole y → x ≡ y
    same x y e = cc
  passed_tagged d pos (Short x) p r e = absurd cc

  -- An accepted PREPARE is of another host, so the host stays in its view.
  view_stays : (d : History) (m : PrepareMessage) → Arises self (Accepted (message.Prepare m) ∷ d) → view_of self (Accepted (message.Prepare m) ∷ d) ≡ view_of self d
  unfolding origin taken_of
  view_stays d m a = rw (own_passed self d (stamped.Prepare m) (steady self d a.1).list.own a.0.gate) refl

module _ {S : Type 0} (system : System S) (w : World) (f : Facts system w) (h : ℕ) (correct : IsCorrect system.schedule h) where
  abbrev self : Identity S
  self = self_of system h

  open_slot : (d : History) (m : OpenMessage) (v p : ℕ) (k : KnownSlot) → IsPast d (w.histories h) → SeenOpen self d m → slot_of_open m v p ≡ Some k → IsSoundSlot self k
  open_slot d m v p k past s e =
      let body : Option OpenBody = Some (record { stable = s.plan.base; batches = s.plan.batches }) in
      let shown : (if m.evidence.view == v then option_map (slot_of_plan m.evidence) (option_and_then (λ b. batch_from m.evidence.base p b.batches) body) else None) ≡ Some k = rw s.body at e in
      let t = if_some (m.evidence.view == v) (option_map (slot_of_plan m.evidence) (batch_from m.evidence.base p s.plan.batches)) k shown in
      let q = map_some (slot_of_plan m.evidence) (batch_from m.evidence.base p s.plan.batches) k t.1 in
      let u = if_some (nat_lt m.evidence.base p) (slice_get s.plan.batches (p - m.evidence.base - 1)) q.0 q.1 in
      let tagged : AreTagged self q.0 = all_at (AreTagged self) s.plan.batches (p - m.evidence.base - 1) q.0 (held_sound system w f h correct d past (s.held.0, s.plan) s.held.1).1 u.1 in
      subst (IsSoundSlot self) q.2 (λ r is. (ap batch_digest (sym (some_is q.0 r is)), subst (AreTagged self) (some_is q.0 r is) tagged))

  new_slot : (x : Entry) (d : History) (v p : ℕ) (k : KnownSlot) → IsPast d (w.histories h) → Arises self (x ∷ d) → view_of self (x ∷ d) ≡ v → slot_by x v p ≡ Some k → IsSoundSlot self k
  new_slot (Accepted (message.Prepare m)) d v p k past a now e = prepare_slot self m v p k
      (λ same. passed_tagged self d m.pos m.body (a.0.kind.shown (eq-eqb (view_of self d) m.view (sym (view_stays self d m a) ∙ now ∙ sym same)))) e
  new_slot (Stamped (stamped.Prepare m)) d v p k past a now e =
      let s : SeenPrepare self d m = seen_prepare self d m a.0 in
      prepare_slot self m v p k (λ same r is. subst (AreTagged self) (whole_is s.batch r (sym s.body ∙ is)) (first_tagged self d a.1 s.batch s.first)) e where
        whole_is : (x y : Batch) → Whole x ≡ Whole y → x ≡ y
        whole_is x y e = cc
  new_slot (Stamped (stamped.Open m)) d v p k past a now e = open_slot d m v p k past (seen_open self d m a.0) e
  new_slot x d v p k past a now e = absurd cc

  slot_found : (d : History) → IsPast d (w.histories h) → Arises self d → (v p : ℕ) (k : KnownSlot) → slot_in self d v p ≡ Some k → IsSoundSlot self k
  unfolding slot_in
  slot_found [] past a v p k e = absurd cc
  slot_found (x ∷ d) past a v p k e = elim (or_some (slot_in self d v p) (if counts_at self (x ∷ d) v p then slot_by x v p else None) k e) [
    | inl before ↦ slot_found d (past_tail x d (w.histories h) past) a.1 v p k before
    | inr now ↦
        let t = if_some (counts_at self (x ∷ d) v p) (slot_by x v p) k now in
        let c = and_parts (view_of self (x ∷ d) == v) (in_window self (x ∷ d) p) t.0 in
        new_slot x d v p k (past_tail x d (w.histories h) past) a (eqb-true (view_of self (x ∷ d)) v c.0) t.1
  ]

  -- The batch of a slot has the digest that the slot names, and the tag of its client.
  pub slot_sound : (d : History) → IsPast d (w.histories h) → (v p : ℕ) (k : KnownSlot) → slot_in self d v p ≡ Some k → IsSoundSlot self k
  slot_sound d past v p k e = slot_found d past (arises_by self past.later d (subst (λ (x : History). Arises self x) (sym past.is) (f.arises h))) v p k e
