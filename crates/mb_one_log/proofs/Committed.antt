-- What a correct host executes is committed: f+1 hosts have the vote in their ordered prefixes, and the primary has what leads there.
use Rattle.std.proofs.Common.{◌≡◌, ℕ, zero, suc, ◌≤◌, Bool, true, ◌&&◌, List, [], ◌∷◌, ◌++◌, refl, sym, ap, subst, inl, inr, arith, Some, None}
use Rattle.std.specs.Prelude.{◌==◌, if◌then◌else◌, option_map, option_and_then}
use Rattle.std.proofs.lemmas.Bool.{and_parts, cases_Bool, eqb-true, eq-eqb, leb-true}
use Rattle.mb_base.specs.Shapes.{Bytes, primary, tally, quorum, host_count}
use Rattle.mb_usig.proofs.Laws.{true-same_bytes}
use Rattle.mb_parts.specs.declared.certificates.Evidence.{Evidence}
use Rattle.mb_parts.specs.Spelling.{batch_bytes}
use Rattle.mb_parts.specs.Bares.{Bare, batch_digest}
use Rattle.mb_parts.specs.Bares as bare
use Rattle.mb_parts.specs.Certificates.{inner_valid}
use Rattle.mb_parts.specs.Counters.{at_counter}
use Rattle.mb_parts.specs.Ordered.{initial_floor, is_ordered}
use Rattle.mb_parts.proofs.Counters.{StandsAt, at_split}
use Rattle.mb_parts.proofs.OrderedParts.{ordered_before}
use Rattle.mb_msg.specs.declared.event.Slot.{Slot}
use Rattle.mb_msg.specs.declared.message.Body.{Body}
use Rattle.mb_msg.specs.declared.message.Body.TheVariants.{Whole, Bare as Short}
use Rattle.mb_msg.specs.declared.message.Message.TheVariants as message
use Rattle.mb_msg.specs.declared.normal.Prepare.{Prepare as PrepareMessage}
use Rattle.mb_msg.specs.declared.change.Open.{Open as OpenMessage}
use Rattle.mb_msg.specs.declared.stamped.Stamped.TheVariants as stamped
use Rattle.mb_msg.specs.Bodies.{body_digest, whole_body}
use Rattle.mb_msg.specs.Spelling.{open_body_bytes}
use Rattle.mb_model.specs.declared.known.Vote.{Vote}
use Rattle.mb_model.specs.declared.known.KnownSlot.{KnownSlot}
use Rattle.mb_model.specs.Votes.{is_vote}
use Rattle.mb_model.specs.Committed.{leads, vote_in, IsCommitted}
use Rattle.mb_model.specs.Histories.{Entry, Accepted, Stamped, Executed, History, Identity, origin, taken_of, view_of}
use Rattle.mb_model.specs.GateChecks.{valid}
use Rattle.mb_model.specs.Positions.{batch_from, slot_of_plan, slot_of_prepare, slot_of_open, slot_by, slot_vote, counts_at, in_window, vote_of, vote_at, slot_in, matching}
use Rattle.mb_model.specs.Passed.{PassesStamped}
use Rattle.mb_model.proofs.Options.{or_some, if_some, map_some}
use Rattle.mb_steps.proofs.StepHeldEvidence.{prepare_by_primary}
use Rattle.mb_agreement.proofs.Stays.{is_vote_is}
use Rattle.mb_agreement.proofs.WholeLists.{prepare_is, open_is}
use Rattle.mb_world_model.specs.WorldEvents.{IsCorrect}
use Rattle.mb_world_model.specs.World.{World, System, self_of}
use Rattle.mb_world_model.specs.WorldRecord.{issued, prefix, plans, IsConsistent}
use Rattle.mb_host_laws.proofs.Cases.{some_is}
use Rattle.mb_host_laws.specs.Rests.{Each}
use Rattle.mb_world_laws.proofs.Facts.{Facts}
use Rattle.mb_views.proofs.Follows.{JumpsLed}
use Rattle.mb_host_laws.proofs.Moments.{IsPast, past_tail}
use Rattle.mb_views.proofs.Floors.{arises_then}
use Rattle.mb_one_log.proofs.OneVote.{stands_voted}
use Rattle.mb_one_log.proofs.CountedVotes.{accepted_there, stamped_there, counted_vote}
use Rattle.mb_host_laws.proofs.Executing.{IsExecution}
use Rattle.mb_one_log.proofs.Executions.{executed_so}
use Rattle.mb_parts.specs.declared.batch.Batch.{Batch}
use Rattle.mb_model.specs.Service.{batch_of}

tally_more : (p q : ℕ → Bool) → ((h : ℕ) → p h ≡ true → q h ≡ true) → (n : ℕ) → tally p n ≤ tally q n
tally_more p q more zero = omega arith
tally_more p q more (suc n) = elim (cases_Bool (p n)) [
  | inl yes_so ↦ rw (yes_so, more n yes_so) (omega (arith, tally_more p q more n))
  | inr not_so ↦ rw not_so (omega (arith, tally_more p q more n))
]

module _ {S : Type 0} (system : System S) (w : World) (f : Facts system w) (jumps : (h : ℕ) → IsCorrect system.schedule h → Each (JumpsLed system w f) (w.histories h))
    (facts : IsConsistent system.schedule w) (h : ℕ) (correct : IsCorrect system.schedule h) where
  abbrev self : Identity S
  self = self_of system h

  -- ---- what leads at the counter of a slot

  -- The primary of the view has in its prefix what leads the view at this counter.
  abbrev Leads : ℕ → ℕ → Type 0
  Leads v n = leads v (at_counter (prefix system.schedule w (primary system.schedule.shape v)) n) ≡ true

  leads_by_prepare : (v n view pos : ℕ) (digest : Bytes) → (view == v) ≡ true → at_counter (prefix system.schedule w (primary system.schedule.shape view)) n ≡ Some (bare.Prepare view pos digest) → Leads v n
  leads_by_prepare v n view pos digest same at = subst (λ (x : ℕ). Leads x n) (eqb-true view v same) (rw at (eq-eqb view view refl))

  leads_by_plan : (v : ℕ) (e : Evidence) (n : ℕ) (digest : Bytes) → (e.view == v) ≡ true → at_counter (prefix system.schedule w h) n ≡ Some (bare.Open e digest) → Leads v e.counter
  leads_by_plan v e n digest same at =
      let s : StandsAt (prefix system.schedule w h) n (bare.Open e digest) = at_split (prefix system.schedule w h) n (bare.Open e digest) at in
      let o : is_ordered initial_floor system.schedule.shape h (inner_valid system.schedule.shape (issued system.schedule w)) (s.later ++ bare.Open e digest ∷ s.before) ≡ true = subst (λ (l : List Bare). is_ordered initial_floor system.schedule.shape h (inner_valid system.schedule.shape (issued system.schedule w)) l ≡ true) (sym s.is) (facts.ordered h) in
      let i = open_is system.schedule.shape system.schedule.secret (plans system.schedule w) (issued system.schedule w) (prefix system.schedule w) facts h e digest s.before
      (ordered_before initial_floor system.schedule.shape h (inner_valid system.schedule.shape (issued system.schedule w)) s.later (bare.Open e digest ∷ s.before) o) in
      subst (λ (x : ℕ). Leads x e.counter) (eqb-true e.view v same) (rw (facts.new_views e i.evidence) (eq-eqb e.view e.view refl))

  own_primary : (n view pos : ℕ) (digest : Bytes) → at_counter (prefix system.schedule w h) n ≡ Some (bare.Prepare view pos digest) → h ≡ primary system.schedule.shape view
  own_primary n view pos digest at =
      let s : StandsAt (prefix system.schedule w h) n (bare.Prepare view pos digest) = at_split (prefix system.schedule w h) n (bare.Prepare view pos digest) at in
      let o : is_ordered initial_floor system.schedule.shape h (inner_valid system.schedule.shape (issued system.schedule w)) (s.later ++ bare.Prepare view pos digest ∷ s.before) ≡ true = subst (λ (l : List Bare). is_ordered initial_floor system.schedule.shape h (inner_valid system.schedule.shape (issued system.schedule w)) l ≡ true) (sym s.is) (facts.ordered h) in
      (prepare_is system.schedule.shape system.schedule.secret (plans system.schedule w) (issued system.schedule w) (prefix system.schedule w) facts h view pos digest s.before
      (ordered_before initial_floor system.schedule.shape h (inner_valid system.schedule.shape (issued system.schedule w)) s.later (bare.Prepare view pos digest ∷ s.before) o)).1

  -- What a slot has: its batch's digest, and its counter leads.
  record IsLedSlot (v : ℕ) (k : KnownSlot) : Type 0 where
    led : Leads v k.counter
    digest : (b : Batch) → k.batch ≡ Some b → k.digest ≡ batch_digest b

  whole_digest : (b : Body Batch) (r : Batch) → whole_body b ≡ Some r → body_digest batch_bytes b ≡ batch_digest r
  whole_digest (Whole x) r e = ap batch_digest (some_is x r e)
  whole_digest (Short d) r e = absurd cc

  prepare_slot : (m : PrepareMessage) (v p : ℕ) (k : KnownSlot) → slot_of_prepare m v p ≡ Some k → ((m.view == v) ≡ true → Leads v m.ui.counter) → IsLedSlot v k
  prepare_slot m v p k e led =
      let made : KnownSlot = record { counter = m.ui.counter; cert = m.ui.cert; digest = body_digest batch_bytes m.body; batch = whole_body m.body } in
      let t = if_some (m.view == v && m.pos == p) (Some made) k e in
      let a = and_parts (m.view == v) (m.pos == p) t.0 in
      subst (IsLedSlot v) (some_is made k t.1) (record { led = led a.0; digest = λ r is. whole_digest m.body r is })

  plan_slot : (m : OpenMessage) (v p : ℕ) (k : KnownSlot) → slot_of_open m v p ≡ Some k → ((m.evidence.view == v) ≡ true → Leads v m.evidence.counter) → IsLedSlot v k
  plan_slot m v p k e led =
      let t = if_some (m.evidence.view == v) (option_map (slot_of_plan m.evidence) (option_and_then (λ b. batch_from m.evidence.base p b.batches) (whole_body m.body))) k e in
      let r = map_some (slot_of_plan m.evidence) (option_and_then (λ b. batch_from m.evidence.base p b.batches) (whole_body m.body)) k t.1 in
      subst (IsLedSlot v) r.2 (record { led = led t.0; digest = λ q is. ap batch_digest (some_is r.0 q is) })

  entry_slot : (e : Entry) (d : History) → IsPast (e ∷ d) (w.histories h) → (v p : ℕ) (k : KnownSlot) → slot_by e v p ≡ Some k → IsLedSlot v k
  entry_slot (Accepted (message.Prepare m)) d past v p k e =
      let a : PassesStamped self d (stamped.Prepare m) = (arises_then system w f h correct (jumps h correct) (Accepted (message.Prepare m) ∷ d) past).0 in
      let by : m.ui.host ≡ primary system.schedule.shape m.view = prepare_by_primary (origin d m.ui.host) self.shape m.ui.host (inner_valid self.shape (valid self)) (taken_of d m.ui.host) m.view m.pos (body_digest batch_bytes m.body) a.gate.permitted in
      let at : at_counter (prefix system.schedule w (primary system.schedule.shape m.view)) m.ui.counter ≡ Some (bare.Prepare m.view m.pos (body_digest batch_bytes m.body)) =
      subst (λ (i : ℕ). at_counter (prefix system.schedule w i) m.ui.counter ≡ Some (bare.Prepare m.view m.pos (body_digest batch_bytes m.body))) by (accepted_there system w f jumps h correct (stamped.Prepare m) d past) in
      prepare_slot m v p k e (λ same. leads_by_prepare v m.ui.counter m.view m.pos (body_digest batch_bytes m.body) same at)
  entry_slot (Stamped (stamped.Prepare m)) d past v p k e =
      let mine : at_counter (prefix system.schedule w h) m.ui.counter ≡ Some (bare.Prepare m.view m.pos (body_digest batch_bytes m.body)) = stamped_there system w f jumps h correct (stamped.Prepare m) d past in
      let at : at_counter (prefix system.schedule w (primary system.schedule.shape m.view)) m.ui.counter ≡ Some (bare.Prepare m.view m.pos (body_digest batch_bytes m.body)) =
      subst (λ (i : ℕ). at_counter (prefix system.schedule w i) m.ui.counter ≡ Some (bare.Prepare m.view m.pos (body_digest batch_bytes m.body))) (own_primary m.ui.counter m.view m.pos (body_digest batch_bytes m.body) mine) mine in
      prepare_slot m v p k e (λ same. leads_by_prepare v m.ui.counter m.view m.pos (body_digest batch_bytes m.body) same at)
  entry_slot (Stamped (stamped.Open m)) d past v p k e =
      plan_slot m v p k e (λ same. leads_by_plan v m.evidence m.ui.counter (body_digest open_body_bytes m.body) same (stamped_there system w f jumps h correct (stamped.Open m) d past))
  entry_slot e d past v p k is = absurd cc

  led_slot : (d : History) → IsPast d (w.histories h) → (v p : ℕ) (k : KnownSlot) → slot_in self d v p ≡ Some k → IsLedSlot v k
  unfolding slot_in
  led_slot [] past v p k e = absurd cc
  led_slot (x ∷ d) past v p k e = elim (or_some (slot_in self d v p) (if counts_at self (x ∷ d) v p then slot_by x v p else None) k e) [
    | inl before ↦ led_slot d (past_tail x d (w.histories h) past) v p k before
    | inr now ↦ entry_slot x d past v p k (if_some (counts_at self (x ∷ d) v p) (slot_by x v p) k now).1
  ]

  -- ---- what is executed is committed

  vote_own : (x : Vote) → is_vote (Some x) x ≡ true
  vote_own x = rw (eq-eqb x.counter x.counter refl) (true-same_bytes x.request x.request refl)

  counted_voted : (d : History) → IsPast d (w.histories h) → (p : ℕ) (x : Vote) (g : ℕ) → is_vote (vote_at self d g p) x ≡ true → is_vote (vote_in (plans system.schedule w) (prefix system.schedule w g) (view_of self d) p) x ≡ true
  counted_voted d past p x g e =
      let v : ℕ = view_of self d in
      let t = if_some (in_window self d p) (vote_of self d g v p) x (is_vote_is (vote_at self d g p) x e) in
      let n = counted_vote system w f jumps h correct d past g v p x t.1 in
      rw (stands_voted system.schedule.shape system.schedule.secret (plans system.schedule w) (issued system.schedule w) (prefix system.schedule w) facts g n.counter n.says v p x n.there n.votes) (vote_own x)

  pub record IsCommittedSlot (slot : Slot) : Type 0 where
    pub view : ℕ
    pub counter : ℕ
    pub committed : IsCommitted (plans system.schedule w) system.schedule.shape (prefix system.schedule w) view slot.pos (record { counter = counter; request = batch_digest (batch_of slot) })

  pub executed_committed : (slot : Slot) (d : History) → IsPast (Executed slot ∷ d) (w.histories h) → IsCommittedSlot slot
  executed_committed slot d past =
      let x : IsExecution self d slot = executed_so self d (w.histories h) slot (f.arises h) past in
      let before : IsPast d (w.histories h) = past_tail (Executed slot) d (w.histories h) past in
      let v : ℕ = view_of self d in
      let t = if_some (in_window self d slot.pos) (slot_in self d v slot.pos) x.known x.there in
      let s : IsLedSlot v x.known = led_slot d before v slot.pos x.known t.1 in
      let enough : quorum system.schedule.shape ≤ matching self d slot.pos (slot_vote x.known) = leb-true (quorum system.schedule.shape) (matching self d slot.pos (slot_vote x.known)) x.committed in
      let more = tally_more (λ g. is_vote (vote_at self d g slot.pos) (slot_vote x.known)) (λ g. is_vote (vote_in (plans system.schedule w) (prefix system.schedule w g) v slot.pos) (slot_vote x.known))
      (λ g e. counted_voted d before slot.pos (slot_vote x.known) g e) (host_count system.schedule.shape) in
      record {
        view = v;
        counter = x.known.counter;
        committed = subst (λ (b : Bytes). IsCommitted (plans system.schedule w) system.schedule.shape (prefix system.schedule w) v slot.pos (record { counter = x.known.counter; request = b })) (s.digest (batch_of slot) x.shown)
            (record { voted = omega (arith, enough, more); led = s.led });
      }
