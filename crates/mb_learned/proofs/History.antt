-- What is learnt and the line begin with one another, and what hosts say of their states is what is learnt.
--
-- A learnt batch and one that a correct host executed at its position are both committed, so they are one batch. So are their marks, and by induction the
-- lists. Of f+1 hosts that say a state's digest one is correct, and had the state behind the line's slots.
use Rattle.std.proofs.Common.{◌≡◌, ℕ, zero, suc, ◌+◌, ◌<◌, ◌≤◌, ◌⊎◌, Bool, true, false, not, List, [], ◌∷◌, ◌++◌, length, map, take, take_all, drop, slice_get, Some, refl, sym, ap, subst, ◌∙◌, inl, inr, arith, take-append-drop}
use Rattle.std.specs.Prelude.{◌==◌, ◌&&◌}
use Rattle.std.specs.List.{range_with_len}
use Rattle.std.proofs.lemmas.Bool.{and_parts, eqb-true, cases_lt}
use Rattle.std.proofs.lemmas.Option.{none-some, same_Some}
use Rattle.mb_base.specs.Shapes.{Bytes, client_count}
use Rattle.mb_usig.specs.Tags.{same_bytes}
use Rattle.mb_usig.proofs.Laws.{same_bytes-true, true-same_bytes}
use Rattle.mb_parts.specs.declared.request.Request.{Request}
use Rattle.mb_parts.specs.declared.batch.Batch.{Batch}
use Rattle.mb_parts.specs.Bares.{Bare, batch_digest}
use Rattle.mb_parts.specs.Bares as bare
use Rattle.mb_parts.specs.Claims.{Claim}
use Rattle.mb_parts.specs.Fits.{FitsRequest}
use Rattle.mb_parts.specs.Spelling.{batch_bytes}
use Rattle.mb_msg.proofs.Injective.{batch_injective}
use Rattle.mb_msg.specs.declared.event.Placed.{Placed}
use Rattle.mb_msg.specs.declared.event.Slot.{Slot}
use Rattle.mb_model.specs.Committed.{IsCommitted}
use Rattle.mb_model.specs.Execution.{state_of}
use Rattle.mb_model.specs.Histories.{Executed}
use Rattle.mb_model.specs.Positions.{exec_of}
use Rattle.mb_model.specs.Service.{Machine, Served, start, is_fresh, served, served_each, served_all, batch_of}
use Rattle.mb_model.specs.States.{parts_of, state_digest}
use Rattle.mb_model.specs.Verified.{verifies}
use Rattle.mb_model.specs.Members.{In}
use Rattle.mb_model.proofs.Members.{any_in, contained}
use Rattle.mb_model.proofs.Quorums.{quorum_has_correct}
use Rattle.mb_agreement.proofs.Agree.{agrees}
use Rattle.mb_schedule.specs.Limits.{is_faulty}
use Rattle.mb_world_model.specs.Hashed.{HashesApart}
use Rattle.mb_promise.specs.Headline.{IsService}
use Rattle.mb_promise.specs.Safety.{IsSafe, after_line}
use Rattle.mb_world_model.specs.World.{World, System, self_of}
use Rattle.mb_world_model.specs.WorldEvents.{IsCorrect}
use Rattle.mb_world_model.specs.WorldRecord.{issued, prefix, plans, IsConsistent}
use Rattle.mb_model.proofs.Lists.{get_there, take_next}
use Rattle.mb_world_laws.proofs.Facts.{Facts}
use Rattle.mb_host_laws.specs.Rests.{Each}
use Rattle.mb_views.proofs.CorrectOne.{IsStamped, issued_stamped}
use Rattle.mb_views.proofs.Follows.{JumpsLed}
use Rattle.mb_one_log.proofs.Along.{IsOnLine, on_line, within, along, between}
use Rattle.mb_one_log.proofs.Committed.{executed_committed}
use Rattle.mb_one_log.proofs.InstalledState.{IsOnceAt, checkpoint_once}
use Rattle.mb_one_log.proofs.Line.{LineStands}
use Rattle.mb_one_log.proofs.OneExecuted.{executed_batch}
use Rattle.mb_one_log.proofs.WholeBatches.{IsWholeAll}
use Rattle.mb_audit.specs.Stamps.{claims_among}
use Rattle.mb_learn.specs.Proved.{behind, DiffersAt, digest_behind, is_checkpoint, says_state}
use Rattle.mb_learn.proofs.Tests.{true_false}
use Rattle.mb_learned.specs.Learned.{BeginsWith, strings, WereGiven, Learns}
use Rattle.mb_learned.proofs.Beginnings.{claim_issued}
use Rattle.mb_learned.proofs.GivenBatches.{held_fits, held_hashed}
use Rattle.mb_learned.proofs.Voted.{proved_committed}

-- ---- marks

abbrev placed : Request → Bool → Placed
placed request fresh = record { request = request; fresh = fresh }

abbrev slot_of : ℕ → List Placed → Slot
slot_of pos requests = record { pos = pos; requests = requests }

-- Requests that are marked from one state on are marked alike.
pub same_placed : {S : Type 0} (m : Machine S) (x : Served S) (pos : ℕ) (a b : List Placed) → map (λ (p : Placed). p.request) a ≡ map (λ (p : Placed). p.request) b
    → ((i : ℕ) (p : Placed) → slice_get a i ≡ Some p → p.fresh ≡ is_fresh (served_each m x pos (take i a)) p.request) → ((i : ℕ) (p : Placed) → slice_get b i ≡ Some p → p.fresh ≡ is_fresh (served_each m x pos (take i b)) p.request) → a ≡ b
unfolding served_each
same_placed m x pos [] [] e f g = refl
same_placed m x pos [] (q ∷ b) e f g = absurd cc
same_placed m x pos (p ∷ a) [] e f g = absurd cc
same_placed m x pos (p ∷ a) (q ∷ b) e f g =
    let request : p.request ≡ q.request = cc in
    let others : map (λ (p : Placed). p.request) a ≡ map (λ (p : Placed). p.request) b = cc in
    let fresh : p.fresh ≡ q.fresh = f 0 p refl ∙ (ap (is_fresh x) request ∙ sym (g 0 q refl)) in
    let rest : a ≡ b = same_placed m (served m x pos p.request) pos a b others (λ i y at. f (suc i) y at)
    (λ i y at. g (suc i) y at ∙ ap (λ (r : Request). is_fresh (served_each m (served m x pos r) pos (take i b)) y.request) (sym request)) in
    joined p q a b request fresh rest where
      joined : (p q : Placed) (a b : List Placed) → p.request ≡ q.request → p.fresh ≡ q.fresh → a ≡ b → p ∷ a ≡ q ∷ b
      joined p q a b e f g = ap (λ (r : Request). placed r p.fresh ∷ a) e ∙ (ap (λ (z : Bool). placed q.request z ∷ a) f ∙ ap (λ (l : List Placed). q ∷ l) g)

-- the place of a slot in a list of places
place_at : (slots : List Slot) (a q : ℕ) (slot : Slot) → map (λ (x : Slot). x.pos) slots ≡ range_with_len a (length slots) → slice_get slots q ≡ Some slot → slot.pos ≡ a + q
place_at [] a q slot e at = absurd (none-some slot at)
place_at (x ∷ l) a zero slot e at =
    let is : x ≡ slot = same_Some x slot at in
    let first : x.pos ≡ a = cc in
    let none : a ≡ a + 0 = omega arith in
    ap (λ (y : Slot). y.pos) (sym is) ∙ (first ∙ none)
place_at (x ∷ l) a (suc q) slot e at =
    let others : map (λ (y : Slot). y.pos) l ≡ range_with_len (a + 1) (length l) = cc in
    let next : (a + 1) + q ≡ a + suc q = omega arith in
    place_at l (a + 1) q slot others at ∙ next

-- it is that of a CHECKPOINT
checkpoint_is : (pos : ℕ) (state : Bytes) (b : Bare) → is_checkpoint pos state b ≡ true → (body : Bytes) × (b ≡ bare.Checkpoint pos state body)
checkpoint_is pos state (bare.Checkpoint p d body) e =
    let a = and_parts (p == pos) (same_bytes d state) e in
    (body, ap (λ (n : ℕ). bare.Checkpoint n d body) (eqb-true p pos a.0) ∙ ap (λ (x : Bytes). bare.Checkpoint pos x body) (same_bytes-true d state a.1))
checkpoint_is pos state (bare.Prepare v p d) e = absurd cc
checkpoint_is pos state (bare.Commit v p n c d) e = absurd cc
checkpoint_is pos state (bare.ViewChange v d) e = absurd cc
checkpoint_is pos state (bare.NewView v b x q d) e = absurd cc
checkpoint_is pos state (bare.Enter v c q) e = absurd cc
checkpoint_is pos state (bare.Open x d) e = absurd cc
checkpoint_is pos state (bare.Join v x c) e = absurd cc

module _ {S : Type 0} (system : System S) (w : World) (f : Facts system w) (jumps : (h : ℕ) → IsCorrect system.schedule h → Each (JumpsLed system w f) (w.histories h))
    (asked_fits : (r : Request) → In w.asked r → FitsRequest system.schedule.shape r) (service : IsService system.machine system.snapshots system.initial) (line : LineStands system w)
    (whole : (h : ℕ) → IsWholeAll (w.histories h)) (safe : IsSafe system w) (facts : IsConsistent system.schedule w) (id : ℕ) (apart : HashesApart (strings system w id))
    (taken : List Bytes) (were : WereGiven system w id taken) where
  abbrev after : ℕ → Served S
  after n = after_line system w n

  module _ (slots : List Slot) (learns : Learns system w id taken slots) where
    -- ---- one batch

    one_batch : (q : ℕ) (x y : Slot) → slice_get slots q ≡ Some x → slice_get w.line q ≡ Some y → batch_of x ≡ batch_of y
    one_batch q x y at there =
        let o : IsOnLine system w f jumps asked_fits service line whole q y = on_line system w f jumps asked_fits service line whole q y there in
        let proved = learns.proved q x at in
        let a = proved_committed system w f facts id apart taken were (q + 1) (batch_of x) proved in
        let e = executed_committed system w f jumps facts o.host o.correct y o.before o.past in
        let moved : IsCommitted (plans system.schedule w) system.schedule.shape (prefix system.schedule w) e.view (q + 1) (record { counter = e.counter; request = batch_digest (batch_of y) }) =
        subst (λ (n : ℕ). IsCommitted (plans system.schedule w) system.schedule.shape (prefix system.schedule w) e.view n (record { counter = e.counter; request = batch_digest (batch_of y) })) o.place e.committed in
        let digest : batch_digest (batch_of x) ≡ batch_digest (batch_of y) =
        (agrees system.schedule.shape system.schedule.secret (plans system.schedule w) (issued system.schedule w) (prefix system.schedule w) facts).one_batch a.view e.view (q + 1) _ _ a.committed moved in
        let held = proved.2.held in
        let s = executed_batch system w f jumps asked_fits o.host y o.before o.correct o.past in
        batch_injective system.schedule.shape f.shape (batch_of x) (batch_of y) (held_fits system w f id taken were (batch_of x) held) s.fits
        (f.apart (batch_bytes (batch_of x)) (batch_bytes (batch_of y)) (contained w.hashed (batch_bytes (batch_of x)) (held_hashed system w f id taken were (batch_of x) held)) (contained w.hashed (batch_bytes (batch_of y)) s.hashed) digest)

    -- ---- one list

    same_slot : (q : ℕ) (x y : Slot) → take q slots ≡ take q w.line → slice_get slots q ≡ Some x → slice_get w.line q ≡ Some y → x ≡ y
    same_slot q x y before at there =
        let l = safe.line q y there in
        let place : x.pos ≡ y.pos = place_at slots 1 q x learns.places at ∙ (turned q ∙ sym l.place) in
        let state : behind system.schedule.shape system.machine system.initial (take q slots) ≡ after q = ap (served_all system.machine (start system.machine system.initial (client_count system.schedule.shape))) before in
        let requests : x.requests ≡ y.requests =
        same_placed system.machine (after q) y.pos x.requests y.requests (ap (λ (b : Batch). b.requests) (one_batch q x y at there))
        (λ i p here. learns.marks q i x p at here ∙ (ap (λ (z : Served S). is_fresh (served_each system.machine z x.pos (take i x.requests)) p.request) state ∙ ap (λ (n : ℕ). is_fresh (served_each system.machine (after q) n (take i x.requests)) p.request) place))
        (λ i p here. (l.requests i p here).fresh) in
        both x y place requests where
          turned : (q : ℕ) → 1 + q ≡ q + 1
          turned q = omega arith

          both : (x y : Slot) → x.pos ≡ y.pos → x.requests ≡ y.requests → x ≡ y
          both x y e g = ap (λ (n : ℕ). slot_of n x.requests) e ∙ ap (λ (l : List Placed). slot_of y.pos l) g

    pub same_slots : (n : ℕ) → n ≤ length slots → n ≤ length w.line → take n slots ≡ take n w.line
    same_slots zero le ge = refl
    same_slots (suc n) le ge =
        let before = same_slots n (omega (arith, le)) (omega (arith, ge)) in
        let x = get_there slots n (omega (arith, le)) in
        let y = get_there w.line n (omega (arith, ge)) in
        let one : suc n ≡ n + 1 = omega arith in
        ap (λ (k : ℕ). take k slots) one ∙ (take_next slots n x.0 x.1 ∙ (ap (λ (l : List Slot). l ++ x.0 ∷ []) before
        ∙ (ap (λ (z : Slot). take n w.line ++ z ∷ []) (same_slot n x.0 y.0 before x.1 y.1) ∙ (sym (take_next w.line n y.0 y.1) ∙ sym (ap (λ (k : ℕ). take k w.line) one)))))

    pub one_history : BeginsWith w.line slots ⊎ BeginsWith slots w.line
    one_history = by (cases_lt (length w.line) (length slots)) where
      by : (length w.line < length slots) ⊎ (length slots ≤ length w.line) → BeginsWith w.line slots ⊎ BeginsWith slots w.line
      by (inr le) = inl (record {
        rest = drop (length slots) w.line;
        is = ap (λ (l : List Slot). l ++ drop (length slots) w.line) (sym (take_all (length slots) slots (omega arith)) ∙ same_slots (length slots) (omega arith) le) ∙ take-append-drop (length slots) w.line;
      })
      by (inl lt) = inr (record {
        rest = drop (length w.line) slots;
        is = ap (λ (l : List Slot). l ++ drop (length w.line) slots) (sym (take_all (length w.line) w.line (omega arith)) ∙ sym (same_slots (length w.line) (omega (arith, lt)) (omega arith))) ∙ take-append-drop (length w.line) slots;
      })

    -- ---- states

    -- the digest that a correct host says
    once_state : (pos : ℕ) (state : Bytes) → IsOnceAt system w f jumps pos state → (pos ≤ length w.line) × (state_digest (parts_of system.snapshots (after pos)) pos ≡ state)
    unfolding exec_of
    once_state pos state o =
        let there : state_of (self_of system o.host) (Executed o.slot ∷ o.before) ≡ after o.slot.pos =
        between system w f jumps asked_fits service line whole o.host (Executed o.slot ∷ o.before) tt (along system w f jumps asked_fits service line whole o.host (Executed o.slot ∷ o.before) o.correct o.past) in
        let reached = within system w f jumps asked_fits service line whole o.host (Executed o.slot ∷ o.before) o.correct o.past in
        let place = o.place in
        (omega (arith, reached, place), ap (λ (x : Served S). state_digest (parts_of system.snapshots x) pos) (sym (there ∙ ap after place)) ∙ o.digest)

    pub same_states : (pos : ℕ) (state : Bytes) → DiffersAt system.schedule.shape system.machine system.initial system.snapshots system.schedule.secret taken slots pos state → ⊥
    same_states pos state d =
        let one = quorum_has_correct system.schedule.shape (says_state system.schedule.secret (claims_among system.schedule.shape taken) pos state) (is_faulty system.schedule) d.said f.few in
        let c = any_in (λ (x : Claim). x.host == one.0 && (is_checkpoint pos state x.says && verifies system.schedule.secret x)) (claims_among system.schedule.shape taken) one.2 in
        let a = and_parts (c.0.host == one.0) _ c.2 in
        let b = and_parts (is_checkpoint pos state c.0.says) (verifies system.schedule.secret c.0) a.1 in
        let host : c.0.host ≡ one.0 = eqb-true c.0.host one.0 a.0 in
        let says = checkpoint_is pos state c.0.says b.0 in
        let correct : IsCorrect system.schedule c.0.host = subst (λ (h : ℕ). IsCorrect system.schedule h) (sym host) (one.1, not_true (is_faulty system.schedule one.0) one.3) in
        let stamped : IsStamped (w.histories c.0.host) c.0.counter c.0.says = issued_stamped system w f c.0 correct (claim_issued system w f facts id taken were c.0 c.1 b.1) in
        let once = checkpoint_once system w f jumps c.0.host c.0.counter pos state says.0 correct (subst (λ (x : Bare). IsStamped (w.histories c.0.host) c.0.counter x) says.1 stamped) in
        let known = once_state pos state once in
        let behind_is : digest_behind system.schedule.shape system.machine system.initial system.snapshots slots pos ≡ state =
        ap (λ (l : List Slot). state_digest (parts_of system.snapshots (served_all system.machine (start system.machine system.initial (client_count system.schedule.shape)) l)) pos) (same_slots pos d.executed known.0) ∙ known.1 in
        true_false (sym (true-same_bytes state (digest_behind system.schedule.shape system.machine system.initial system.snapshots slots pos) (sym behind_is)) ∙ d.other) where
          not_true : (x : Bool) → not x ≡ true → x ≡ false
          not_true true e = absurd cc
          not_true false e = refl
