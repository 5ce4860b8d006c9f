-- Each correct host has at each moment the state of the service after a beginning of the line, and after the requests that it has just served of the next
-- batch.
--
-- By induction on the position. An execution is of the batch that the line has there, since two correct hosts execute one batch at one position. An
-- installed state is one that a correct host had behind an execution at its position, so behind one that was executed one position lower.
use Rattle.std.proofs.Common.{◌≡◌, ℕ, zero, suc, ◌+◌, ◌≤◌, ◌<◌, ◌^◌, ◌&&◌, ◌⊎◌, List, [], ◌∷◌, ◌++◌, length, refl, sym, ap, subst, ◌∙◌, inl, inr, arith, Some, Ok}
use Rattle.std.specs.Prelude.{slice_get, take, nat_lt, nat_le}
use Rattle.std.specs.List.{AllByRecursion}
use Rattle.std.proofs.lemmas.Bool.{and_parts, leb-true}
use Rattle.mb_base.specs.Shapes.{Bytes, client_count, span}
use Rattle.mb_parts.specs.declared.request.Request.{Request}
use Rattle.mb_parts.specs.declared.batch.Batch.{Batch}
use Rattle.mb_msg.specs.declared.event.Placed.{Placed}
use Rattle.mb_msg.specs.declared.event.Slot.{Slot}
use Rattle.mb_model.specs.Service.{Served, start, served, served_each, served_all}
use Rattle.mb_model.specs.States.{restored, parts_of}
use Rattle.mb_model.specs.Histories.{Accepted, Stamped, Jumped, Closed, Executed, Installed, DroppedParts, LostPatience, Nudged, History, Identity, view_of}
use Rattle.mb_model.specs.Histories as entry
use Rattle.mb_model.specs.Stable.{low_of}
use Rattle.mb_model.specs.Positions.{exec_of, in_window, slot_in, position_limit}
use Rattle.mb_model.specs.Execution.{state_of, state_from, if_restored}
use Rattle.mb_parts.specs.Fits.{FitsRequest}
use Rattle.mb_model.specs.Members.{In}
use Rattle.mb_model.proofs.Options.{if_some}
use Rattle.mb_model.specs.CarriedOut.{just_served}
use Rattle.mb_model.proofs.ServiceLaws.{each_push, served_push}
use Rattle.mb_steps.specs.Arises.{Serves, Arises, IsWhole}
use Rattle.mb_steps.proofs.StepArises.{none_served}
use Rattle.mb_promise.specs.Headline.{IsService}
use Rattle.mb_world_model.specs.WorldEvents.{IsCorrect}
use Rattle.mb_world_model.specs.World.{World, System, self_of}
use Rattle.mb_promise.specs.Safety.{after_line}
use Rattle.mb_model.proofs.Lists.{get_there, take_next}
use Rattle.mb_host_laws.specs.Rests.{Each}
use Rattle.mb_world_laws.proofs.Facts.{Facts}
use Rattle.mb_views.proofs.Follows.{JumpsLed}
use Rattle.mb_host_laws.proofs.Moments.{IsPast, past_tail}
use Rattle.mb_one_log.proofs.OneExecuted.{executed_batch, one_executed}
use Rattle.mb_host_laws.proofs.Executing.{IsExecution}
use Rattle.mb_one_log.proofs.Executions.{executed_so, past_adds, in_past, exec_rises}
use Rattle.mb_one_log.proofs.WholeBatches.{IsUnbroken, IsWholeAll, unbroken_back, IsClosed, closes}
use Rattle.mb_one_log.proofs.Marks.{requests_of, each_same}
use Rattle.mb_one_log.proofs.Line.{LineStands}
use Rattle.mb_one_log.proofs.InstalledState.{IsStateOf, installed_state}
use Rattle.mb_one_log.proofs.ServedFits.{FitsServed, start_fits, each_fits, parts_back}

module _ {S : Type 0} (system : System S) (w : World) (f : Facts system w) (jumps : (h : ℕ) → IsCorrect system.schedule h → Each (JumpsLed system w f) (w.histories h))
    (asked_fits : (r : Request) → In w.asked r → FitsRequest system.schedule.shape r) (service : IsService system.machine system.snapshots system.initial) (line : LineStands system w)
    (whole : (h : ℕ) → IsWholeAll (w.histories h)) where
  abbrev clients : ℕ
  clients = client_count system.schedule.shape

  abbrev after : ℕ → Served S
  after n = after_line system w n

  -- ---- an execution

  pub past_arises : (h : ℕ) (d : History) → IsPast d (w.histories h) → Arises (self_of system h) d
  past_arises h d p = past_adds (self_of system h) p.later d (subst (λ (y : History). Arises (self_of system h) y) (sym p.is) (f.arises h))

  pub past_unbroken : (h : ℕ) (d : History) → IsPast d (w.histories h) → IsUnbroken d
  past_unbroken h d p = unbroken_back p.later d (subst IsUnbroken (sym p.is) (whole h).0)

  pub execution : (h : ℕ) (slot : Slot) (d : History) → IsPast (Executed slot ∷ d) (w.histories h) → IsExecution (self_of system h) d slot
  execution h slot d p = executed_so (self_of system h) d (w.histories h) slot (f.arises h) p

  -- its requests were those that were just served
  pub requests_served : (h : ℕ) (slot : Slot) (d : History) → IsPast (Executed slot ∷ d) (w.histories h) → slot.requests ≡ just_served d
  requests_served h slot d p = (past_arises h (Executed slot ∷ d) p).0.served

  pub within : (h : ℕ) (d : History) → IsCorrect system.schedule h → IsPast d (w.histories h) → exec_of d ≤ length w.line
  within h d c p =
      let r = exec_rises (self_of system h) p.later d (subst (λ (y : History). Arises (self_of system h) y) (sym p.is) (f.arises h)) in
      let s = line.short h c in
      let e : exec_of (p.later ++ d) ≡ exec_of (w.histories h) = ap exec_of p.is in
      omega (arith, r, s, e)

  executed_position : (h : ℕ) (slot : Slot) (d : History) → IsPast (Executed slot ∷ d) (w.histories h) → slot.pos < 2 ^ 63
  executed_position h slot d p =
      let x = execution h slot d p in
      let self : Identity S = self_of system h in
      let t = if_some (in_window self d slot.pos) (slot_in self d (view_of self d) slot.pos) x.known x.there in
      let a = and_parts (nat_lt (low_of self d) slot.pos) (nat_le slot.pos (low_of self d + span self.shape) && nat_le slot.pos position_limit) t.0 in
      let b = and_parts (nat_le slot.pos (low_of self d + span self.shape)) (nat_le slot.pos position_limit) a.1 in
      let c = leb-true slot.pos position_limit b.1 in
      omega (arith, c)

  -- Where the line has a slot, a correct host executed it there.
  pub record IsOnLine (q : ℕ) (slot : Slot) : Type 0 where
    pub host : ℕ
    pub correct : IsCorrect system.schedule host
    pub before : History
    pub past : IsPast (Executed slot ∷ before) (w.histories host)
    pub place : slot.pos ≡ q + 1
    pub last : exec_of before ≡ q

  pub on_line : (q : ℕ) (slot : Slot) → slice_get w.line q ≡ Some slot → IsOnLine q slot
  on_line q slot at =
      let x = line.run q slot at in
      let p = in_past (w.histories x.1.host) (Executed slot) x.1.there in
      let e = (execution x.1.host slot p.0 p.1).place in
      record { host = x.1.host; correct = x.1.correct; before = p.0; past = p.1; place = x.0; last = omega (arith, e, x.0) }

  -- The line has the place of an execution, with its batch.
  pub record IsMatched (slot : Slot) (q : ℕ) : Type 0 where
    pub found : Slot
    pub there : slice_get w.line q ≡ Some found
    pub on : IsOnLine q found
    pub requests : requests_of found.requests ≡ requests_of slot.requests

  pub matched : (h : ℕ) (slot : Slot) (d : History) → IsCorrect system.schedule h → IsPast (Executed slot ∷ d) (w.histories h) → IsMatched slot (exec_of d)
  unfolding exec_of
  matched h slot d c p =
      let e = (execution h slot d p).place in
      let s = within h (Executed slot ∷ d) c p in
      let t = get_there w.line (exec_of d) (omega (arith, e, s)) in
      let o = on_line (exec_of d) t.0 t.1 in
      let place : t.0.pos ≡ slot.pos = o.place ∙ sym e in
      record { found = t.0; there = t.1; on = o; requests = ap (λ (b : Batch). b.requests) (one_executed system w f jumps asked_fits o.host h t.0 slot o.before d o.correct c o.past p place) }

  -- ---- the states of the line

  pub next : (q : ℕ) (slot : Slot) → slice_get w.line q ≡ Some slot → after (q + 1) ≡ served_each system.machine (after q) slot.pos slot.requests
  next q slot at = ap (served_all system.machine (start system.machine system.initial clients)) (take_next w.line q slot at) ∙ served_push system.machine (start system.machine system.initial clients) (take q w.line) slot

  -- Each gives itself back by its parts.
  pub line_fits : (q : ℕ) → q ≤ length w.line → FitsServed system.machine system.initial clients (after q)
  unfolding served_all
  line_fits zero le = start_fits system.machine system.snapshots system.initial service clients
  line_fits (suc q) le =
      let t = get_there w.line q (omega (arith, le)) in
      let o = on_line q t.0 t.1 in
      let before = line_fits q (omega (arith, le)) in
      let fits = (executed_batch system w f jumps asked_fits o.host t.0 o.before o.correct o.past).fits.requests in
      let place = o.place in
      let one : suc q ≡ q + 1 = omega arith in
      subst (λ (n : ℕ). FitsServed system.machine system.initial clients (after n)) (sym one)
      (subst (FitsServed system.machine system.initial clients) (sym (next q t.0 t.1))
      (each_fits system.machine system.snapshots system.initial service clients system.schedule.shape (after q) t.0.pos t.0.requests (omega (arith, place)) (executed_position o.host t.0 o.before o.past) fits before))

  -- ---- the states of hosts

  abbrev pub IsAlong : ℕ → History → Type 0
  IsAlong h d = state_of (self_of system h) d ≡ served_each system.machine (after (exec_of d)) (exec_of d + 1) (just_served d)

  -- where no batch is partly served
  pub between : (h : ℕ) (d : History) → IsWhole d → IsAlong h d → state_of (self_of system h) d ≡ after (exec_of d)
  unfolding served_each
  between h d none along = along ∙ ap (served_each system.machine (after (exec_of d)) (exec_of d + 1)) (none_served d none)

  serves : (h pos : ℕ) (placed : Placed) (d : History) → IsPast (entry.Served pos placed ∷ d) (w.histories h) → IsAlong h d → IsAlong h (entry.Served pos placed ∷ d)
  unfolding state_of exec_of just_served
  serves h pos placed d p before =
      let a : Serves (self_of system h) d pos placed = (past_arises h (entry.Served pos placed ∷ d) p).0 in
      ap (λ (x : Served S). served system.machine x pos placed.request) before
      ∙ ap (λ (n : ℕ). served system.machine (served_each system.machine (after (exec_of d)) (exec_of d + 1) (just_served d)) n placed.request) a.place
      ∙ sym (each_push system.machine (after (exec_of d)) (exec_of d + 1) (just_served d) placed)

  -- the line behind an execution
  executes_to : (h : ℕ) (slot : Slot) (d : History) → IsCorrect system.schedule h → IsPast (Executed slot ∷ d) (w.histories h) → after slot.pos ≡ served_each system.machine (after (exec_of d)) (exec_of d + 1) slot.requests
  executes_to h slot d c p =
      let m = matched h slot d c p in
      let e = (execution h slot d p).place in
      ap after e ∙ next (exec_of d) m.found m.there
      ∙ ap (λ (n : ℕ). served_each system.machine (after (exec_of d)) n m.found.requests) m.on.place
      ∙ each_same system.machine (after (exec_of d)) (exec_of d + 1) m.found.requests slot.requests m.requests

  executes : (h : ℕ) (slot : Slot) (d : History) → IsCorrect system.schedule h → IsPast (Executed slot ∷ d) (w.histories h) → IsAlong h d → IsAlong h (Executed slot ∷ d)
  unfolding state_of exec_of just_served served_each
  executes h slot d c p before =
      before ∙ ap (served_each system.machine (after (exec_of d)) (exec_of d + 1)) (sym (requests_served h slot d p)) ∙ sym (executes_to h slot d c p)

  abbrev Below : ℕ → Type 0
  Below n = (h : ℕ) (d : History) → IsCorrect system.schedule h → IsPast d (w.histories h) → exec_of d < n → IsAlong h d

  installs : (n : ℕ) → Below n → (h pos : ℕ) (parts : List Bytes) (d : History) → IsCorrect system.schedule h → IsPast (Installed pos parts ∷ d) (w.histories h) → pos ≤ n → IsAlong h (Installed pos parts ∷ d)
  unfolding state_of exec_of just_served served_each
  installs n below h pos parts d c p le =
      let x : IsStateOf system w f jumps pos parts = installed_state system w f jumps h pos parts d c p in
      let e = (execution x.host x.slot x.before x.past).place in
      let place = x.place in
      let before : IsAlong x.host x.before = below x.host x.before x.correct (past_tail (Executed x.slot) x.before (w.histories x.host) x.past) (omega (arith, e, place, le)) in
      let there : state_of (self_of system x.host) (Executed x.slot ∷ x.before) ≡ after pos = executes x.host x.slot x.before x.correct x.past before ∙ ap after place in
      let parts_are : parts ≡ parts_of system.snapshots (after pos) = x.parts_are ∙ ap (parts_of system.snapshots) there in
      let short : pos ≤ length w.line = let s = within x.host (Executed x.slot ∷ x.before) x.correct x.past in omega (arith, s, place) in
      let back : restored system.snapshots clients (parts_of system.snapshots (after pos)) ≡ Ok (after pos) = parts_back system.machine system.snapshots system.initial service clients (after pos) (line_fits pos short) in
      let read : state_from (self_of system h) parts ≡ Ok (after pos) = ap (restored system.snapshots clients) parts_are ∙ back in
      ap (if_restored (self_of system h) (state_of (self_of system h) d)) read

  -- all moments whose position is no greater
  up_to : (n : ℕ) → Below n → (h : ℕ) (d : History) → IsCorrect system.schedule h → IsPast d (w.histories h) → exec_of d ≤ n → IsAlong h d
  unfolding state_of exec_of just_served served_all served_each
  up_to n below h [] c p le = refl
  up_to n below h (Executed slot ∷ d) c p le =
      let e = (execution h slot d p).place in
      executes h slot d c p (up_to n below h d c (past_tail (Executed slot) d (w.histories h) p) (omega (arith, e, le)))
  up_to n below h (Installed pos parts ∷ d) c p le = installs n below h pos parts d c p le
  up_to n below h (entry.Served pos placed ∷ d) c p le = serves h pos placed d p (up_to n below h d c (past_tail (entry.Served pos placed) d (w.histories h) p) le)
  up_to n below h (Accepted m ∷ d) c p le = between h d (past_unbroken h (Accepted m ∷ d) p).0 (up_to n below h d c (past_tail (Accepted m) d (w.histories h) p) le)
  up_to n below h (Stamped m ∷ d) c p le = between h d (past_unbroken h (Stamped m ∷ d) p).0 (up_to n below h d c (past_tail (Stamped m) d (w.histories h) p) le)
  up_to n below h (Jumped g o ∷ d) c p le = between h d (past_unbroken h (Jumped g o ∷ d) p).0 (up_to n below h d c (past_tail (Jumped g o) d (w.histories h) p) le)
  up_to n below h (Closed g k ∷ d) c p le = between h d (past_unbroken h (Closed g k ∷ d) p).0 (up_to n below h d c (past_tail (Closed g k) d (w.histories h) p) le)
  up_to n below h (DroppedParts ∷ d) c p le = between h d (past_unbroken h (DroppedParts ∷ d) p).0 (up_to n below h d c (past_tail DroppedParts d (w.histories h) p) le)
  up_to n below h (LostPatience ∷ d) c p le = between h d (past_unbroken h (LostPatience ∷ d) p).0 (up_to n below h d c (past_tail LostPatience d (w.histories h) p) le)
  up_to n below h (Nudged ∷ d) c p le = between h d (past_unbroken h (Nudged ∷ d) p).0 (up_to n below h d c (past_tail Nudged d (w.histories h) p) le)

  below_all : (n : ℕ) → Below n
  below_all zero h d c p lt = absurd (omega (arith, lt))
  below_all (suc n) h d c p lt = up_to n (below_all n) h d c p (omega (arith, lt))

  pub along : (h : ℕ) (d : History) → IsCorrect system.schedule h → IsPast d (w.histories h) → IsAlong h d
  along h d c p = up_to (exec_of d) (below_all (exec_of d)) h d c p (omega arith)

  -- ---- moments within a batch

  -- What is partly served is executed later.
  pub closed_later : (h : ℕ) (d : History) → IsPast d (w.histories h) → (just_served d ≡ []) ⊎ IsClosed (self_of system h) d (w.histories h)
  closed_later h d p = subst (λ (y : History). (just_served d ≡ []) ⊎ IsClosed (self_of system h) d y) p.is
      (closes (self_of system h) p.later d (subst (λ (y : History). Arises (self_of system h) y) (sym p.is) (f.arises h)) (subst IsWholeAll (sym p.is) (whole h)))

  first_fit : (ps rest : List Placed) → AllByRecursion (FitsRequest system.schedule.shape) (requests_of (ps ++ rest)) → AllByRecursion (FitsRequest system.schedule.shape) (requests_of ps)
  first_fit [] rest a = tt
  first_fit (p ∷ ps) rest a = (a.0, first_fit ps rest a.1)

  -- Each state of a correct host gives itself back by its parts.
  pub along_fits : (h : ℕ) (d : History) → IsCorrect system.schedule h → IsPast d (w.histories h) → FitsServed system.machine system.initial clients (state_of (self_of system h) d)
  unfolding served_each
  along_fits h d c p =
      let before = line_fits (exec_of d) (within h d c p) in
      let state = along h d c p in
      elim (closed_later h d p) [
        | inl none ↦ subst (FitsServed system.machine system.initial clients) (sym (state ∙ ap (served_each system.machine (after (exec_of d)) (exec_of d + 1)) none)) before
        | inr k ↦
            let fits = (executed_batch system w f jumps asked_fits h k.slot k.before c k.past).fits.requests in
            let high = executed_position h k.slot k.before k.past in
            let place = (execution h k.slot k.before k.past).place in
            let first = first_fit (just_served d) k.rest (subst (λ (ps : List Placed). AllByRecursion (FitsRequest system.schedule.shape) (requests_of ps)) k.requests fits) in
            let last = k.last in
            subst (FitsServed system.machine system.initial clients) (sym state)
            (each_fits system.machine system.snapshots system.initial service clients system.schedule.shape (after (exec_of d)) (exec_of d + 1) (just_served d) (omega arith) (omega (arith, high, place, last)) first before)
      ]
