-- Correct hosts execute beginnings of the line, in a world where the line stands.
use Rattle.std.proofs.Common.{◌≡◌, ℕ, ◌+◌, ◌<◌, true, List, [], ◌∷◌, sym, ap, subst, ◌∙◌, arith, Some}
use Rattle.std.specs.Prelude.{slice_get, take, Contains}
use Rattle.std.proofs.lemmas.List.{length-map, length-replicate}
use Rattle.mb_base.specs.Shapes.{client_count}
use Rattle.mb_parts.specs.declared.request.Request.{Request}
use Rattle.mb_parts.specs.Fits.{FitsRequest}
use Rattle.mb_msg.specs.declared.event.Placed.{Placed}
use Rattle.mb_msg.specs.declared.event.Slot.{Slot}
use Rattle.mb_model.specs.declared.known.LastReply.{LastReply}
use Rattle.mb_model.specs.Service.{Served, no_reply, is_fresh, start, served_each, batch_of}
use Rattle.mb_model.specs.Histories.{Executed, History}
use Rattle.mb_model.specs.Histories as entry
use Rattle.mb_model.specs.Positions.{exec_of}
use Rattle.mb_model.specs.CarriedOut.{just_served}
use Rattle.mb_model.specs.Members.{In}
use Rattle.mb_model.proofs.Members.{in_contained, contained, in_map, all_in}
use Rattle.mb_steps.specs.Arises.{Serves}
use Rattle.mb_promise.specs.Headline.{IsService}
use Rattle.mb_world_model.specs.WorldEvents.{IsCorrect}
use Rattle.mb_world_model.specs.World.{World, System, self_of}
use Rattle.mb_promise.specs.Safety.{after_line, after_requests, IsLineRequest, IsLineSlot, IsAt, IsBefore, IsSafe}
use Rattle.mb_host_laws.specs.Rests.{Each}
use Rattle.mb_world_laws.proofs.Facts.{Facts}
use Rattle.mb_host_laws.proofs.Moments.{IsPast, past_tail}
use Rattle.mb_views.proofs.Follows.{JumpsLed}
use Rattle.mb_one_log.proofs.StepDone.{past_whole}
use Rattle.mb_one_log.proofs.WholeBatches.{IsWholeAll}
use Rattle.mb_model.proofs.Lists.{in_at}
use Rattle.mb_host_laws.proofs.Marked.{AreMarked, marked_push, marked_same, marked_at}
use Rattle.mb_host_laws.proofs.Rising.{fresh_rises}
use Rattle.mb_one_log.proofs.Marks.{requests_of}
use Rattle.mb_one_log.proofs.OneExecuted.{IsSound, executed_batch}
use Rattle.mb_one_log.proofs.Executions.{in_past, past_in}
use Rattle.mb_one_log.proofs.Line.{LineStands}
use Rattle.mb_one_log.proofs.Along.{past_arises, execution, requests_served, IsOnLine, on_line, matched, IsAlong, between, along}

slot_same : (x y : Slot) → x.pos ≡ y.pos → x.requests ≡ y.requests → x ≡ y
slot_same x y a b = parts x.pos y.pos x.requests y.requests a b where
  parts : (p q : ℕ) (x y : List Placed) → p ≡ q → x ≡ y → (let l : Slot = record { pos = p; requests = x } in let r : Slot = record { pos = q; requests = y } in l ≡ r)
  parts p q x y e g = cc

module _ {S : Type 0} (system : System S) (w : World) (f : Facts system w) (jumps : (h : ℕ) → IsCorrect system.schedule h → Each (JumpsLed system w f) (w.histories h))
    (asked_fits : (r : Request) → In w.asked r → FitsRequest system.schedule.shape r) (service : IsService system.machine system.snapshots system.initial) (line : LineStands system w)
    (whole : (h : ℕ) → IsWholeAll (w.histories h)) where
  abbrev OnLine : ℕ → Slot → Type 0
  OnLine q slot = IsOnLine system w f jumps asked_fits service line whole q slot

  -- ---- marks

  abbrev Marked : ℕ → List Placed → Type 0
  Marked q ps = AreMarked system.machine (after_line system w q) (q + 1) ps

  state_along : (h : ℕ) (d : History) → IsCorrect system.schedule h → IsPast d (w.histories h) → IsAlong system w f jumps asked_fits service line whole h d
  state_along h d c p = along system w f jumps asked_fits service line whole h d c p

  -- what was just served
  served_marked : (h : ℕ) (d : History) → IsCorrect system.schedule h → IsPast d (w.histories h) → Marked (exec_of d) (just_served d)
  unfolding just_served exec_of
  served_marked h (entry.Served pos placed ∷ d) c p =
      let before : IsPast d (w.histories h) = past_tail (entry.Served pos placed) d (w.histories h) p in
      let a : Serves (self_of system h) d pos placed = (past_arises system w f jumps asked_fits service line whole h (entry.Served pos placed ∷ d) p).0 in
      marked_push system.machine (after_line system w (exec_of d)) (exec_of d + 1) (just_served d) placed (served_marked h d c before)
      (a.fresh ∙ ap (λ (x : Served S). is_fresh x placed.request) (state_along h d c before))
  served_marked h [] c p = tt
  served_marked h (e ∷ d) c p = tt

  -- an executed batch
  marked : (h : ℕ) (slot : Slot) (d : History) → IsCorrect system.schedule h → IsPast (Executed slot ∷ d) (w.histories h) → Marked (exec_of d) slot.requests
  marked h slot d c p = subst (Marked (exec_of d)) (sym (requests_served system w f jumps asked_fits service line whole h slot d p))
      (served_marked h d c (past_tail (Executed slot) d (w.histories h) p))

  line_marked : (q : ℕ) (slot : Slot) → OnLine q slot → Marked q slot.requests
  line_marked q slot o = subst (λ (n : ℕ). Marked n slot.requests) o.last (marked o.host slot o.before o.correct o.past)

  line_mark : (q : ℕ) (slot : Slot) → OnLine q slot → (i : ℕ) (p : Placed) → slice_get slot.requests i ≡ Some p → p.fresh ≡ is_fresh (after_requests system w q slot i) p.request
  line_mark q slot o i p at = marked_at system.machine (after_line system w q) (q + 1) slot.requests i p (line_marked q slot o) at
      ∙ ap (λ (n : ℕ). is_fresh (served_each system.machine (after_line system w q) n (take i slot.requests)) p.request) (sym o.place)

  -- ---- slots

  sound : (q : ℕ) (slot : Slot) → OnLine q slot → IsSound system w f jumps asked_fits (batch_of slot)
  sound q slot o = executed_batch system w f jumps asked_fits o.host slot o.before o.correct o.past

  request_there : (ps : List Placed) (i : ℕ) (p : Placed) → slice_get ps i ≡ Some p → In (requests_of ps) p.request
  request_there ps i p at = in_map (λ (x : Placed). x.request) ps p (in_at ps i p at)

  slots : (h : ℕ) (slot : Slot) → IsCorrect system.schedule h → Contains (w.histories h) (Executed slot) → (q : ℕ) × (slot.pos ≡ q + 1) × (slice_get w.line q ≡ Some slot)
  slots h slot c there =
      let p = in_past (w.histories h) (Executed slot) (in_contained (w.histories h) (Executed slot) there) in
      let d : History = p.0 in
      let m = matched system w f jumps asked_fits service line whole h slot d c p.1 in
      let e = (execution system w f jumps asked_fits service line whole h slot d p.1).place in
      let requests : m.found.requests ≡ slot.requests =
      marked_same system.machine (after_line system w (exec_of d)) (exec_of d + 1) m.found.requests slot.requests m.requests (line_marked (exec_of d) m.found m.on) (marked h slot d c p.1) in
      (exec_of d, e, m.there ∙ ap Some (slot_same m.found slot (m.on.place ∙ sym e) requests))

  line_request : (q : ℕ) (slot : Slot) → OnLine q slot → (i : ℕ) (p : Placed) → slice_get slot.requests i ≡ Some p → IsLineRequest system w q slot i p
  line_request q slot o i p at =
      let s = sound q slot o in
      let there = request_there slot.requests i p at in
      record {
        fresh = line_mark q slot o i p at;
        client = (all_in (FitsRequest system.schedule.shape) (requests_of slot.requests) p.request s.fits.requests there).client;
        tag = (s.requests p.request there).tag;
        asked = (s.requests p.request there).asked;
      }

  line_slot : (q : ℕ) (slot : Slot) → slice_get w.line q ≡ Some slot → IsLineSlot system w q slot
  line_slot q slot at =
      let o = on_line system w f jumps asked_fits service line whole q slot at in
      let count = (sound q slot o).fits.count in
      let many = length-map slot.requests (λ (x : Placed). x.request) in
      record {
        place = o.place;
        count = (omega (arith, count.0, many), omega (arith, count.1, many));
        requests = line_request q slot o;
        by = (o.host, o.correct, contained (w.histories o.host) (Executed slot) (past_in (w.histories o.host) (Executed slot) o.before o.past));
      }

  rising : (q i r j : ℕ) (x y : Placed) → IsBefore system w q i r j → IsAt system w q i x → IsAt system w r j y → x.fresh ≡ true → y.fresh ≡ true → x.request.client ≡ y.request.client → x.request.seq < y.request.seq
  rising q i r j x y lt at there fresh fresh' same =
      let clients : ℕ = client_count system.schedule.shape in
      let first = (line_slot q at.slot at.in_line).requests i x at.in_slot in
      let second = (line_slot r there.slot there.in_line).requests j y there.in_slot in
      let client = first.client in
      fresh_rises system.machine (start system.machine system.initial clients) w.line q r at.slot there.slot i j x y lt at.in_line there.in_line at.in_slot
      (omega (arith, client, length-replicate {A = LastReply} clients no_reply)) (sym first.fresh ∙ fresh) (sym second.fresh ∙ fresh') same

  pub safe_static : IsSafe system w
  safe_static = record {
    prefix = λ h c. line.short h c;
    state = λ h c. between system w f jumps asked_fits service line whole h (w.histories h) (whole h).1 (state_along h (w.histories h) c (past_whole (w.histories h)));
    slots = slots;
    line = line_slot;
    rising = rising;
  }
