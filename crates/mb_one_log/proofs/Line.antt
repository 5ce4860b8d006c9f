-- The line in each world: each of its slots was executed at its place by a correct host, and no correct host is beyond its end.
--
-- A step's entries are walked through, oldest first, and with them the line grows. An execution is at the next position, so the line reaches it. An
-- installed state was executed by a correct host: not by this one, whose positions rise, so by another, before the step, when the line reached it.
use Rattle.std.proofs.Common.{◌≡◌, ℕ, ◌+◌, ◌≤◌, ◌<◌, List, [], ◌∷◌, ◌++◌, length, refl, sym, ap, subst, ◌∙◌, inl, inr, arith, eqb, length-append, Some}
use Rattle.std.specs.Prelude.{slice_get, fold}
use Rattle.std.proofs.lemmas.Bool.{cases_Bool, eqb-true, eqb-false, eq-eqb, ne_eqb}
use Rattle.mb_base.specs.Shapes.{Bytes}
use Rattle.mb_msg.specs.declared.event.Slot.{Slot}
use Rattle.mb_model.specs.Histories.{Entry, Accepted, Stamped, Jumped, Closed, Served, Executed, Installed, DroppedParts, LostPatience, Nudged, History}
use Rattle.mb_model.specs.Positions.{exec_of}
use Rattle.mb_model.specs.HostStep.{transition}
use Rattle.mb_model.specs.Members.{In}
use Rattle.mb_model.proofs.Members.{in_right}
use Rattle.mb_steps.specs.Arises.{Adds, Arises}
use Rattle.mb_world_model.specs.WorldEvents.{IsCorrect}
use Rattle.mb_world_model.specs.World.{World, System, self_of, extended}
use Rattle.mb_model.proofs.Lists.{get_last}
use Rattle.mb_host_laws.proofs.Moments.{IsPast, past_tail}
use Rattle.mb_one_log.proofs.StepDone.{slots_in, IsDone, step_done}
use Rattle.mb_one_log.proofs.Moves.{IsStep, Moves}
use Rattle.mb_one_log.proofs.Executions.{in_parts, exec_high, exec_later}

module _ {S : Type 0} (system : System S) where
  -- A correct host executed this slot.
  pub record IsRun (w : World) (slot : Slot) : Type 0 where
    pub host : ℕ
    pub correct : IsCorrect system.schedule host
    pub there : In (w.histories host) (Executed slot)

  pub record LineStands (w : World) : Type 0 where
    pub run : (q : ℕ) (slot : Slot) → slice_get w.line q ≡ Some slot → (slot.pos ≡ q + 1) × IsRun w slot
    pub short : (h : ℕ) → IsCorrect system.schedule h → exec_of (w.histories h) ≤ length w.line

  -- Correct hosts executed the positions of installed states.
  abbrev pub InstallsRun : World → Type 0
  InstallsRun w = (h pos : ℕ) (parts : List Bytes) (d : History) → IsCorrect system.schedule h → IsPast (Installed pos parts ∷ d) (w.histories h) → (slot : Slot) × (slot.pos ≡ pos) × IsRun w slot

  fold_push : (line : List Slot) (l : List Slot) (slot : Slot) → fold extended line (l ++ slot ∷ []) ≡ extended (fold extended line l) slot
  fold_push line [] slot = refl
  fold_push line (x ∷ l) slot = fold_push (extended line x) l slot

  extended_long : (line : List Slot) (slot : Slot) → length line ≤ length (extended line slot)
  extended_long line slot = elim (cases_Bool (eqb slot.pos (length line + 1))) [
    | inl new ↦ rw new (omega (arith, length-append line (slot ∷ [])))
    | inr old ↦ rw old (omega arith)
  ]

  -- With a slot that is at most one beyond its end the line reaches it.
  extended_reaches : (line : List Slot) (slot : Slot) → slot.pos ≤ length line + 1 → slot.pos ≤ length (extended line slot)
  extended_reaches line slot le = elim (cases_Bool (eqb slot.pos (length line + 1))) [
    | inl new ↦ rw new (omega (arith, le, length-append line (slot ∷ [])))
    | inr old ↦ rw old (let ne = eqb-false slot.pos (length line + 1) old in omega (arith, le, ne))
  ]

  extended_slots : (P : ℕ → Slot → Type 0) (line : List Slot) (slot : Slot) → ((q : ℕ) (x : Slot) → slice_get line q ≡ Some x → P q x) → ((q : ℕ) → slot.pos ≡ q + 1 → P q slot)
      → (q : ℕ) (x : Slot) → slice_get (extended line slot) q ≡ Some x → P q x
  extended_slots P line slot old new q x at = elim (cases_Bool (eqb slot.pos (length line + 1))) [
    | inl there ↦ elim (get_last line slot q x (rw there at at)) [
      | inl before ↦ old q x before
      | inr (place, is) ↦ subst (λ (y : Slot). P q y) is (new q (eqb-true slot.pos (length line + 1) there ∙ ap (λ (n : ℕ). n + 1) (sym place)))
    ]
    | inr kept ↦ old q x (rw kept at at)
  ]

  module _ (w v : World) (arises : (h : ℕ) → Arises (self_of system h) (v.histories h)) (installs : InstallsRun v) (before : LineStands w) (step : IsStep system w v) where
    abbrev h : ℕ
    h = step.host

    abbrev d : History
    d = w.histories h

    done : IsDone (self_of system h) d (transition (self_of system h) d step.seen).left
    done = step_done (self_of system h) d step.seen

    -- the history of the host that made the step, and of the others
    here : done.new ++ d ≡ v.histories h
    here = done.is ∙ sym (step.histories h ∙ rw (eq-eqb h h refl) refl)

    others : (g : ℕ) → (g ≡ h → ⊥) → v.histories g ≡ w.histories g
    others g ne = step.histories g ∙ rw (ne_eqb g h ne) refl

    run_stays : (slot : Slot) → IsRun w slot → IsRun v slot
    run_stays slot x = elim (cases_Bool (eqb x.host h)) [
      | inl same ↦
          let e : x.host ≡ h = eqb-true x.host h same in
          record { host = h; correct = step.correct; there = subst (λ (y : History). In y (Executed slot)) here (in_right done.new d (Executed slot) (subst (λ (g : ℕ). In (w.histories g) (Executed slot)) e x.there)) }
      | inr other ↦ record { host = x.host; correct = x.correct; there = subst (λ (y : History). In y (Executed slot)) (sym (others x.host (eqb-false x.host h other))) x.there }
    ]

    -- the line where the step has come so far
    abbrev line_at : History → List Slot
    line_at l = fold extended w.line (slots_in l)

    record IsReached (l : History) : Type 0 where
      run : (q : ℕ) (slot : Slot) → slice_get (line_at l) q ≡ Some slot → (slot.pos ≡ q + 1) × IsRun v slot
      short : exec_of (l ++ d) ≤ length (line_at l)
      long : length w.line ≤ length (line_at l)

    -- An installed state is another host's.
    state_short : (pos : ℕ) (parts : List Bytes) (e : History) → IsPast (Installed pos parts ∷ e) (v.histories h) → Adds (self_of system h) e (Installed pos parts) → pos ≤ length w.line
    unfolding exec_of
    state_short pos parts e past adds =
        let x = installs h pos parts e step.correct past in
        let g : ℕ = x.2.host in
        let slot : Slot = x.0 in
        elim (cases_Bool (eqb g h)) [
          | inr other ↦
              let there : In (w.histories g) (Executed slot) = subst (λ (y : History). In y (Executed slot)) (others g (eqb-false g h other)) x.2.there in
              let all : Arises (self_of system g) (w.histories g) = subst (λ (y : History). Arises (self_of system g) y) (others g (eqb-false g h other)) (arises g) in
              let high = exec_high (self_of system g) (w.histories g) slot all there in
              let short = before.short g x.2.correct in
              omega (arith, x.1, high, short)
          | inl same ↦
              let there : In (v.histories h) (Executed slot) = subst (λ (i : ℕ). In (v.histories i) (Executed slot)) (eqb-true g h same) x.2.there in
              let all : Arises (self_of system h) (past.later ++ Installed pos parts ∷ e) = subst (λ (y : History). Arises (self_of system h) y) (sym past.is) (arises h) in
              elim (in_parts past.later (Installed pos parts ∷ e) (Executed slot) (subst (λ (y : History). In y (Executed slot)) (sym past.is) there)) [
                | inl behind ↦ let higher : pos < slot.pos = exec_later (self_of system h) past.later (Installed pos parts ∷ e) slot all behind in omega (arith, higher, x.1)
                | inr (inl is) ↦ absurd (differs slot pos parts is)
                | inr (inr i) ↦ let low = exec_high (self_of system h) e slot (tail past.later all) i in omega (arith, low, adds.1, x.1)
              ]
        ] where
          differs : (slot : Slot) (pos : ℕ) (parts : List Bytes) → Installed pos parts ≡ Executed slot → ⊥
          differs slot pos parts e = absurd cc

          tail : (later : History) → Arises (self_of system h) (later ++ Installed pos parts ∷ e) → Arises (self_of system h) e
          tail [] a = a.1
          tail (z ∷ later) a = tail later a.1

    same_line : (e : Entry) (l : History) → slots_in (e ∷ l) ≡ slots_in l → exec_of (e ∷ l ++ d) ≡ exec_of (l ++ d) → IsReached l → IsReached (e ∷ l)
    same_line e l slots exec x = record {
      run = λ q slot at. x.run q slot (rw slots at at);
      short = rw (slots, exec) x.short;
      long = rw slots x.long;
    }

    reached : (l : History) → IsPast (l ++ d) (v.histories h) → Arises (self_of system h) (l ++ d) → IsReached l
    unfolding slots_in exec_of
    reached [] p a = record { run = λ q slot at. let x = before.run q slot at in (x.0, run_stays slot x.1); short = before.short h step.correct; long = omega arith }
    reached (Executed slot ∷ l) p a =
        let x = reached l (past_tail (Executed slot) (l ++ d) (v.histories h) p) a.1 in
        let line : List Slot = line_at l in
        let is : line_at (Executed slot ∷ l) ≡ extended line slot = fold_push w.line (slots_in l) slot in
        let place : slot.pos ≡ exec_of (l ++ d) + 1 = a.0.place in
        let reaches = extended_reaches line slot (omega (arith, place, x.short)) in
        let longer = extended_long line slot in
        record {
          run = λ q y at. extended_slots (λ q y. (y.pos ≡ q + 1) × IsRun v y) line slot x.run
              (λ q e. (e, record { host = h; correct = step.correct; there = subst (λ (y : History). In y (Executed slot)) p.is (in_right p.later (Executed slot ∷ l ++ d) (Executed slot) (inl refl)) }))
              q y (rw is at at);
          short = rw is reaches;
          long = rw is (omega (arith, longer, x.long));
        }
    reached (Installed pos parts ∷ l) p a =
        let x = reached l (past_tail (Installed pos parts) (l ++ d) (v.histories h) p) a.1 in
        let low = state_short pos parts (l ++ d) p a.0 in
        record { run = x.run; short = omega (arith, low, x.long); long = x.long }
    reached (Served pos placed ∷ l) p a = same_line (Served pos placed) l refl refl (reached l (past_tail (Served pos placed) (l ++ d) (v.histories h) p) a.1)
    reached (Accepted m ∷ l) p a = same_line (Accepted m) l refl refl (reached l (past_tail (Accepted m) (l ++ d) (v.histories h) p) a.1)
    reached (Stamped m ∷ l) p a = same_line (Stamped m) l refl refl (reached l (past_tail (Stamped m) (l ++ d) (v.histories h) p) a.1)
    reached (Jumped g f ∷ l) p a = same_line (Jumped g f) l refl refl (reached l (past_tail (Jumped g f) (l ++ d) (v.histories h) p) a.1)
    reached (Closed g c ∷ l) p a = same_line (Closed g c) l refl refl (reached l (past_tail (Closed g c) (l ++ d) (v.histories h) p) a.1)
    reached (DroppedParts ∷ l) p a = same_line DroppedParts l refl refl (reached l (past_tail DroppedParts (l ++ d) (v.histories h) p) a.1)
    reached (LostPatience ∷ l) p a = same_line LostPatience l refl refl (reached l (past_tail LostPatience (l ++ d) (v.histories h) p) a.1)
    reached (Nudged ∷ l) p a = same_line Nudged l refl refl (reached l (past_tail Nudged (l ++ d) (v.histories h) p) a.1)

    step_stands : LineStands v
    step_stands =
        let x = reached done.new (record { later = []; is = here }) (subst (λ (y : History). Arises (self_of system h) y) (sym here) (arises h)) in
        let line : v.line ≡ line_at done.new = step.line ∙ ap (λ (l : List Slot). fold extended w.line l) done.slots in
        record {
          run = λ q slot at. x.run q slot (subst (λ (l : List Slot). slice_get l q ≡ Some slot) line at);
          short = λ g c. rw line (elim (cases_Bool (eqb g h)) [
            | inl same ↦ subst (λ (i : ℕ). exec_of (v.histories i) ≤ length (line_at done.new)) (sym (eqb-true g h same)) (subst (λ (y : History). exec_of y ≤ length (line_at done.new)) here x.short)
            | inr other ↦ let short = before.short g c in subst (λ (y : History). exec_of y ≤ length (line_at done.new)) (sym (others g (eqb-false g h other))) (omega (arith, short, x.long))
          ]);
        }

  pub line_stands_on : (w v : World) → ((h : ℕ) → Arises (self_of system h) (v.histories h)) → InstallsRun v → LineStands w → Moves system w v → LineStands v
  line_stands_on w v arises installs before (inr step) = step_stands w v arises installs before step
  line_stands_on w v arises installs before (inl same) = record {
    run = λ q slot at. let x = before.run q slot (subst (λ (l : List Slot). slice_get l q ≡ Some slot) same.line at) in
        (x.0, record { host = x.1.host; correct = x.1.correct; there = subst (λ (y : History). In y (Executed slot)) (sym (same.histories x.1.host)) x.1.there });
    short = λ h c. rw (same.line, same.histories h) (before.short h c);
  }
