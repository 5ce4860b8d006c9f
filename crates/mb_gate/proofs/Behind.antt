-- Where a sender stands behind one message more that its floor permits.
--
-- By kinds. A VIEW_CHANGE leaves the view, so the floor says nothing of the new one. Any other message that has a view has the floor's, of which
-- the floor says the phase and the last position.
use Rattle.std.proofs.Common.{◌≡◌, ℕ, ◌+◌, ◌<◌, max, Bool, true, false, ◌&&◌, not, [], ◌∷◌, refl, arith, eqb}
use Rattle.std.specs.Prelude.{nat_lt, ◌==◌}
use Rattle.std.proofs.lemmas.Bool.{and_parts, ltb-true, eqb-true, eq-eqb, ne_eqb}
use Rattle.mb_base.specs.declared.shape.Shape.{Shape}
use Rattle.mb_parts.specs.declared.floor.Floor.{Floor}
use Rattle.mb_parts.specs.declared.floor.Mark.{Mark}
use Rattle.mb_parts.specs.declared.floor.Phase.{Phase}
use Rattle.mb_parts.specs.declared.floor.Phase.TheVariants as phase
use Rattle.mb_parts.specs.Bares.{Bare}
use Rattle.mb_parts.specs.Ordered.{current_view, is_opened, is_entered, last_position, top_position, last_checkpoint, permits, floor_after, phase_from, phase_is_open, phase_is_entered}
use Rattle.mb_parts.proofs.Advance.{floor_with, same_floor}
use Rattle.mb_gate.specs.declared.kind.Kind.{Kind}
use Rattle.mb_gate.specs.declared.kind.Kind.TheVariants as kind
use Rattle.mb_gate.specs.Kinds.{message_with}

-- where a sender stands behind a message, by its kind
abbrev pub led : Kind → Floor → Mark → Floor
led kind.ViewChange o mark = floor_with mark.counter mark.view phase.Changing 0 o.top o.point
led kind.NewView o mark = floor_with mark.counter o.view phase.Entered o.last o.top o.point
led kind.Enter o mark = floor_with mark.counter o.view phase.Entered o.last o.top o.point
led kind.Open o mark = floor_with mark.counter o.view phase.Open mark.end (max o.top mark.end) o.point
led kind.Join o mark = floor_with mark.counter o.view phase.Open mark.pos (max o.top mark.pos) o.point
led kind.Prepare o mark = floor_with mark.counter o.view phase.Open mark.pos (max o.top mark.pos) o.point
led kind.Commit o mark = floor_with mark.counter o.view phase.Open mark.pos (max o.top mark.pos) o.point
led kind.Checkpoint o mark = floor_with mark.counter o.view o.phase o.last o.top mark.pos

-- a phase that is not open, once the change is entered
entered_then : (h : Phase) → not (phase_is_open h) ≡ true → phase.Entered ≡ phase_from (phase_is_open h) true
entered_then phase.Open e = absurd cc
entered_then phase.Entered e = refl
entered_then phase.Changing e = refl

open_then : (h : Phase) → phase_is_open h ≡ true → phase.Open ≡ phase_from (phase_is_open h) (phase_is_entered h)
open_then phase.Open e = refl
open_then phase.Entered e = absurd cc
open_then phase.Changing e = absurd cc

phase_again : (h : Phase) → h ≡ phase_from (phase_is_open h) (phase_is_entered h)
phase_again phase.Open = refl
phase_again phase.Entered = refl
phase_again phase.Changing = refl

module _ (o : Floor) (s : Shape) (host : ℕ) (inner : Bare → Bool) where
  same_view : eqb o.view o.view ≡ true
  same_view = eq-eqb o.view o.view refl

  -- The view is open, where that is asked of the floor's.
  opened_here : (v : ℕ) → v ≡ o.view → is_opened o [] v ≡ phase_is_open o.phase
  unfolding is_opened
  opened_here v here = rw (here, same_view) refl

  -- the view of a message that is of the present one
  here_of : (v : ℕ) (rest : Bool) → (v == o.view && rest) ≡ true → v ≡ o.view
  here_of v rest may = eqb-true v o.view (and_parts (v == o.view) rest may).0

  -- a NEW_VIEW or an ENTER that is permitted
  entering_of : (v : ℕ) (by_whom : Bool) → (v == o.view && (by_whom && (not (is_entered o [] v) && not (is_opened o [] v)))) ≡ true → not (phase_is_open o.phase) ≡ true
  entering_of v by_whom may =
      let rest = (and_parts (v == o.view) (by_whom && (not (is_entered o [] v) && not (is_opened o [] v))) may).1 in
      let unopened = (and_parts (not (is_entered o [] v)) (not (is_opened o [] v)) (and_parts by_whom (not (is_entered o [] v) && not (is_opened o [] v)) rest).1).1 in
      rw (opened_here v (here_of v _ may)) at unopened

  -- a vote that is permitted
  vote_of : (v : ℕ) (by_whom rest : Bool) → (v == o.view && (by_whom && (is_opened o [] v && rest))) ≡ true → phase_is_open o.phase ≡ true
  vote_of v by_whom rest may =
      let opened = (and_parts (is_opened o [] v) rest (and_parts by_whom (is_opened o [] v && rest) (and_parts (v == o.view) (by_whom && (is_opened o [] v && rest)) may).1).1).0 in
      rw (opened_here v (here_of v _ may)) at opened

  behind_as : (k : Kind) (mark : Mark) → mark.counter ≡ o.counter + 1 → permits o s host inner [] (message_with k mark) ≡ true → led k o mark ≡ floor_after o (message_with k mark ∷ [])
  unfolding permits current_view is_opened is_entered last_position top_position last_checkpoint
  behind_as kind.ViewChange mark next may =
      let above : o.view < mark.view = ltb-true o.view mark.view (and_parts (nat_lt o.view mark.view) true may).0 in
      let other : eqb o.view mark.view ≡ false = ne_eqb o.view mark.view (λ e. omega arith) in
      same_floor _ _ _ _ _ _ _ _ _ _ _ _ (omega arith) refl (rw other refl) (rw other refl) refl refl
  behind_as kind.NewView mark next may =
      let here = here_of mark.view _ may in
      same_floor _ _ _ _ _ _ _ _ _ _ _ _ (omega arith) refl (rw (here, same_view) (entered_then o.phase (entering_of mark.view _ may))) (rw same_view refl) refl refl
  behind_as kind.Enter mark next may =
      let here = here_of mark.view _ may in
      same_floor _ _ _ _ _ _ _ _ _ _ _ _ (omega arith) refl (rw (here, same_view) (entered_then o.phase (entering_of mark.view _ may))) (rw same_view refl) refl refl
  behind_as kind.Prepare mark next may =
      let here = here_of mark.view _ may in
      same_floor _ _ _ _ _ _ _ _ _ _ _ _ (omega arith) refl (rw same_view (open_then o.phase (vote_of mark.view _ _ may))) (rw (here, same_view) refl) refl refl
  behind_as kind.Commit mark next may =
      let here = here_of mark.view _ may in
      same_floor _ _ _ _ _ _ _ _ _ _ _ _ (omega arith) refl (rw same_view (open_then o.phase (vote_of mark.view _ _ may))) (rw (here, same_view) refl) refl refl
  behind_as kind.Checkpoint mark next may =
      same_floor _ _ _ _ _ _ _ _ _ _ _ _ (omega arith) refl (rw same_view (phase_again o.phase)) (rw same_view refl) refl refl
  behind_as k mark next may =
      let here = here_of mark.view _ may in
      same_floor _ _ _ _ _ _ _ _ _ _ _ _ (omega arith) refl (rw (here, same_view) refl) (rw (here, same_view) refl) refl refl

  -- the same of a kind that is known to be that one
  pub leads : (mark : Mark) (kind k : Kind) → kind ≡ k → permits o s host inner [] (message_with kind mark) ≡ true → mark.counter ≡ o.counter + 1 → led k o mark ≡ floor_after o (message_with kind mark ∷ [])
  leads mark kind k is may next = rw is (behind_as k mark next (rw is at may))
