-- A part that a STATE brought for the stable position stays held, and the state behind an executed position stays found.
use Rattle.std.proofs.Common.{◌≡◌, ℕ, ◌+◌, ◌-◌, Bool, true, false, List, [], ◌∷◌, ◌++◌, refl, sym, ◌∙◌, subst, inl, inr, arith, Some, None}
use Rattle.std.specs.Prelude.{is_none, find, slice_get}
use Rattle.std.specs.List.{range_with_len}
use Rattle.std.proofs.lemmas.Bool.{cases_Bool, eq-eqb, le-leb}
use Rattle.mb_base.specs.Limits.{part_count}
use Rattle.mb_base.specs.Shapes.{Bytes}
use Rattle.mb_msg.specs.declared.event.Slot.{Slot}
use Rattle.mb_msg.specs.declared.message.Message.TheVariants as message
use Rattle.mb_msg.specs.declared.transfer.StateMsg.{StateMsg}
use Rattle.mb_model.specs.Histories.{Accepted, Executed, Installed, DroppedParts, History, Identity}
use Rattle.mb_model.specs.Stable.{low_of}
use Rattle.mb_model.specs.States.{parts_of}
use Rattle.mb_model.specs.Execution.{state_of, part_of, part_in, part_held, missing, parts_after}
use Rattle.mb_promise.specs.KeepsTables.{NoneIs, empties, is_execution_of, KeepsParts, KeepsSnapshots}

found_passes : (p : ℕ → Bool) (l : List ℕ) (i : ℕ) → find p l ≡ Some i → p i ≡ true
found_passes p [] i e = absurd cc
found_passes p (x ∷ l) i e = elim (cases_Bool (p x)) [
  | inl passes ↦ let same : Some x ≡ Some i = rw passes at e in let is : x ≡ i = cc in subst (λ (y : ℕ). p y ≡ true) is passes
  | inr fails ↦ found_passes p l i (rw fails at e)
]

part_at : (m : StateMsg) (j : ℕ) → part_in m (m.first + j) ≡ slice_get m.parts j
part_at m j = let place : m.first + j - m.first ≡ j = omega arith in rw (le-leb m.first (m.first + j) (omega arith), place) refl

module _ {S : Type 0} (self : Identity S) where
  -- ---- parts of a state that is fetched

  part_stays : (later d : History) (pos i : ℕ) (part : Bytes) → NoneIs empties later → part_of self d pos i ≡ Some part → part_of self (later ++ d) pos i ≡ Some part
  unfolding part_of
  part_stays [] d pos i part none e = e
  part_stays (Accepted (message.State m) ∷ l) d pos i part none e = rw (part_stays l d pos i part none.1 e) refl
  part_stays (DroppedParts ∷ l) d pos i part none e = let never : true ≡ false = none.0 in absurd cc
  part_stays (Installed p parts ∷ l) d pos i part none e = let never : true ≡ false = none.0 in absurd cc
  part_stays (x ∷ l) d pos i part none e = part_stays l d pos i part none.1 e

  part_new : (m : StateMsg) (d : History) (j : ℕ) (part : Bytes) → m.pos ≡ low_of self d → slice_get m.parts j ≡ Some part → part_of self d m.pos (m.first + j) ≡ None
      → part_of self (Accepted (message.State m) ∷ d) m.pos (m.first + j) ≡ Some part
  unfolding part_of
  part_new m d j part at there none = rw (none, eq-eqb m.pos m.pos refl, eq-eqb (low_of self d) m.pos (sym at)) (part_at m j ∙ there)

  not_missing : (d : History) (i : ℕ) (part : Bytes) → part_held self d i ≡ Some part → missing self d ≡ Some i → ⊥
  not_missing d i part held e =
      let gone : is_none (part_held self d i) ≡ true = found_passes (λ k. is_none (part_held self d k)) (range_with_len 0 part_count) i e in
      let never : false ≡ true = rw held at gone in absurd cc

  pub keeps_parts : (d : History) → KeepsParts self d
  keeps_parts d later before m j part is at there none kept low =
      let held : part_of self d m.pos (m.first + j) ≡ Some part =
      subst (λ (h : History). part_of self h m.pos (m.first + j) ≡ Some part) (sym is) (part_stays later (Accepted (message.State m) ∷ before) m.pos (m.first + j) part kept (part_new m before j part at there none)) in
      (held, not_missing d (m.first + j) part (subst (λ (p : ℕ). part_of self d p (m.first + j) ≡ Some part) low held))

  -- ---- snapshots

  after_stays : (later d : History) (pos : ℕ) (parts : List Bytes) → NoneIs (is_execution_of pos) later → parts_after self d pos ≡ Some parts → parts_after self (later ++ d) pos ≡ Some parts
  unfolding parts_after
  after_stays [] d pos parts none e = e
  after_stays (Executed slot ∷ l) d pos parts none e = rw none.0 (after_stays l d pos parts none.1 e)
  after_stays (x ∷ l) d pos parts none e = after_stays l d pos parts none.1 e

  after_new : (slot : Slot) (d : History) → parts_after self (Executed slot ∷ d) slot.pos ≡ Some (parts_of self.snapshots (state_of self d))
  unfolding parts_after state_of
  after_new slot d = rw (eq-eqb slot.pos slot.pos refl) refl

  pub keeps_snapshots : (d : History) → KeepsSnapshots self d
  keeps_snapshots d later before slot is multiple low none =
      let found = after_stays later (Executed slot ∷ before) slot.pos (parts_of self.snapshots (state_of self before)) none (after_new slot before) in
      rw (multiple, le-leb (low_of self d) slot.pos low) (subst (λ (h : History). parts_after self h slot.pos ≡ Some (parts_of self.snapshots (state_of self before))) (sym is) found)
