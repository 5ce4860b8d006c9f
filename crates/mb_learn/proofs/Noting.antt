-- The digests of states that a line notes.
use Rattle.std.proofs.Common.{◌≡◌, ℕ, ◌-◌, ◌/◌, ◌%◌, Bool, cond, ltb, List, [], ◌∷◌, ◌++◌, length, take_all, get_or, slice_get, Option, Some, None, is_some, IfSome, refl, sym, ap, ◌∙◌, arith}
use denote.Ref.{Bor}
use Rattle.std.specs.Prelude.{◌==◌}
use Rattle.std.specs.Option.{option_copied}
use Rattle.std.proofs.lemmas.Option.{slice_get-get_or, slice_get_past}
use Rattle.std.specs.Global.{Vec}
use Rattle.std.proofs.lemmas.Bool.{eq-eqb, ne_eqb, ltb-true, ltb-false}
use Rattle.mb_base.specs.Shapes.{Bytes, interval}
use Rattle.mb_base.specs.declared.shape.Shape.{Shape}
use Rattle.mb_msg.specs.declared.event.Slot.{Slot}
use Rattle.mb_model.specs.Service.{Machine, Served}
use Rattle.mb_model.specs.States.{Snapshots, parts_of, state_digest}
use Rattle.mb_learn.specs.declared.line.Line.{Line}
use Rattle.mb_learn.specs.Executed.{state_now, state_in, NotesState, Executes}
use Rattle.mb_learn.specs.Proved.{behind, digest_behind}

module _ {S : Type 0} (snapshots : Snapshots S) (pos : ℕ) (t : Line S) where
  -- what is noted at this position
  abbrev noted : Bool → List Bytes
  noted b = cond b (t.states.items ++ state_now snapshots t ∷ []) t.states.items

  -- no multiple of the interval
  pub notes_not : (pos % interval t.shape ≡ 0 → ⊥) → NotesState snapshots pos t t
  notes_not other = record { shape = refl; service = refl; table = refl; slots = refl; states = sym (ap noted (ne_eqb (pos % interval t.shape) 0 other)) }

  -- a multiple
  pub notes_so : (u : Line S) (states : Vec Bytes) (digest : Bytes) → u ≡ t → pos % interval t.shape ≡ 0 → digest ≡ state_now snapshots t → states.items ≡ u.states.items ++ digest ∷ []
      → NotesState snapshots pos t (record u { states = states })
  notes_so u states digest same multiple is items = record {
    shape = ap (λ (x : Line S). x.shape) same;
    service = ap (λ (x : Line S). x.service) same;
    table = ap (λ (x : Line S). x.table) same;
    slots = ap (λ (x : Line S). x.slots) same;
    states = items ∙ ap (λ (x : Line S). x.states.items ++ digest ∷ []) same ∙ ap (λ (d : Bytes). t.states.items ++ d ∷ []) is ∙ sym (ap noted (eq-eqb (pos % interval t.shape) 0 multiple));
  }

-- ---- what is noted

-- what a place of a list lends is what stands there
pub got_copied : {A : Type 0} (l : List A) (i : ℕ) (r : Option (Bor A)) → is_some r ≡ ltb i (length l) → IfSome r (λ x. x.now ≡ get_or l i x.now) → option_copied r ≡ slice_get l i
got_copied l i (Some x) some at = sym (slice_get-get_or l i x.now (ltb-true i (length l) (sym some)) ∙ ap (λ y. Some y) (sym at))
got_copied l i None none at = sym (slice_get_past l i (ltb-false i (length l) (sym none)))

module _ {S : Type 0} (t : Line S) (pos : ℕ) where
  -- the digest of this number, where the position is a multiple
  abbrev inside : Bool → Option Bytes
  inside b = cond b (slice_get t.states.items (pos / interval t.shape - 1)) None

  abbrev outside : Bool → Option Bytes
  outside b = cond b None (inside (pos % interval t.shape == 0))

  pub state_zero : pos ≡ 0 → state_in t pos ≡ None
  state_zero zero_there = ap outside (eq-eqb pos 0 zero_there)

  pub state_between : (pos ≡ 0 → ⊥) → (pos % interval t.shape ≡ 0 → ⊥) → state_in t pos ≡ None
  state_between positive other = ap outside (ne_eqb pos 0 positive) ∙ ap inside (ne_eqb (pos % interval t.shape) 0 other)

  pub state_multiple : (pos ≡ 0 → ⊥) → pos % interval t.shape ≡ 0 → state_in t pos ≡ slice_get t.states.items (pos / interval t.shape - 1)
  state_multiple positive multiple = ap outside (ne_eqb pos 0 positive) ∙ ap inside (eq-eqb (pos % interval t.shape) 0 multiple)

-- The digest at the last position is the one behind all.
pub state_behind : {S : Type 0} (s : Shape) (m : Machine S) (initial : S) (snapshots : Snapshots S) (slots : List Slot) (line : Line S) → Executes s m initial snapshots slots line
    → state_now snapshots line ≡ digest_behind s m initial snapshots slots (length slots)
state_behind s m initial snapshots slots line ex =
    ap (λ (x : Served _). state_digest (parts_of snapshots x) (length line.slots.items)) ex.served_is
    ∙ ap (λ (n : ℕ). state_digest (parts_of snapshots (behind s m initial slots)) n) (ap (λ (l : List Slot). length l) ex.slots_are)
    ∙ sym (ap (λ (l : List Slot). state_digest (parts_of snapshots (behind s m initial l)) (length slots)) (take_all (length slots) slots (omega arith)))
