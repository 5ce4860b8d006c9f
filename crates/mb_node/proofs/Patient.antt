-- Patience behind one event more.
use Rattle.std.proofs.Common.{◌≡◌, ℕ, ◌+◌, Bool, false, List, [], ◌∷◌, Option, Some, None, refl, inl, inr}
use Rattle.std.specs.Prelude.{◌&&◌, ◌||◌, ◌==◌, not, is_some, if◌then◌else◌}
use Rattle.std.proofs.lemmas.Bool.{cases_Bool}
use Rattle.mb_parts.specs.declared.floor.Floor.{Floor}
use Rattle.mb_parts.specs.Ordered.{phase_is_open}
use Rattle.mb_msg.specs.declared.event.Event.{Event}
use Rattle.mb_msg.specs.declared.event.Slot.{Slot}
use Rattle.mb_model.specs.Histories.{History, Identity, here, view_of}
use Rattle.mb_model.specs.HostStep.{transition}
use Rattle.mb_replica.specs.Waiting.{wants}
use Rattle.mb_node.specs.declared.patience.Patience.{Patience}
use Rattle.mb_node.specs.Patience.{fresh, course_of, behind}
use Rattle.mb_node.specs.Events.{is_patience, executes_none, is_again, quiets_in, begins_to_wait, left_by, worked_in, asked_again, quiets, patience}
use Rattle.mb_node.specs.Turns.{shown_by}

-- Something was executed or taken over.
abbrev served : List Slot → Option ℕ → Bool
served executed adopted = not (executes_none executed) || is_some adopted

-- The view was opened.
abbrev opened : Floor → Floor → Bool
opened before after = phase_is_open after.phase && not (phase_is_open before.phase && before.view == after.view)

-- what the searches find, one event on
abbrev found : List Slot → Option ℕ → Floor → Floor → ℕ → Bool → Bool → Bool → Bool → Patience → Patience
found executed adopted before after count lost again begins waits p =
    let asked : Bool = if served executed adopted || opened before after then false else again || p.asked_again in
    record {
      quiets = if lost || ((served executed adopted || opened before after) || (begins || not (waits || asked))) then 0 else p.quiets + count;
      worked_in = if served executed adopted then after.view else p.worked_in;
      asked_again = asked;
    }

found_is : (executed : List Slot) (adopted : Option ℕ) (before after : Floor) (count : ℕ) (lost again begins waits : Bool) (p : Patience)
    → found executed adopted before after count lost again begins waits p
    ≡ behind (record { quiets = count; lost = lost; again = again; begins = begins; course = course_of executed adopted before after; view = after.view; waits = waits }) p
found_is (slot ∷ more) adopted before after count lost again begins waits p = refl
found_is [] (Some pos) before after count lost again begins waits p = refl
found_is [] None before after count lost again begins waits p = elim (cases_Bool (opened before after)) [
  | inl does ↦ rw does refl
  | inr not_so ↦ rw not_so refl
]

module _ {V : Type 0} (me : Identity V) (start : History) where
  pub patience_none : patience me start [] ≡ fresh (view_of me start)
  unfolding quiets worked_in asked_again
  patience_none = refl

  pub patience_more : (es : List Event) (e : Event) → patience me start (e ∷ es) ≡ behind (shown_by me (left_by me start es) e) (patience me start es)
  unfolding quiets worked_in asked_again
  patience_more es e =
      let d : History = left_by me start es in
      let a = transition me d e in
      found_is a.left.executed a.left.installed (here me d) (here me a.left.history) (quiets_in e) (is_patience e) (is_again a.outcome) (begins_to_wait me d e) (wants me a.left.history) (patience me start es)
