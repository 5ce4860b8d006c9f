-- What the tables name as due is the rule of the history, so what the host names is.
use Rattle.std.proofs.Common.{◌≡◌, ◌∙◌, ℕ, Bool, Option, Some, None, refl}
use Rattle.mb_parts.specs.declared.floor.Floor.{Floor}
use Rattle.mb_change.specs.declared.due.ChangeDue.{ChangeDue}
use Rattle.mb_change.specs.declared.due.ChangeDue.TheVariants as change
use Rattle.mb_change.specs.Histories.{IsRule}
use Rattle.mb_change.specs.Represents.{Answers}
use Rattle.mb_change.specs.Rules.{due_with}
use Rattle.mb_model.specs.EnabledRules.{Rule, ChangeView, Announce, Enter, Open, Join, Commit, Execute, Prepare}
use Rattle.mb_model.specs.Histories.{History, Identity, here}
use Rattle.mb_model.specs.OwnLog.{has_other_room}
use Rattle.mb_model.specs.Stable.{low_of}
use Rattle.mb_refinement.proofs.Changes.{change_answers}
use Rattle.mb_core.specs.declared.rules.Due.{Due}
use Rattle.mb_core.specs.declared.rules.Due.TheVariants as due
use Rattle.mb_replica.specs.declared.state.ReplicaState.{ReplicaState}
use Rattle.mb_core.specs.Due.{Names, change_rule}
use Rattle.mb_replica.specs.Represents.{Represents}

-- the name for what the table of view changes says
abbrev pub as_due : ChangeDue → Option Due
as_due change.Nothing = None
as_due (change.ViewChange view) = Some (due.ChangeView view)
as_due change.NewView = Some due.Announce
as_due change.Enter = Some due.Enter
as_due change.Open = Some due.Open
as_due (change.Join base) = Some due.Join

module _ {S : Type 0} (me : Identity S) (d : History) where
  named : (x : ChangeDue) (rule : Option Rule) → IsRule me d x rule → Names (as_due x) rule
  named change.Nothing None is = refl
  named change.Nothing (Some rule) is = absurd is
  named (change.ViewChange view) None is = absurd is
  named (change.ViewChange view) (Some (ChangeView target)) is = is
  named (change.ViewChange view) (Some (Announce changes)) is = absurd is
  named (change.ViewChange view) (Some (Enter n)) is = absurd is
  named (change.ViewChange view) (Some (Open e plan)) is = absurd is
  named (change.ViewChange view) (Some Join) is = absurd is
  named (change.ViewChange view) (Some (Commit p k b)) is = absurd is
  named (change.ViewChange view) (Some (Execute p b)) is = absurd is
  named (change.ViewChange view) (Some (Prepare p b)) is = absurd is
  named change.NewView None is = absurd is
  named change.NewView (Some (ChangeView target)) is = absurd is
  named change.NewView (Some (Announce changes)) is = tt
  named change.NewView (Some (Enter n)) is = absurd is
  named change.NewView (Some (Open e plan)) is = absurd is
  named change.NewView (Some Join) is = absurd is
  named change.NewView (Some (Commit p k b)) is = absurd is
  named change.NewView (Some (Execute p b)) is = absurd is
  named change.NewView (Some (Prepare p b)) is = absurd is
  named change.Enter None is = absurd is
  named change.Enter (Some (ChangeView target)) is = absurd is
  named change.Enter (Some (Announce changes)) is = absurd is
  named change.Enter (Some (Enter n)) is = tt
  named change.Enter (Some (Open e plan)) is = absurd is
  named change.Enter (Some Join) is = absurd is
  named change.Enter (Some (Commit p k b)) is = absurd is
  named change.Enter (Some (Execute p b)) is = absurd is
  named change.Enter (Some (Prepare p b)) is = absurd is
  named change.Open None is = absurd is
  named change.Open (Some (ChangeView target)) is = absurd is
  named change.Open (Some (Announce changes)) is = absurd is
  named change.Open (Some (Enter n)) is = absurd is
  named change.Open (Some (Open e plan)) is = tt
  named change.Open (Some Join) is = absurd is
  named change.Open (Some (Commit p k b)) is = absurd is
  named change.Open (Some (Execute p b)) is = absurd is
  named change.Open (Some (Prepare p b)) is = absurd is
  named (change.Join base) None is = absurd is
  named (change.Join base) (Some (ChangeView target)) is = absurd is
  named (change.Join base) (Some (Announce changes)) is = absurd is
  named (change.Join base) (Some (Enter n)) is = absurd is
  named (change.Join base) (Some (Open e plan)) is = absurd is
  named (change.Join base) (Some Join) is = tt
  named (change.Join base) (Some (Commit p k b)) is = absurd is
  named (change.Join base) (Some (Execute p b)) is = absurd is
  named (change.Join base) (Some (Prepare p b)) is = absurd is

-- What is due of view changes is the first rule of them.
pub change_named : {V : Type 0} (me : Identity V) (r : ReplicaState V) (d : History) → Represents me r d → (x : ChangeDue) (at : Floor) (low : ℕ) (room : Bool)
    → at ≡ here me d → low ≡ low_of me d → room ≡ has_other_room me d → Answers r.protocol.change x (λ s. due_with r.protocol.change.shape r.protocol.change.host at s r.protocol.exec low room)
    → Names (as_due x) (change_rule me d)
change_named me r d rep x at low room same_at same_low same_room answers =
    named me d x (change_rule me d) ((change_answers me r.protocol.change d rep.tables.change).rule x
    (λ s stands. answers s stands ∙ rw (same_at, same_low, same_room, rep.tables.exec) refl))
