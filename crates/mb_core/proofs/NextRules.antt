-- The next rule is the first of view changes, or else the first of the normal case, and the code names it so.
use Rattle.std.proofs.Common.{◌≡◌, ◌∙◌, ℕ, Bool, Option, Some, None, refl, sym, ap, subst}
use Rattle.std.specs.Option.{option_or}
use Rattle.mb_base.specs.declared.shape.Shape.{Shape}
use Rattle.mb_parts.specs.declared.floor.Floor.{Floor}
use Rattle.mb_model.specs.Histories.{History, Identity, here}
use Rattle.mb_model.specs.Stable.{low_of}
use Rattle.mb_model.specs.OwnLog.{has_room}
use Rattle.mb_model.specs.Positions.{exec_of}
use Rattle.mb_model.specs.EnabledRules.{Rule, next_rule}
use Rattle.mb_normal.specs.declared.due.Due.{Due as NormalDue}
use Rattle.mb_normal.specs.declared.due.Due.TheVariants as normal
use Rattle.mb_normal.specs.Searches.{Searches}
use Rattle.mb_normal.specs.Tables.{Represents as NormalRepresents}
use Rattle.mb_normal.specs.Rules.{first_rule, Names as NormalNames}
use Rattle.mb_refinement.proofs.PositionsRules.{next_is, named}
use Rattle.mb_core.specs.declared.rules.Due.{Due}
use Rattle.mb_core.specs.declared.rules.Due.TheVariants as due
use Rattle.mb_replica.specs.declared.state.ReplicaState.{ReplicaState}
use Rattle.mb_core.specs.Due.{Names, change_rule, normal_rule}
use Rattle.mb_replica.specs.Represents.{Represents}

-- ---- the first of the two sorts

first : (x : Due) (a b : Option Rule) → Names (Some x) a → Names (Some x) (option_or a b)
first x None b named = absurd named
first x (Some rule) b named = named

module _ {V : Type 0} (me : Identity V) (d : History) where
  pub change_is_next : (x : Due) → Names (Some x) (change_rule me d) → Names (Some x) (next_rule me d)
  change_is_next x named = subst (Names (Some x)) (sym (next_is me d)) (first x (change_rule me d) (normal_rule me d) named)

  pub normal_is_next : (o : Option Due) → Names None (change_rule me d) → Names o (normal_rule me d) → Names o (next_rule me d)
  normal_is_next o none named = subst (Names o) (sym (next_is me d ∙ ap (λ (x : Option Rule). option_or x (normal_rule me d)) none)) named

-- ---- those of the normal case

-- the name for what the tables say
abbrev pub as_due : NormalDue → Option Due
as_due normal.Nothing = None
as_due (normal.Commit pos) = Some (due.Commit pos)
as_due (normal.Execute pos) = Some (due.Execute pos)
as_due normal.Prepare = Some due.Prepare

same_name : (x : NormalDue) (rule : Option Rule) → NormalNames x rule → Names (as_due x) rule
same_name normal.Nothing rule is = is
same_name (normal.Commit pos) rule is = subst (Names (Some (due.Commit pos))) (sym is.2) refl
same_name (normal.Execute pos) rule is = subst (Names (Some (due.Execute pos))) (sym is.1) refl
same_name normal.Prepare rule is = subst (Names (Some due.Prepare)) (sym is.2) tt

-- What is due of the normal case is the first rule of it.
pub normal_named : {V : Type 0} (me : Identity V) (r : ReplicaState V) (d : History) → Represents me r d → (x : NormalDue) (at : Floor) (low : ℕ) (room : Bool)
    → at ≡ here me d → low ≡ low_of me d → room ≡ has_room me d
    → ((s : Shape) (h : ℕ) (y : Searches) → NormalRepresents s h r.protocol.normal y → y.low ≡ low → NormalNames x (first_rule s h y at r.protocol.exec room))
    → Names (as_due x) (normal_rule me d)
normal_named me r d rep x at low room same_at same_low same_room answers =
    same_name x (normal_rule me d) (named me d r.protocol.normal x rep.tables.normal
    (λ s h y stands is.
    let told : NormalNames x (first_rule s h y at r.protocol.exec room) = answers s h y stands (is ∙ sym same_low) in
    let at_here : NormalNames x (first_rule s h y (here me d) r.protocol.exec room) = subst (λ (f : Floor). NormalNames x (first_rule s h y f r.protocol.exec room)) same_at told in
    let executed : NormalNames x (first_rule s h y (here me d) (exec_of d) room) = subst (λ (n : ℕ). NormalNames x (first_rule s h y (here me d) n room)) rep.tables.exec at_here in
    subst (λ (b : Bool). NormalNames x (first_rule s h y (here me d) (exec_of d) b)) same_room executed))
