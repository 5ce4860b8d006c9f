-- What is due of the searches in a history is the first of the host's rules of view changes that is enabled.
use Rattle.std.proofs.Common.{◌≡◌, ℕ, zero, suc, Bool, true, false, ◌&&◌, ◌||◌, cond, max, Option, Some, None, refl, sym, ap, subst, inl, inr}
use Rattle.std.specs.Prelude.{is_some, option_map, unwrap_or, nat_lt, nat_le, not}
use Rattle.std.specs.Bool.{then_some}
use Rattle.std.specs.Option.{option_or}
use Rattle.std.proofs.lemmas.Bool.{cases_Bool}
use Rattle.mb_base.specs.Shapes.{host_count}
use Rattle.mb_parts.specs.declared.certificates.Evidence.{Evidence}
use Rattle.mb_msg.specs.declared.change.Plan.{Plan}
use Rattle.mb_model.specs.Histories.{History, Identity, here, view_of, is_primary, is_changing}
use Rattle.mb_model.specs.Held.{wish_of, changes_of, new_view_of, evidence_of, new_view_in_view, plan_at}
use Rattle.mb_model.specs.Held as held
use Rattle.mb_model.specs.EnabledRules.{Rule, ChangeView, Announce, Enter, Open, Join, rule_where, open_with, is_evidence_of, change_enabled, announce_enabled, enter_enabled, open_enabled, join_enabled}
use Rattle.mb_model.specs.EnabledRules as model
use Rattle.mb_model.specs.OwnLog.{has_other_room}
use Rattle.mb_model.specs.Positions.{exec_of}
use Rattle.mb_model.specs.Stable.{low_of}
use Rattle.mb_change.specs.declared.due.ChangeDue.{ChangeDue}
use Rattle.mb_change.specs.declared.due.ChangeDue.TheVariants as due
use Rattle.mb_change.specs.Evidences.{chosen, evidence_for, is_of_plan}
use Rattle.mb_change.specs.Rules.{quorum_wish, target, change_due, announce_due, enter_due, open_due, join_due, first_due, due_with}
use Rattle.mb_change.specs.Represents.{searches_of}
use Rattle.mb_change.specs.Histories.{IsRule, first_rule, RulesAgree}

module _ {S : Type 0} (self : Identity S) (d : History) where
  -- what is due, where something is, and the rule that is enabled, where one is
  abbrev Matches : Option ChangeDue → Option Rule → Type 0
  Matches None r = r ≡ None
  Matches (Some x) r = (rule : Rule) × (r ≡ Some rule) × IsRule self d x (Some rule)

  either : (x y : Option ChangeDue) (r q : Option Rule) → Matches x r → Matches y q → Matches (option_or x y) (option_or r q)
  either None y r q none m = rw (none) m
  either (Some x) y r q found m = (found.0, ap (λ o. option_or o q) found.1, found.2)

  as_rule : (x : Option ChangeDue) (r : Option Rule) → Matches x r → IsRule self d (unwrap_or x due.Nothing) r
  as_rule None r none = rw (none) tt
  as_rule (Some x) r found = rw (found.1) found.2

  -- where there is room, a rule is enabled exactly by its other conditions

  with_room : (b room : Bool) (r : Option Rule) → room ≡ true → rule_where (b && room) r ≡ rule_where b r
  with_room true room r e = rw (e) refl
  with_room false room r e = refl

  with_room2 : (a b room : Bool) (r : Option Rule) → room ≡ true → rule_where (a && (b && room)) r ≡ rule_where (a && b) r
  with_room2 true b room r e = with_room b room r e
  with_room2 false b room r e = refl

  with_room3 : (a b c room : Bool) (r : Option Rule) → room ≡ true → rule_where (a && (b && (c && room))) r ≡ rule_where (a && (b && c)) r
  with_room3 true b c room r e = with_room2 b c room r e
  with_room3 false b c room r e = refl

  without_room : (b room : Bool) (r : Option Rule) → room ≡ false → rule_where (b && room) r ≡ None
  without_room true room r e = rw (e) refl
  without_room false room r e = refl

  without_room2 : (a b room : Bool) (r : Option Rule) → room ≡ false → rule_where (a && (b && room)) r ≡ None
  without_room2 true b room r e = without_room b room r e
  without_room2 false b room r e = refl

  without_room3 : (a b c room : Bool) (r : Option Rule) → room ≡ false → rule_where (a && (b && (c && room))) r ≡ None
  without_room3 true b c room r e = without_room2 b c room r e
  without_room3 false b c room r e = refl

  -- ---- rule by rule

  wishes_agree : (n : ℕ) → quorum_wish self.shape (wish_of self d) n ≡ held.quorum_wish self d n
  unfolding quorum_wish held.quorum_wish
  wishes_agree zero = refl
  wishes_agree (suc n) = ap (λ k. max k (cond (held.is_wished self d (wish_of self d n)) (wish_of self d n) 0)) (wishes_agree n)

  targets_agree : target self.shape self.host (here self d) (searches_of self d) ≡ model.target self d
  targets_agree = ap (λ k. max k (max (model.new_view_number (new_view_of self d)) (held.evidence_view (evidence_of self d)))) (wishes_agree (host_count self.shape))

  tested : (b : Bool) (x : ChangeDue) (rule : Rule) → IsRule self d x (Some rule) → Matches (then_some b x) (rule_where b (Some rule))
  tested true x rule is = (rule, refl, is)
  tested false x rule is = refl

  -- where it carries something
  carried : {A : Type 0} (b : Bool) (o : Option A) (x : ChangeDue) (rule : A → Rule) → ((a : A) → o ≡ Some a → IsRule self d x (Some (rule a)))
      → Matches (then_some (b && is_some o) x) (rule_where b (option_map rule o))
  carried true None x rule is = refl
  carried true (Some a) x rule is = (rule a, refl, is a refl)
  carried false o x rule is = refl

  opened : (b : Bool) (e : Option Evidence) (plan : Option Plan) → ((x : Evidence) (p : Plan) → e ≡ Some x → plan ≡ Some p → IsRule self d due.Open (Some (Open x p)))
      → Matches (then_some (b && is_of_plan e plan) due.Open) (rule_where b (open_with e plan))
  opened false e plan is = refl
  opened true None plan is = refl
  opened true (Some e) None is = refl
  opened true (Some e) (Some plan) is = tested (is_evidence_of e plan) due.Open (Open e plan) (is e plan refl refl)

  joined : (a b c : Bool) (x : ChangeDue) (rule : Rule) → IsRule self d x (Some rule) → Matches (then_some (a && (b && c)) x) (rule_where (a && (b && c)) (Some rule))
  joined a b c x rule is = tested (a && (b && c)) x rule is

  carried2 : {A : Type 0} (a b : Bool) (o : Option A) (x : ChangeDue) (rule : A → Rule) → ((y : A) → o ≡ Some y → IsRule self d x (Some (rule y)))
      → Matches (then_some (a && (b && is_some o)) x) (rule_where (a && b) (option_map rule o))
  carried2 true b o x rule is = carried b o x rule is
  carried2 false b o x rule is = refl

  module _ (room : has_other_room self d ≡ true) where
    change_matches : Matches (change_due self.shape self.host (here self d) (searches_of self d)) (change_enabled self d)
    unfolding change_enabled
    change_matches =
        let v = view_of self d in
        let t = model.target self d in
        subst (λ r. Matches (change_due self.shape self.host (here self d) (searches_of self d)) r) (sym (with_room (nat_lt v t) (has_other_room self d) (Some (ChangeView t)) room)) (
        subst (λ (k : ℕ). Matches (then_some (nat_lt v k) (due.ViewChange k)) (rule_where (nat_lt v t) (Some (ChangeView t)))) (sym targets_agree) (
        tested (nat_lt v t) (due.ViewChange t) (ChangeView t) refl))

    announce_matches : Matches (announce_due self.shape self.host (here self d) (searches_of self d)) (announce_enabled self d)
    unfolding announce_enabled
    announce_matches =
        let changes = chosen self.shape (view_of self d) (changes_of self d) in
        subst (λ r. Matches (announce_due self.shape self.host (here self d) (searches_of self d)) r) (sym (with_room2 (is_primary self d) (is_changing self d) (has_other_room self d) (option_map Announce changes) room)) (
        carried2 (is_primary self d) (is_changing self d) changes due.NewView Announce (λ y e. e))

    enter_matches : Matches (enter_due self.shape self.host (here self d) (searches_of self d)) (enter_enabled self d)
    unfolding enter_enabled
    enter_matches =
        let n = new_view_in_view (view_of self d) (new_view_of self d) in
        subst (λ r. Matches (enter_due self.shape self.host (here self d) (searches_of self d)) r) (sym (with_room2 (not (is_primary self d)) (is_changing self d) (has_other_room self d) (option_map Enter n) room)) (
        carried2 (not (is_primary self d)) (is_changing self d) n due.Enter Enter (λ y e. e))

    open_matches : Matches (open_due self.shape self.host (here self d) (searches_of self d)) (open_enabled self d)
    unfolding open_enabled
    open_matches =
        let e = evidence_for self.shape (view_of self d) (searches_of self d) in
        let plan = plan_at self d (view_of self d) in
        subst (λ r. Matches (open_due self.shape self.host (here self d) (searches_of self d)) r) (sym (with_room (model.may_open self d) (has_other_room self d) (open_with e plan) room)) (
        opened (model.may_open self d) e plan (λ x p is of. (is, of)))

    join_matches : Matches (join_due self.shape self.host (here self d) (searches_of self d) (exec_of d) (low_of self d)) (join_enabled self d)
    unfolding join_enabled
    join_matches =
        subst (λ r. Matches (join_due self.shape self.host (here self d) (searches_of self d) (exec_of d) (low_of self d)) r)
        (sym (with_room3 (model.lags_behind self d || model.is_past_plan self d) (model.has_evidence self d) (nat_le (low_of self d) (exec_of d)) (has_other_room self d) (Some Join) room)) (
        joined (model.lags_behind self d || model.is_past_plan self d) (model.has_evidence self d) (nat_le (low_of self d) (exec_of d)) (due.Join (low_of self d)) Join refl)

    all_match : Matches (first_due self.shape self.host (here self d) (searches_of self d) (exec_of d) (low_of self d)) (first_rule self d)
    all_match = either _ _ _ _ change_matches (either _ _ _ _ announce_matches (either _ _ _ _ enter_matches (either _ _ _ _ open_matches join_matches)))

  module _ (room : has_other_room self d ≡ false) where
    none_of_five : (a b e o j : Option Rule) → a ≡ None → b ≡ None → e ≡ None → o ≡ None → j ≡ None → option_or a (option_or b (option_or e (option_or o j))) ≡ None
    none_of_five a b e o j fa fb fe fo fj = rw (fa, fb, fe, fo, fj) refl

    none_enabled : first_rule self d ≡ None
    unfolding change_enabled announce_enabled enter_enabled open_enabled join_enabled
    none_enabled = none_of_five (change_enabled self d) (announce_enabled self d) (enter_enabled self d) (open_enabled self d) (join_enabled self d)
        (without_room (nat_lt (view_of self d) (model.target self d)) (has_other_room self d) (Some (ChangeView (model.target self d))) room)
        (without_room2 (is_primary self d) (is_changing self d) (has_other_room self d) (option_map Announce (chosen self.shape (view_of self d) (changes_of self d))) room)
        (without_room2 (not (is_primary self d)) (is_changing self d) (has_other_room self d) (option_map Enter (new_view_in_view (view_of self d) (new_view_of self d))) room)
        (without_room (model.may_open self d) (has_other_room self d) (open_with (evidence_for self.shape (view_of self d) (searches_of self d)) (plan_at self d (view_of self d))) room)
        (without_room3 (model.lags_behind self d || model.is_past_plan self d) (model.has_evidence self d) (nat_le (low_of self d) (exec_of d)) (has_other_room self d) (Some Join) room)

  agree : IsRule self d (due_with self.shape self.host (here self d) (searches_of self d) (exec_of d) (low_of self d) (has_other_room self d)) (first_rule self d)
  unfolding due_with
  agree = elim (cases_Bool (has_other_room self d)) [
    | inl there ↦ rw (there) (as_rule _ _ (all_match there))
    | inr gone ↦ rw (gone, none_enabled gone) tt
  ]

pub rules_agree : (S : Type 0) → RulesAgree S
rules_agree S self d = agree self d
