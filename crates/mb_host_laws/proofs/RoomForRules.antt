-- The room that the next rule asked for.
use Rattle.std.proofs.Common.{◌≡◌, true, Some}
use Rattle.mb_model.specs.Histories.{History, Identity}
use Rattle.mb_model.specs.OwnLog.{has_room, has_other_room}
use Rattle.mb_model.specs.EnabledRules.{Rule, next_rule}
use Rattle.mb_model.specs.EnabledRules as rule
use Rattle.mb_steps.proofs.EachRule.{of_next}

module _ {S : Type 0} (self : Identity S) where
  -- for what it stamps; an execution asks for none
  abbrev pub HasRoomFor : History → Rule → Type 0
  HasRoomFor d (rule.ChangeView view) = has_other_room self d ≡ true
  HasRoomFor d (rule.Announce changes) = has_other_room self d ≡ true
  HasRoomFor d (rule.Enter n) = has_other_room self d ≡ true
  HasRoomFor d (rule.Open e plan) = has_other_room self d ≡ true
  HasRoomFor d rule.Join = has_other_room self d ≡ true
  HasRoomFor d (rule.Commit pos k b) = has_room self d ≡ true
  HasRoomFor d (rule.Execute pos b) = Unit {0}
  HasRoomFor d (rule.Prepare pos b) = has_room self d ≡ true

  pub room_for : (d : History) (r : Rule) → next_rule self d ≡ Some r → HasRoomFor d r
  room_for d r e = of_next self d (λ (x : Rule). HasRoomFor d x) (record {
    changes = λ e more room. room;
    announces = λ changes e leads changing room. room;
    enters = λ n e room. room;
    opens = λ f plan e held room. room;
    joins = λ e room. room;
    commits = λ k b e room. room;
    executes = λ b e. tt;
    prepares = λ b e room. room;
  }) r e
