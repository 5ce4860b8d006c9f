-- What is answered to a NEW_VIEW.
use Rattle.std.specs.Prelude.{◌≡◌, ◌<◌, true, false, List, [], Option, Some, None, Result, Ok, Err}
use Rattle.mb_base.specs.Shapes.{Bytes}
use Rattle.mb_base.specs.declared.shape.Shape.{Shape}
use Rattle.mb_msg.specs.declared.message.Body.{Body}
use Rattle.mb_msg.specs.declared.message.Body.TheVariants.{Whole, Bare as Short}
use Rattle.mb_msg.specs.declared.change.ViewChange.{ViewChange}
use Rattle.mb_msg.specs.declared.change.NewView.{NewView}
use Rattle.mb_msg.specs.declared.change.NewViewBody.{NewViewBody}
use Rattle.mb_msg.specs.declared.change.Plan.{Plan}
use Rattle.mb_model.specs.Histories.{Identity}
use Rattle.mb_model.specs.UsableLogs.{Fault}
use Rattle.mb_model.specs.Plans.{are_of_plan, plan_of}
use Rattle.mb_model.specs.Held.{plan_from, logs_of}
use Rattle.mb_model.specs.KindChecks.{new_view_fault}
use Rattle.mb_plan.specs.Planned.{are_quorum}
use Rattle.mb_plan.specs.declared.new_view.NewViewFault.{NewViewFault}
use Rattle.mb_plan.specs.declared.new_view.NewViewFault.TheVariants.{Few, Unusable, OtherPlan, NoMemory}

-- A host with this shape and secret. Which one it is, and its service, don't matter to what it finds of a NEW_VIEW.
abbrev pub checker : Shape → Bytes → Identity (Unit {0})
checker s secret = record {
  shape = s;
  host = 0;
  secret = secret;
  machine = record { after = λ state op. state; result = λ state op. [] };
  snapshots = record { part = λ state i. []; restored = λ parts. Ok tt };
  initial = tt;
}

-- of members alone
abbrev pub AnswersMembers : Option Fault → Result Unit NewViewFault → Type 0
AnswersMembers fault (Ok x) = fault ≡ None
AnswersMembers fault (Err (Unusable index reason)) = (fault ≡ Some (index, reason)) × (index < 255)
AnswersMembers fault (Err Few) = ⊥
AnswersMembers fault (Err OtherPlan) = ⊥
AnswersMembers fault (Err NoMemory) = Unit {0}

-- of a plan alone
abbrev pub Announced : NewView → Plan → Result Plan NewViewFault → Type 0
Announced m plan (Ok x) = (are_of_plan m.base m.end m.plan plan ≡ true) × (x ≡ plan)
Announced m plan (Err OtherPlan) = are_of_plan m.base m.end m.plan plan ≡ false
Announced m plan (Err Few) = ⊥
Announced m plan (Err (Unusable index reason)) = ⊥
Announced m plan (Err NoMemory) = ⊥

-- of the members' plan
abbrev pub OfMembers : Shape → List ViewChange → Result Plan NewViewFault → Type 0
OfMembers s members (Ok plan) = plan ≡ plan_of s (logs_of members)
OfMembers s members (Err Few) = are_quorum s members ≡ false
OfMembers s members (Err OtherPlan) = ⊥
OfMembers s members (Err (Unusable index reason)) = ⊥
OfMembers s members (Err NoMemory) = Unit {0}

-- The plan exactly where there is no fault; else the fault, of which 255 and 11 tell another plan; unless memory ran out.
abbrev pub FollowsFrom : Shape → Bytes → NewView → NewViewBody → Result Plan NewViewFault → Type 0
FollowsFrom s secret m b (Ok plan) = (new_view_fault (checker s secret) m b ≡ None) × (plan ≡ plan_from (checker s secret) b.changes)
FollowsFrom s secret m b (Err (Unusable index reason)) = (new_view_fault (checker s secret) m b ≡ Some (index, reason)) × (index < 255)
FollowsFrom s secret m b (Err OtherPlan) = new_view_fault (checker s secret) m b ≡ Some (255, 11)
FollowsFrom s secret m b (Err Few) = ⊥
FollowsFrom s secret m b (Err NoMemory) = Unit {0}

-- So where the body came whole, and `Few` exactly where it came as its digest.
abbrev pub Follows : Shape → Bytes → NewView → Body NewViewBody → Result Plan NewViewFault → Type 0
Follows s secret m (Whole b) result = FollowsFrom s secret m b result
Follows s secret m (Short digest) result = result ≡ Err Few
