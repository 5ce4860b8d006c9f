-- What a host holds of a change of the view gives place to what comes later: for each table what is held first, and what is held behind the next entry.
use Rattle.std.proofs.Common.{◌⊎◌, ◌≡◌, ◌<◌, ℕ, [], ◌∷◌, refl, arith, Some}
use Rattle.std.specs.Prelude.{Contains}
use Rattle.mb_parts.specs.declared.certificates.Evidence.{Evidence}
use Rattle.mb_msg.specs.declared.message.Message.TheVariants as message
use Rattle.mb_msg.specs.declared.change.NewView.{NewView}
use Rattle.mb_msg.specs.declared.change.ViewChange.{ViewChange}
use Rattle.mb_msg.specs.declared.change.Open.{Open}
use Rattle.mb_msg.specs.declared.change.Plan.{Plan}
use Rattle.mb_model.specs.Histories.{Accepted, History}
use Rattle.mb_model.specs.Held.{changes_of, new_view_of, evidence_of, plan_held}
use Rattle.mb_model.proofs.StepOnLiterals.{host_on_literals}
use Rattle.mb_promise.specs.KeepsTables.{IsChange}
use Rattle.mb_promise.specs.FindsTables.{IsNewView, ShowsEvidence, BringsPlan}
use Rattle.mb_promise.specs.ReplacesTables.{ReplacesNewViews, ReplacesPlans, ReplacesEvidence, ReplacesChanges, IsInTime, IsInTimeAndAbove}
use Rattle.mb_agreement.proofs.ViewChangeData.{evidence_1}
use Rattle.mb_premises_met.proofs.Data.{host, change_2, new_view_1, open_2, carried}

-- The NEW_VIEW of view 1 came to h0, and then one of view 2: that is held, and so is its plan.
abbrev new_view_2 : NewView
new_view_2 = record new_view_1 { view = 2 }

abbrev first_view : History
first_view = Accepted (message.NewView new_view_1) ∷ []

abbrev second_view : History
second_view = Accepted (message.NewView new_view_2) ∷ first_view

a_new_view_gives_place : (ReplacesNewViews (host 0) second_view
    → (new_view_of (host 0) second_view ≡ Some new_view_1)
    ⊎ ((m : NewView) × (new_view_of (host 0) second_view ≡ Some m) × IsNewView (Accepted (message.NewView new_view_2)) m × IsInTime (host 0) (Accepted (message.NewView new_view_2)) first_view m.view))
    × (new_view_of (host 0) second_view ≡ Some new_view_2)
unfolding host_on_literals
a_new_view_gives_place = (λ replaces. replaces [] first_view (Accepted (message.NewView new_view_2)) new_view_1 refl refl, refl)

a_plan_gives_place : (ReplacesPlans (host 0) second_view
    → (plan_held (host 0) second_view ≡ Some (1, carried))
    ⊎ ((w : ℕ) × (q : Plan) × (plan_held (host 0) second_view ≡ Some (w, q)) × BringsPlan (host 0) (Accepted (message.NewView new_view_2)) w q × IsInTime (host 0) (Accepted (message.NewView new_view_2)) first_view w))
    × (plan_held (host 0) second_view ≡ Some (2, carried))
unfolding host_on_literals
a_plan_gives_place = (λ replaces. replaces [] first_view (Accepted (message.NewView new_view_2)) 1 carried refl refl, refl)

-- Evidence of view 1 gives place to that of view 2.
abbrev evidence_2 : Evidence
evidence_2 = record evidence_1 { view = 2 }

abbrev open_of_2 : Open
open_of_2 = record open_2 { evidence = evidence_2 }

abbrev first_open : History
first_open = Accepted (message.Open open_2) ∷ []

abbrev second_open : History
second_open = Accepted (message.Open open_of_2) ∷ first_open

evidence_gives_place : (ReplacesEvidence (host 0) second_open
    → (evidence_of (host 0) second_open ≡ Some evidence_1)
    ⊎ ((y : Evidence) × (evidence_of (host 0) second_open ≡ Some y) × ShowsEvidence (Accepted (message.Open open_of_2)) y × IsInTimeAndAbove (host 0) (Accepted (message.Open open_of_2)) first_open 1 y.view))
    × (evidence_of (host 0) second_open ≡ Some evidence_2)
unfolding host_on_literals
evidence_gives_place = (λ replaces. replaces [] first_open (Accepted (message.Open open_of_2)) evidence_1 refl refl, refl)

-- A VIEW_CHANGE of h2 to view 1 gives place to one to view 2.
abbrev later_change : ViewChange
later_change = record change_2 { view = 2 }

abbrev first_change : History
first_change = Accepted (message.ViewChange change_2) ∷ []

abbrev second_change : History
second_change = Accepted (message.ViewChange later_change) ∷ first_change

a_change_gives_place : (ReplacesChanges (host 0) second_change
    → Contains (changes_of (host 0) second_change) change_2
    ⊎ ((c : ViewChange) × Contains (changes_of (host 0) second_change) c × IsChange (Accepted (message.ViewChange later_change)) c × (c.ui.host ≡ 2)))
    × (changes_of (host 0) second_change ≡ later_change ∷ [])
unfolding host_on_literals
a_change_gives_place = (
  λ replaces.
      let first : 0 < 1 = omega arith in
      replaces [] first_change (Accepted (message.ViewChange later_change)) change_2 refl (0, first, refl),
  refl,
)
