-- What a host holds of a change of the view is not lost: behind each entry it is still held, or what is held then came with this entry, in time.
use Rattle.std.specs.Prelude.{◌≡◌, ℕ, ◌≤◌, ◌<◌, ◌⊎◌, ◌∷◌, ◌++◌, Some, Contains}
use Rattle.mb_parts.specs.declared.certificates.Evidence.{Evidence}
use Rattle.mb_msg.specs.declared.change.ViewChange.{ViewChange}
use Rattle.mb_msg.specs.declared.change.NewView.{NewView}
use Rattle.mb_msg.specs.declared.change.Plan.{Plan}
use Rattle.mb_model.specs.Histories.{Entry, Accepted, Stamped, History, Identity, view_of}
use Rattle.mb_model.specs.Held.{changes_of, new_view_of, evidence_of, plan_held}
use Rattle.mb_promise.specs.KeepsTables.{IsChange}
use Rattle.mb_promise.specs.FindsTables.{IsNewView, ShowsEvidence, BringsPlan}

module _ {S : Type 0} (self : Identity S) where
  -- The host stamped it, or it was taken and is of a view that is not below the host's.
  abbrev pub IsInTime : Entry → History → ℕ → Type 0
  IsInTime (Accepted m) before view = view_of self before ≤ view
  IsInTime (Stamped m) before view = Unit {0}
  IsInTime e before view = ⊥

  -- The host stamped it, or it was taken and is of a view that is not below the host's, and above this one.
  abbrev pub IsInTimeAndAbove : Entry → History → ℕ → ℕ → Type 0
  IsInTimeAndAbove (Accepted m) before old view = (view_of self before ≤ view) × (old < view)
  IsInTimeAndAbove (Stamped m) before old view = Unit {0}
  IsInTimeAndAbove e before old view = ⊥

module _ {S : Type 0} (self : Identity S) (d : History) where
  -- A NEW_VIEW gives place to another alone.
  abbrev pub ReplacesNewViews : Type 0
  ReplacesNewViews = (later before : History) (e : Entry) (n : NewView) → d ≡ later ++ e ∷ before → new_view_of self before ≡ Some n
      → (new_view_of self (e ∷ before) ≡ Some n) ⊎ ((m : NewView) × (new_view_of self (e ∷ before) ≡ Some m) × IsNewView e m × IsInTime self e before m.view)

  -- a plan to another that is brought
  abbrev pub ReplacesPlans : Type 0
  ReplacesPlans = (later before : History) (e : Entry) (v : ℕ) (p : Plan) → d ≡ later ++ e ∷ before → plan_held self before ≡ Some (v, p)
      → (plan_held self (e ∷ before) ≡ Some (v, p)) ⊎ ((w : ℕ) × (q : Plan) × (plan_held self (e ∷ before) ≡ Some (w, q)) × BringsPlan self e w q × IsInTime self e before w)

  -- evidence to that of a greater view, or to that of the own OPEN
  abbrev pub ReplacesEvidence : Type 0
  ReplacesEvidence = (later before : History) (e : Entry) (x : Evidence) → d ≡ later ++ e ∷ before → evidence_of self before ≡ Some x
      → (evidence_of self (e ∷ before) ≡ Some x) ⊎ ((y : Evidence) × (evidence_of self (e ∷ before) ≡ Some y) × ShowsEvidence e y × IsInTimeAndAbove self e before x.view y.view)

  -- a stored VIEW_CHANGE to one of its host that is stored
  abbrev pub ReplacesChanges : Type 0
  ReplacesChanges = (later before : History) (e : Entry) (m : ViewChange) → d ≡ later ++ e ∷ before → Contains (changes_of self before) m
      → Contains (changes_of self (e ∷ before)) m ⊎ ((c : ViewChange) × Contains (changes_of self (e ∷ before)) c × IsChange e c × (c.ui.host ≡ m.ui.host))

  pub record ReplacesTables : Type 0 where
    pub new_views : ReplacesNewViews
    pub plans : ReplacesPlans
    pub evidence : ReplacesEvidence
    pub changes : ReplacesChanges
