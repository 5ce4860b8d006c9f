-- What a host finds in its other tables came: requests that wait, wishes, VIEW_CHANGEs, ENTERs, OPENs, the NEW_VIEW, evidence, the plan, CHECKPOINTs, what is
-- stable and snapshots. Each of them stands in the history as an entry that says it.
use Rattle.std.specs.Prelude.{◌≡◌, ℕ, ◌+◌, ◌<◌, ◌⊎◌, Bool, List, ◌∷◌, ◌++◌, Some, Contains}
use Rattle.mb_base.specs.Shapes.{Bytes, HasQuorum}
use Rattle.mb_parts.specs.declared.request.Request.{Request}
use Rattle.mb_parts.specs.declared.certificates.StableCert.{StableCert}
use Rattle.mb_parts.specs.declared.certificates.Evidence.{Evidence}
use Rattle.mb_msg.specs.declared.event.Slot.{Slot}
use Rattle.mb_msg.specs.declared.message.Body.TheVariants.{Whole}
use Rattle.mb_msg.specs.declared.message.Message.TheVariants as message
use Rattle.mb_msg.specs.declared.normal.Checkpoint.{Checkpoint}
use Rattle.mb_msg.specs.declared.change.ViewChange.{ViewChange}
use Rattle.mb_msg.specs.declared.change.NewView.{NewView}
use Rattle.mb_msg.specs.declared.change.NewViewBody.{NewViewBody}
use Rattle.mb_msg.specs.declared.change.Enter.{Enter}
use Rattle.mb_msg.specs.declared.change.Open.{Open}
use Rattle.mb_msg.specs.declared.change.OpenBody.{OpenBody}
use Rattle.mb_msg.specs.declared.change.Plan.{Plan}
use Rattle.mb_msg.specs.declared.stamped.Stamped.TheVariants as stamped
use Rattle.mb_model.specs.States.{parts_of}
use Rattle.mb_model.specs.Histories.{Entry, Accepted, Stamped, Executed, LostPatience, History, Identity, view_of}
use Rattle.mb_model.specs.Held.{wish_of, changes_of, enters_for, opened_by, new_view_of, evidence_of, plan_held, plan_from}
use Rattle.mb_model.specs.Stable.{checkpoint_of, stable_of, low_of}
use Rattle.mb_model.specs.Execution.{state_of, pending, snapshot_of}
use Rattle.mb_promise.specs.KeepsTables.{NoneIs, IsChange, IsEnter, IsCheckpoint, names_state, outdoes, is_enter_of, is_open_of, is_checkpoint_of, is_execution_of}

-- An entry that says it stands in the history.
pub record Came (says : Entry → History → Type 0) (d : History) : Type 0 where
  pub later : History
  pub before : History
  pub entry : Entry
  pub is : d ≡ later ++ entry ∷ before
  pub told : says entry before

-- So it does, and none that takes its place behind it.
pub record CameLast (replaces : Entry → Bool) (says : Entry → History → Type 0) (d : History) : Type 0 where
  pub later : History
  pub before : History
  pub entry : Entry
  pub is : d ≡ later ++ entry ∷ before
  pub told : says entry before
  pub last : NoneIs replaces later

-- ---- what one entry says

-- A NEW_VIEW was taken or stamped.
abbrev pub IsNewView : Entry → NewView → Type 0
IsNewView e m = (e ≡ Accepted (message.NewView m)) ⊎ (e ≡ Stamped (stamped.NewView m))

-- This host asks for this view: by a wish, by a VIEW_CHANGE, or, where it is the own one, as it loses patience in the view before.
abbrev pub AsksFor : ℕ → ℕ → Entry → ℕ → ℕ → Type 0
AsksFor own current (Accepted (message.ReqViewChange m)) h v = (m.host ≡ h) × (m.view ≡ v)
AsksFor own current (Accepted (message.ViewChange m)) h v = (m.ui.host ≡ h) × (m.view ≡ v)
AsksFor own current (Stamped (stamped.ViewChange m)) h v = (m.ui.host ≡ h) × (m.view ≡ v)
AsksFor own current LostPatience h v = (own ≡ h) × (current + 1 ≡ v)
AsksFor own current e h v = ⊥

-- It shows this evidence.
abbrev pub ShowsEvidence : Entry → Evidence → Type 0
ShowsEvidence (Accepted (message.Open m)) x = m.evidence ≡ x
ShowsEvidence (Accepted (message.Join m)) x = m.evidence ≡ Some x
ShowsEvidence (Accepted (message.Log m)) x = m.evidence ≡ Some x
ShowsEvidence (Stamped (stamped.Open m)) x = m.evidence ≡ x
ShowsEvidence e x = ⊥

module _ {S : Type 0} (self : Identity S) where
  -- It brings this plan of this view: that of the VIEW_CHANGEs of a NEW_VIEW, or that which an OPEN shows.
  abbrev pub BringsPlan : Entry → ℕ → Plan → Type 0
  BringsPlan (Accepted (message.NewView m)) v p = (b : NewViewBody) × (m.body ≡ Whole b) × (m.view ≡ v) × (p ≡ plan_from self b.changes)
  BringsPlan (Stamped (stamped.NewView m)) v p = (b : NewViewBody) × (m.body ≡ Whole b) × (m.view ≡ v) × (p ≡ plan_from self b.changes)
  BringsPlan (Accepted (message.Open m)) v p = (b : OpenBody) × (m.body ≡ Whole b) × (m.evidence.view ≡ v) × (p ≡ record { base = b.stable; batches = b.batches })
  BringsPlan e v p = ⊥

  -- f+1 hosts have a CHECKPOINT of the position of this certificate that names its state.
  abbrev pub IsAgreed : History → StableCert → Type 0
  IsAgreed d c = HasQuorum self.shape (λ h. names_state c.state (checkpoint_of d h c.pos))

  -- It shows this certificate: in a JOIN or a LOG, as the base of a plan, or as the CHECKPOINT behind which f+1 agree.
  abbrev pub ShowsStable : History → Entry → StableCert → Type 0
  ShowsStable before (Accepted (message.Join m)) c = m.stable ≡ c
  ShowsStable before (Accepted (message.Log m)) c = m.stable ≡ c
  ShowsStable before (Accepted (message.Checkpoint m)) c = IsAgreed (Accepted (message.Checkpoint m) ∷ before) c
  ShowsStable before (Stamped (stamped.Checkpoint m)) c = IsAgreed (Stamped (stamped.Checkpoint m) ∷ before) c
  ShowsStable before e c = (v : ℕ) × (p : Plan) × BringsPlan e v p × (p.base ≡ c)

module _ {S : Type 0} (self : Identity S) (d : History) where
  -- A request that waits was taken, and none took its place.
  abbrev pub FindsRequests : Type 0
  FindsRequests = (c : ℕ) (r : Request) → pending self d c ≡ Some r → (r.client ≡ c) × CameLast (outdoes r) (λ e before. e ≡ Accepted (message.Request r)) d

  -- A host asked for the view that it wishes for.
  abbrev pub FindsWishes : Type 0
  FindsWishes = (h : ℕ) → 0 < wish_of self d h → Came (λ e before. AsksFor self.host (view_of self before) e h (wish_of self d h)) d

  -- A VIEW_CHANGE that is stored was taken or stamped.
  abbrev pub FindsChanges : Type 0
  FindsChanges = (m : ViewChange) → Contains (changes_of self d) m → Came (λ e before. IsChange e m) d

  -- An ENTER that answers a NEW_VIEW is the last one of its host, of the view of the NEW_VIEW, with its counter and plan.
  abbrev pub FindsEnters : Type 0
  FindsEnters = (n : NewView) (m : Enter) → Contains (enters_for self d n) m
      → CameLast (is_enter_of m.ui.host) (λ e before. IsEnter e m) d × (m.view ≡ n.view) × (m.counter ≡ n.ui.counter) × (m.plan ≡ n.plan)

  -- The evidence of a host's OPEN is that of the last one that was taken.
  abbrev pub FindsOpens : Type 0
  FindsOpens = (h : ℕ) (x : Evidence) → opened_by d h ≡ Some x
      → CameLast (is_open_of h) (λ e before. (m : Open) × (e ≡ Accepted (message.Open m)) × (m.ui.host ≡ h) × (m.evidence ≡ x)) d

  -- The NEW_VIEW that is held was taken or stamped; so was what shows the evidence, and what brings the plan.
  abbrev pub FindsNewViews : Type 0
  FindsNewViews = (m : NewView) → new_view_of self d ≡ Some m → Came (λ e before. IsNewView e m) d

  abbrev pub FindsEvidence : Type 0
  FindsEvidence = (x : Evidence) → evidence_of self d ≡ Some x → Came (λ e before. ShowsEvidence e x) d

  abbrev pub FindsPlans : Type 0
  FindsPlans = (view : ℕ) (plan : Plan) → plan_held self d ≡ Some (view, plan) → Came (λ e before. BringsPlan self e view plan) d

  -- A host's CHECKPOINT at a position is its last one there.
  abbrev pub FindsCheckpoints : Type 0
  FindsCheckpoints = (h pos : ℕ) (m : Checkpoint) → checkpoint_of d h pos ≡ Some m
      → (m.ui.host ≡ h) × (m.pos ≡ pos) × CameLast (is_checkpoint_of h pos) (λ e before. IsCheckpoint e m) d

  -- What is stable above the start was shown.
  abbrev pub FindsStable : Type 0
  FindsStable = 0 < low_of self d → Came (λ e before. ShowsStable self before e (stable_of self d)) d

  -- The snapshot of a position is of the state behind its last execution.
  abbrev pub FindsSnapshots : Type 0
  FindsSnapshots = (pos : ℕ) (parts : List Bytes) → snapshot_of self d pos ≡ Some parts
      → CameLast (is_execution_of pos) (λ e before. (slot : Slot) × (e ≡ Executed slot) × (slot.pos ≡ pos) × (parts ≡ parts_of self.snapshots (state_of self before))) d

  pub record FindsTables : Type 0 where
    pub requests : FindsRequests
    pub wishes : FindsWishes
    pub changes : FindsChanges
    pub enters : FindsEnters
    pub opens : FindsOpens
    pub new_views : FindsNewViews
    pub evidence : FindsEvidence
    pub plans : FindsPlans
    pub checkpoints : FindsCheckpoints
    pub stable : FindsStable
    pub snapshots : FindsSnapshots
