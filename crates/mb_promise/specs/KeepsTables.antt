-- What came to a host is found in what it holds, until something later takes its place. It is said of entries of the history, and of what stands
-- behind them.
use Rattle.std.specs.Prelude.{◌≡◌, ℕ, ◌+◌, ◌%◌, ◌≤◌, ◌<◌, ◌⊎◌, Bool, true, false, ◌&&◌, List, ◌∷◌, ◌++◌, nat_lt, nat_le, ◌==◌, slice_get, Option, Some, None, Contains}
use Rattle.std.specs.List.{AllByRecursion}
use Rattle.mb_base.specs.Shapes.{Bytes, HasQuorum, interval, span, host_count}
use Rattle.mb_usig.specs.Tags.{same_bytes}
use Rattle.mb_parts.specs.declared.request.Request.{Request}
use Rattle.mb_parts.specs.declared.certificates.Evidence.{Evidence}
use Rattle.mb_msg.specs.declared.event.Slot.{Slot}
use Rattle.mb_msg.specs.declared.message.Body.TheVariants.{Whole}
use Rattle.mb_msg.specs.declared.message.Message.TheVariants as message
use Rattle.mb_msg.specs.declared.normal.Checkpoint.{Checkpoint}
use Rattle.mb_msg.specs.declared.change.ReqViewChange.{ReqViewChange}
use Rattle.mb_msg.specs.declared.change.ViewChange.{ViewChange}
use Rattle.mb_msg.specs.declared.change.ChangeBody.{ChangeBody}
use Rattle.mb_msg.specs.declared.change.NewView.{NewView}
use Rattle.mb_msg.specs.declared.change.NewViewBody.{NewViewBody}
use Rattle.mb_msg.specs.declared.change.Enter.{Enter}
use Rattle.mb_msg.specs.declared.change.Open.{Open}
use Rattle.mb_msg.specs.declared.change.OpenBody.{OpenBody}
use Rattle.mb_msg.specs.declared.change.Join.{Join}
use Rattle.mb_msg.specs.declared.change.Plan.{Plan}
use Rattle.mb_msg.specs.declared.transfer.Log.{Log}
use Rattle.mb_msg.specs.declared.transfer.StateMsg.{StateMsg}
use Rattle.mb_msg.specs.declared.stamped.Stamped.TheVariants as stamped
use Rattle.mb_model.specs.Service.{is_fresh}
use Rattle.mb_model.specs.Verified.{verifies}
use Rattle.mb_model.specs.UsableLogs.{log_fault}
use Rattle.mb_model.specs.Histories.{Entry, Accepted, Stamped, Served, Executed, Installed, DroppedParts, LostPatience, History, Identity, view_of}
use Rattle.mb_model.specs.Held.{wish_of, changes_of, enters_for, opened_by, new_view_of, evidence_of, evidence_view, plan_held, plan_from}
use Rattle.mb_model.specs.Stable.{checkpoint_of, low_of}
use Rattle.mb_model.specs.States.{parts_of}
use Rattle.mb_model.specs.Execution.{state_of, pending, part_of, missing, snapshot_of}

-- ---- entries that take the place of an earlier one

-- None of these entries is such a one.
abbrev pub NoneIs : (Entry → Bool) → History → Type 0
NoneIs is_such later = AllByRecursion (λ e. is_such e ≡ false) later

-- A request of its client came, or one was served that has its number or a greater one.
abbrev pub outdoes : Request → Entry → Bool
outdoes r (Accepted (message.Request q)) = q.client == r.client
outdoes r (Served pos placed) = placed.request.client == r.client && nat_le r.seq placed.request.seq
outdoes r e = false

-- All parts of a state were installed or dropped.
abbrev pub empties : Entry → Bool
empties (Installed pos parts) = true
empties DroppedParts = true
empties e = false

-- a VIEW_CHANGE of this host
abbrev pub is_change_of : ℕ → Entry → Bool
is_change_of h (Accepted (message.ViewChange m)) = m.ui.host == h
is_change_of h (Stamped (stamped.ViewChange m)) = m.ui.host == h
is_change_of h e = false

-- an ENTER of this host
abbrev pub is_enter_of : ℕ → Entry → Bool
is_enter_of h (Accepted (message.Enter m)) = m.ui.host == h
is_enter_of h (Stamped (stamped.Enter m)) = m.ui.host == h
is_enter_of h e = false

-- an OPEN of this host, which was taken
abbrev pub is_open_of : ℕ → Entry → Bool
is_open_of h (Accepted (message.Open m)) = m.ui.host == h
is_open_of h e = false

-- a NEW_VIEW
abbrev pub is_new_view : Entry → Bool
is_new_view (Accepted (message.NewView m)) = true
is_new_view (Stamped (stamped.NewView m)) = true
is_new_view e = false

-- a NEW_VIEW, or an OPEN that was taken
abbrev pub may_bring_plan : Entry → Bool
may_bring_plan (Accepted (message.Open m)) = true
may_bring_plan e = is_new_view e

-- It shows evidence of a view above this one, or is the host's own OPEN.
abbrev pub may_bring_evidence : ℕ → Entry → Bool
may_bring_evidence view (Accepted (message.Open m)) = nat_lt view m.evidence.view
may_bring_evidence view (Accepted (message.Join m)) = nat_lt view (evidence_view m.evidence)
may_bring_evidence view (Accepted (message.Log m)) = nat_lt view (evidence_view m.evidence)
may_bring_evidence view (Stamped (stamped.Open m)) = true
may_bring_evidence view e = false

-- a CHECKPOINT of this host at this position
abbrev pub is_checkpoint_of : ℕ → ℕ → Entry → Bool
is_checkpoint_of h pos (Accepted (message.Checkpoint m)) = m.ui.host == h && m.pos == pos
is_checkpoint_of h pos (Stamped (stamped.Checkpoint m)) = m.ui.host == h && m.pos == pos
is_checkpoint_of h pos e = false

-- This position was executed.
abbrev pub is_execution_of : ℕ → Entry → Bool
is_execution_of pos (Executed slot) = slot.pos == pos
is_execution_of pos e = false

-- ---- messages that were taken or stamped

abbrev pub IsChange : Entry → ViewChange → Type 0
IsChange e m = (e ≡ Accepted (message.ViewChange m)) ⊎ (e ≡ Stamped (stamped.ViewChange m))

abbrev pub IsEnter : Entry → Enter → Type 0
IsEnter e m = (e ≡ Accepted (message.Enter m)) ⊎ (e ≡ Stamped (stamped.Enter m))

abbrev pub IsCheckpoint : Entry → Checkpoint → Type 0
IsCheckpoint e m = (e ≡ Accepted (message.Checkpoint m)) ⊎ (e ≡ Stamped (stamped.Checkpoint m))

-- ---- what is found

-- a host's CHECKPOINT names this state
abbrev pub names_state : Bytes → Option Checkpoint → Bool
names_state state None = false
names_state state (Some m) = same_bytes m.state state

module _ {S : Type 0} (self : Identity S) where
  -- A request is fresh in each state that was installed since it came.
  abbrev pub StaysFresh : Request → History → History → Type 0
  StaysFresh r later before = (newer older : History) (pos : ℕ) (parts : List Bytes) → later ≡ newer ++ Installed pos parts ∷ older
      → is_fresh (state_of self (Installed pos parts ∷ older ++ Accepted (message.Request r) ∷ before)) r ≡ true

  -- This evidence is of a view that is not below the host's, and above that of the evidence that it held.
  abbrev pub IsNews : History → Evidence → Type 0
  IsNews before x = (view_of self before ≤ x.view) × (evidence_view (evidence_of self before) < x.view)

  -- Evidence of this view, which is not below the host's, is held, and no plan of it.
  pub record LacksPlan (before : History) (view : ℕ) : Type 0 where
    pub current : view_of self before ≤ view
    pub evident : evidence_view (evidence_of self before) ≡ view
    pub lacks : (plan : Plan) → plan_held self before ≡ Some (view, plan) → ⊥

module _ {S : Type 0} (self : Identity S) (d : History) where
  -- A request that was taken waits, until one of its client comes behind it, is served with its number or a greater one, or it is no longer
  -- fresh in a state that is installed.
  abbrev pub KeepsRequests : Type 0
  KeepsRequests = (later before : History) (r : Request) → d ≡ later ++ Accepted (message.Request r) ∷ before
      → NoneIs (outdoes r) later → StaysFresh self r later before → pending self d r.client ≡ Some r

  -- The view that a host wishes for is never below one that it asked for: by a wish, or by a VIEW_CHANGE.
  abbrev pub KeepsWishes : Type 0
  KeepsWishes = (later before : History) (m : ReqViewChange) → d ≡ later ++ Accepted (message.ReqViewChange m) ∷ before → m.view ≤ wish_of self d m.host

  abbrev pub KeepsWishesOfChanges : Type 0
  KeepsWishesOfChanges = (later before : History) (e : Entry) (m : ViewChange) → d ≡ later ++ e ∷ before → IsChange e m → m.view ≤ wish_of self d m.ui.host

  -- Its own is above the view in which it lost patience.
  abbrev pub KeepsOwnWishes : Type 0
  KeepsOwnWishes = (later before : History) → d ≡ later ++ LostPatience ∷ before → view_of self before < wish_of self d self.host

  -- A part of the state at the stable position, where none was held in its place, is held and not missing until all are installed or
  -- dropped or the stable position rises.
  abbrev pub KeepsParts : Type 0
  KeepsParts = (later before : History) (m : StateMsg) (j : ℕ) (part : Bytes) → d ≡ later ++ Accepted (message.State m) ∷ before
      → m.pos ≡ low_of self before → slice_get m.parts j ≡ Some part → part_of self before m.pos (m.first + j) ≡ None
      → NoneIs empties later → m.pos ≡ low_of self d
      → (part_of self d m.pos (m.first + j) ≡ Some part) × (missing self d ≡ Some (m.first + j) → ⊥)

  -- A whole VIEW_CHANGE of another host to a view that is not below the host's is stored until a later one of its host.
  abbrev pub KeepsChanges : Type 0
  KeepsChanges = (later before : History) (m : ViewChange) (b : ChangeBody) → d ≡ later ++ Accepted (message.ViewChange m) ∷ before
      → m.body ≡ Whole b → view_of self before ≤ m.view → NoneIs (is_change_of m.ui.host) later → Contains (changes_of self d) m

  -- So is a whole own one whose log has no fault.
  abbrev pub KeepsOwnChanges : Type 0
  KeepsOwnChanges = (later before : History) (m : ViewChange) (b : ChangeBody) → d ≡ later ++ Stamped (stamped.ViewChange m) ∷ before
      → m.body ≡ Whole b → log_fault self.shape self.secret (verifies self.secret) m.ui.host m.view m.ui.counter b ≡ None
      → NoneIs (is_change_of m.ui.host) later → Contains (changes_of self d) m

  -- The last ENTER of a host is among those for the NEW_VIEW that it answers: of its view, with its counter and plan.
  abbrev pub KeepsEnters : Type 0
  KeepsEnters = (later before : History) (e : Entry) (m : Enter) (n : NewView) → d ≡ later ++ e ∷ before → IsEnter e m → NoneIs (is_enter_of m.ui.host) later
      → m.ui.host < host_count self.shape → m.view ≡ n.view → m.counter ≡ n.ui.counter → m.plan ≡ n.plan → Contains (enters_for self d n) m

  -- The evidence of the last OPEN of a host is found.
  abbrev pub KeepsOpens : Type 0
  KeepsOpens = (later before : History) (m : Open) → d ≡ later ++ Accepted (message.Open m) ∷ before → NoneIs (is_open_of m.ui.host) later
      → opened_by d m.ui.host ≡ Some m.evidence

  -- A whole NEW_VIEW of a view that is not below the host's is held until a later one; so is an own one.
  abbrev pub KeepsNewViews : Type 0
  KeepsNewViews = (later before : History) (m : NewView) (b : NewViewBody) → d ≡ later ++ Accepted (message.NewView m) ∷ before
      → m.body ≡ Whole b → view_of self before ≤ m.view → NoneIs is_new_view later → new_view_of self d ≡ Some m

  abbrev pub KeepsOwnNewViews : Type 0
  KeepsOwnNewViews = (later before : History) (m : NewView) → d ≡ later ++ Stamped (stamped.NewView m) ∷ before → NoneIs is_new_view later → new_view_of self d ≡ Some m

  -- Its plan is that of its VIEW_CHANGEs. It is held until a later NEW_VIEW or OPEN.
  abbrev pub KeepsPlans : Type 0
  KeepsPlans = (later before : History) (m : NewView) (b : NewViewBody) → d ≡ later ++ Accepted (message.NewView m) ∷ before
      → m.body ≡ Whole b → view_of self before ≤ m.view → NoneIs may_bring_plan later → plan_held self d ≡ Some (m.view, plan_from self b.changes)

  abbrev pub KeepsOwnPlans : Type 0
  KeepsOwnPlans = (later before : History) (m : NewView) (b : NewViewBody) → d ≡ later ++ Stamped (stamped.NewView m) ∷ before
      → m.body ≡ Whole b → NoneIs may_bring_plan later → plan_held self d ≡ Some (m.view, plan_from self b.changes)

  -- So is the plan that comes whole in an OPEN whose evidence is news, or is of a view of which evidence was held without a plan.
  abbrev pub KeepsPlansOfOpens : Type 0
  KeepsPlansOfOpens = (later before : History) (m : Open) (b : OpenBody) → d ≡ later ++ Accepted (message.Open m) ∷ before
      → m.body ≡ Whole b → IsNews self before m.evidence ⊎ LacksPlan self before m.evidence.view → NoneIs may_bring_plan later → plan_held self d ≡ Some (m.evidence.view, record { base = b.stable; batches = b.batches })

  -- From then on it is held, until evidence of a greater view is shown, or an own OPEN stamped.
  abbrev pub Holds : History → Evidence → Type 0
  Holds later x = NoneIs (may_bring_evidence x.view) later → evidence_of self d ≡ Some x

  -- Evidence that is news is held, which an OPEN, a JOIN or a LOG of another host shows, and that of an own OPEN.
  abbrev pub KeepsEvidence : Type 0
  KeepsEvidence = (later before : History) (m : Open) → d ≡ later ++ Accepted (message.Open m) ∷ before → IsNews self before m.evidence → Holds later m.evidence

  abbrev pub KeepsEvidenceOfJoins : Type 0
  KeepsEvidenceOfJoins = (later before : History) (m : Join) (x : Evidence) → d ≡ later ++ Accepted (message.Join m) ∷ before → m.evidence ≡ Some x → IsNews self before x → Holds later x

  abbrev pub KeepsEvidenceOfLogs : Type 0
  KeepsEvidenceOfLogs = (later before : History) (m : Log) (x : Evidence) → d ≡ later ++ Accepted (message.Log m) ∷ before → m.evidence ≡ Some x → IsNews self before x → Holds later x

  abbrev pub KeepsOwnEvidence : Type 0
  KeepsOwnEvidence = (later before : History) (m : Open) → d ≡ later ++ Stamped (stamped.Open m) ∷ before → Holds later m.evidence

  -- The last CHECKPOINT of a host at a position is found.
  abbrev pub KeepsCheckpoints : Type 0
  KeepsCheckpoints = (later before : History) (e : Entry) (m : Checkpoint) → d ≡ later ++ e ∷ before → IsCheckpoint e m → NoneIs (is_checkpoint_of m.ui.host m.pos) later
      → checkpoint_of d m.ui.host m.pos ≡ Some m

  -- A CHECKPOINT with which f+1 hosts name one state, one or two intervals above the stable position, raises this position to its own.
  abbrev pub RaisesByCheckpoints : Type 0
  RaisesByCheckpoints = (later before : History) (e : Entry) (m : Checkpoint) → d ≡ later ++ e ∷ before → IsCheckpoint e m
      → (m.pos ≡ low_of self before + interval self.shape) ⊎ (m.pos ≡ low_of self before + span self.shape)
      → HasQuorum self.shape (λ h. names_state m.state (checkpoint_of (e ∷ before) h m.pos)) → m.pos ≤ low_of self d

  -- The stable position is never below that of a certificate that a JOIN or a LOG brought.
  abbrev pub RaisesByJoins : Type 0
  RaisesByJoins = (later before : History) (m : Join) → d ≡ later ++ Accepted (message.Join m) ∷ before → m.stable.pos ≤ low_of self d

  abbrev pub RaisesByLogs : Type 0
  RaisesByLogs = (later before : History) (m : Log) → d ≡ later ++ Accepted (message.Log m) ∷ before → m.stable.pos ≤ low_of self d

  -- Nor is it below the base of the plan that is held.
  abbrev pub RaisesByPlans : Type 0
  RaisesByPlans = (view : ℕ) (plan : Plan) → plan_held self d ≡ Some (view, plan) → plan.base.pos ≤ low_of self d

  -- The parts of the state behind an executed multiple of the interval are found, while the stable position is not above it.
  abbrev pub KeepsSnapshots : Type 0
  KeepsSnapshots = (later before : History) (slot : Slot) → d ≡ later ++ Executed slot ∷ before → slot.pos % interval self.shape ≡ 0 → low_of self d ≤ slot.pos
      → NoneIs (is_execution_of slot.pos) later → snapshot_of self d slot.pos ≡ Some (parts_of self.snapshots (state_of self before))

  pub record KeepsTables : Type 0 where
    pub requests : KeepsRequests
    pub wishes : KeepsWishes
    pub wishes_of_changes : KeepsWishesOfChanges
    pub own_wishes : KeepsOwnWishes
    pub parts : KeepsParts
    pub changes : KeepsChanges
    pub own_changes : KeepsOwnChanges
    pub enters : KeepsEnters
    pub opens : KeepsOpens
    pub new_views : KeepsNewViews
    pub own_new_views : KeepsOwnNewViews
    pub plans : KeepsPlans
    pub own_plans : KeepsOwnPlans
    pub plans_of_opens : KeepsPlansOfOpens
    pub evidence : KeepsEvidence
    pub evidence_of_joins : KeepsEvidenceOfJoins
    pub evidence_of_logs : KeepsEvidenceOfLogs
    pub own_evidence : KeepsOwnEvidence
    pub checkpoints : KeepsCheckpoints
    pub raises_by_checkpoints : RaisesByCheckpoints
    pub raises_by_joins : RaisesByJoins
    pub raises_by_logs : RaisesByLogs
    pub raises_by_plans : RaisesByPlans
    pub snapshots : KeepsSnapshots
