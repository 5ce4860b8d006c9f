-- Why a stamped message is refused that its gate would take: for each kind a chain of tests, of which the first that fits answers.
use Rattle.std.specs.Prelude.{ℕ, ◌+◌, Bool, true, false, ◌&&◌, not, List, [], ◌∷◌, nat_lt, ◌==◌, Option, Some, None, if◌then◌else◌, option_map, option_and_then}
use Rattle.std.specs.Bool.{then_some}
use Rattle.std.specs.Option.{option_or}
use Rattle.mb_base.specs.Shapes.{span}
use Rattle.mb_parts.specs.declared.request.Request.{Request}
use Rattle.mb_parts.specs.declared.batch.Batch.{Batch}
use Rattle.mb_parts.specs.declared.certificates.Evidence.{Evidence}
use Rattle.mb_msg.specs.declared.message.Body.{Body}
use Rattle.mb_msg.specs.declared.message.Body.TheVariants.{Whole, Bare as Short}
use Rattle.mb_msg.specs.declared.change.OpenBody.{OpenBody}
use Rattle.mb_msg.specs.declared.change.NewViewBody.{NewViewBody}
use Rattle.mb_msg.specs.declared.change.ViewChange.{ViewChange}
use Rattle.mb_msg.specs.declared.change.NewView.{NewView}
use Rattle.mb_msg.specs.declared.change.Plan.{Plan}
use Rattle.mb_msg.specs.declared.stamped.Stamped.{Stamped as StampedMessage}
use Rattle.mb_msg.specs.declared.stamped.Stamped.TheVariants as stamped
use Rattle.mb_model.specs.Verified.{is_rightly_tagged, are_rightly_tagged}
use Rattle.mb_model.specs.UsableLogs.{Fault, is_plan_body}
use Rattle.mb_model.specs.Plans.{are_of_plan}
use Rattle.mb_msg.specs.declared.event.Outcome.{Outcome}
use Rattle.mb_msg.specs.declared.event.Outcome.TheVariants as outcome
use Rattle.mb_model.specs.Histories.{History, Identity, view_of}
use Rattle.mb_model.specs.Held.{plan_from, change_fault, is_current}
use Rattle.mb_msg.specs.Bodies.{whole_body}
use Rattle.mb_model.specs.Stable.{low_of}
use Rattle.mb_model.specs.Positions.{exec_of}
use Rattle.mb_model.specs.GateChecks.{valid, stamp_claim, identifier_refusal}

-- what does not check, as an outcome: the index and the reason
abbrev pub unusable : Option Fault → Option Outcome
unusable fault = option_map (λ f. outcome.Unusable f.0 f.1) fault

-- a refusal that is looked for only where something holds
abbrev pub only_where : Bool → Option Outcome → Option Outcome
only_where true o = o
only_where false o = None

module _ {S : Type 0} (self : Identity S) where
  -- The tag is not that of the client's key.
  abbrev pub is_badly_tagged : Request → Bool
  is_badly_tagged r = not (is_rightly_tagged self.secret r)

  -- above the window
  abbrev pub is_beyond : History → ℕ → Bool
  is_beyond d pos = nat_lt (low_of self d + span self.shape) pos

  -- ---- PREPARE and COMMIT: view, window and body

  abbrev pub is_of_later_view : History → ℕ → Bool
  is_of_later_view d view = nat_lt (view_of self d) view

  abbrev pub is_of_view : History → ℕ → Bool
  is_of_view d view = view_of self d == view

  -- The tag of one of its requests is not that of the client's key.
  abbrev pub has_bad_tag : Batch → Bool
  has_bad_tag b = not (are_rightly_tagged self.secret b)

  -- A batch that came as its digest is of use only where its position is executed.
  abbrev pub body_refusal : History → ℕ → Body Batch → Option Outcome
  body_refusal d pos (Short digest) = then_some (nat_lt (exec_of d) pos) (outcome.NeedBody (view_of self d) (exec_of d))
  body_refusal d pos (Whole b) = then_some (has_bad_tag b) outcome.BadTag

  -- A vote of an earlier view says nothing here.
  unfoldable pub vote_refusal : History → ℕ → ℕ → Body Batch → Option Outcome
  vote_refusal d view pos body =
      option_or (then_some (is_of_later_view d view) (outcome.LaterView (view_of self d)))
      (only_where (is_of_view d view)
      (option_or (then_some (is_beyond d pos) (outcome.BeyondWindow (low_of self d)))
      (body_refusal d pos body)))

  -- ---- CHECKPOINT: the window

  abbrev pub checkpoint_refusal : History → ℕ → Option Outcome
  checkpoint_refusal d pos = then_some (is_beyond d pos) (outcome.BeyondWindow (low_of self d))

  -- ---- VIEW_CHANGE: what it shows, where it is whole and current

  abbrev pub change_refusal : History → ViewChange → Option Outcome
  change_refusal d m = only_where (is_current self d m.view) (unusable (change_fault self m))

  -- ---- NEW_VIEW: its members one by one, then its plan, where it is whole and current

  -- A member is of the NEW_VIEW's view, and its tag verifies.
  abbrev pub is_member : ℕ → ViewChange → Bool
  is_member view m = m.view == view && valid self (stamp_claim (stamped.ViewChange m))

  -- the reason that fails for a member: 10 where it is none
  abbrev pub member_fault : ℕ → ViewChange → Option ℕ
  member_fault view m = if is_member view m then option_map (λ f. f.1) (change_fault self m) else Some 10

  -- the first that fails of the members from an index on
  unfoldable pub members_fault : ℕ → ℕ → List ViewChange → Option Fault
  members_fault view i [] = None
  members_fault view i (m ∷ ms) = option_or (option_map (λ reason. (i, reason)) (member_fault view m)) (members_fault view (i + 1) ms)

  -- It has base, end and digest of the plan.
  abbrev pub announces : NewView → Plan → Bool
  announces m plan = are_of_plan m.base m.end m.plan plan

  -- 255 and 11 where it announces another plan than that of its members
  unfoldable pub new_view_fault : NewView → NewViewBody → Option Fault
  new_view_fault m b = option_or (members_fault m.view 0 b.changes) (then_some (not (announces m (plan_from self b.changes))) (255, 11))

  abbrev pub new_view_refusal : History → NewView → Option Outcome
  new_view_refusal d m = only_where (is_current self d m.view) (unusable (option_and_then (new_view_fault m) (whole_body m.body)))

  -- ---- OPEN: its body, where it is whole and current

  -- The body is that of the plan of the evidence.
  abbrev pub is_body_of : Evidence → OpenBody → Bool
  is_body_of e b = is_plan_body self.shape self.secret (valid self) e.base e.end e.plan b

  abbrev pub opening_fault : Evidence → OpenBody → Option Fault
  opening_fault e b = then_some (not (is_body_of e b)) (0, 8)

  abbrev pub open_refusal : History → Evidence → Body OpenBody → Option Outcome
  open_refusal d e body = only_where (is_current self d e.view) (unusable (option_and_then (opening_fault e) (whole_body body)))

  -- ---- all kinds: of an ENTER and of a JOIN the gate asks all that there is

  abbrev pub kind_refusal : History → StampedMessage → Option Outcome
  kind_refusal d (stamped.Prepare m) = vote_refusal d m.view m.pos m.body
  kind_refusal d (stamped.Commit m) = vote_refusal d m.view m.pos m.body
  kind_refusal d (stamped.Checkpoint m) = checkpoint_refusal d m.pos
  kind_refusal d (stamped.ViewChange m) = change_refusal d m
  kind_refusal d (stamped.NewView m) = new_view_refusal d m
  kind_refusal d (stamped.Enter m) = None
  kind_refusal d (stamped.Open m) = open_refusal d m.evidence m.body
  kind_refusal d (stamped.Join m) = None

  unfoldable pub stamped_refusal : History → StampedMessage → Option Outcome
  stamped_refusal d m = option_or (identifier_refusal self d m) (kind_refusal d m)
