-- The VIEW_CHANGEs that a primary chooses, and the evidence that a host can show for a view, of the searches that a table stands for.
use Rattle.std.specs.Prelude.{ℕ, ◌==◌, Bool, false, List, length, map, take, filter, filter_map, find, nat_le, Option, Some, None, if◌then◌else◌, option_and_then}
use Rattle.std.specs.List.{range_with_len}
use Rattle.std.specs.Option.{option_or}
use Rattle.mb_base.specs.Shapes.{max_faults, quorum, host_count}
use Rattle.mb_base.specs.declared.shape.Shape.{Shape}
use Rattle.mb_parts.specs.declared.certificates.Evidence.{Evidence}
use Rattle.mb_msg.specs.declared.change.ViewChange.{ViewChange}
use Rattle.mb_msg.specs.declared.change.NewView.{NewView}
use Rattle.mb_msg.specs.declared.change.Enter.{Enter}
use Rattle.mb_msg.specs.declared.change.Plan.{Plan}
use Rattle.mb_msg.specs.Bodies.{body_digest}
use Rattle.mb_msg.specs.Spelling.{new_view_body_bytes}
use Rattle.mb_model.specs.Held.{evidence_in, new_view_in_view, answers, as_member, plan_of_view}
use Rattle.mb_model.specs.EnabledRules.{is_evidence_of}
use Rattle.mb_change.specs.Searches.{Searches}

-- those to a view, in the order of arrival
abbrev pub changes_to : ℕ → List ViewChange → List ViewChange
changes_to view changes = filter (λ c. c.view == view) changes

-- that of a host
abbrev pub change_of : ℕ → List ViewChange → Option ViewChange
change_of h changes = find (λ c. c.ui.host == h) changes

-- an ENTER, where it answers a NEW_VIEW
abbrev pub answer_in : NewView → Option Enter → Option Enter
answer_in n None = None
answer_in n (Some m) = if answers n m then Some m else None

-- Both are there, and the evidence is that of the plan.
abbrev pub is_of_plan : Option Evidence → Option Plan → Bool
is_of_plan (Some e) (Some plan) = is_evidence_of e plan
is_of_plan e plan = false

module _ (shape : Shape) where
  abbrev pub by_rising_host : List ViewChange → List ViewChange
  by_rising_host changes = filter_map (λ h. change_of h changes) (range_with_len 0 (host_count shape))

  -- the first f+1, by rising host
  abbrev pub first_quorum : List ViewChange → Option (List ViewChange)
  first_quorum changes = if nat_le (quorum shape) (length changes) then Some (by_rising_host (take (quorum shape) changes)) else None

  -- of those to a view
  abbrev pub chosen : ℕ → List ViewChange → Option (List ViewChange)
  chosen view changes = first_quorum (changes_to view changes)

  -- the last ENTERs of the hosts that answer a NEW_VIEW, by rising host
  abbrev pub enters_for : (ℕ → Option Enter) → NewView → List Enter
  enters_for enter n = filter (answers n) (filter_map enter (range_with_len 0 (host_count shape)))

  -- of a NEW_VIEW and the ENTERs of the f lowest hosts
  abbrev pub evidence_with : NewView → List Enter → Option Evidence
  evidence_with n enters = if nat_le (max_faults shape) (length enters) then Some (record {
    view = n.view;
    base = n.base;
    end = n.end;
    plan = n.plan;
    body = body_digest new_view_body_bytes n.body;
    counter = n.ui.counter;
    cert = n.ui.cert;
    members = map as_member (take (max_faults shape) enters);
  }) else None

  -- the held one of that view, else that of the held NEW_VIEW of that view
  abbrev pub evidence_for : ℕ → Searches → Option Evidence
  evidence_for view s = option_or (evidence_in view s.evidence) (option_and_then (λ n. evidence_with n (enters_for s.enter n)) (new_view_in_view view s.new_view))

  -- There is evidence for a view, and it is that of the held plan of the view.
  abbrev pub has_evidence_of_plan : ℕ → Searches → Bool
  has_evidence_of_plan view s = is_of_plan (evidence_for view s) (plan_of_view view s.plan)
