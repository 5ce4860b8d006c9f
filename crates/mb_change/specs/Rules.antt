-- The rules of view changes, of the searches that a table stands for: the first that is enabled is due.
use Rattle.std.specs.Prelude.{ℕ, zero, suc, Bool, ◌&&◌, ◌||◌, not, max, nat_lt, nat_le, ◌==◌, Option, is_some, unwrap_or, if◌then◌else◌}
use Rattle.std.specs.Bool.{then_some}
use Rattle.std.specs.Option.{option_or}
use Rattle.mb_base.specs.Shapes.{quorum, host_count, primary, tally}
use Rattle.mb_base.specs.declared.shape.Shape.{Shape}
use Rattle.mb_parts.specs.declared.floor.Floor.{Floor}
use Rattle.mb_parts.specs.Ordered.{end_of, phase_is_open, phase_is_entered}
use Rattle.mb_model.specs.Held.{evidence_view, new_view_in_view}
use Rattle.mb_model.specs.EnabledRules.{new_view_number}
use Rattle.mb_change.specs.declared.due.ChangeDue.{ChangeDue}
use Rattle.mb_change.specs.declared.due.ChangeDue.TheVariants as due
use Rattle.mb_change.specs.Searches.{Searches}
use Rattle.mb_change.specs.Evidences.{chosen, has_evidence_of_plan}

-- ---- wishes

-- f+1 hosts wish for a view that is not below this one
abbrev pub is_wished : Shape → (ℕ → ℕ) → ℕ → Bool
is_wished shape wish view = nat_le (quorum shape) (tally (λ h. nat_le view (wish h)) (host_count shape))

-- of the wishes of the hosts below a number, the greatest that f+1 hosts reach
unfoldable pub quorum_wish : Shape → (ℕ → ℕ) → ℕ → ℕ
quorum_wish shape wish zero = 0
quorum_wish shape wish (suc n) = max (quorum_wish shape wish n) (if is_wished shape wish (wish n) then wish n else 0)

-- ---- rules

-- a host of a system, where it stands, and what it knows
module _ (shape : Shape) (host : ℕ) (at : Floor) (s : Searches) where
  abbrev pub leads : Bool
  leads = host == primary shape at.view

  abbrev pub is_changing : Bool
  is_changing = not (phase_is_open at.phase) && not (phase_is_entered at.phase)

  -- a greater view is asked for by f+1 hosts, or announced, or f+1 hosts are known to take part in the change to it: the greatest of them
  abbrev pub target : ℕ
  target = max (quorum_wish shape s.wish (host_count shape)) (max (new_view_number s.new_view) (evidence_view s.evidence))

  abbrev pub change_due : Option ChangeDue
  change_due = then_some (nat_lt at.view target) (due.ViewChange target)

  -- the primary that left the view before has f+1 VIEW_CHANGEs
  abbrev pub may_announce : Bool
  may_announce = leads && (is_changing && is_some (chosen shape at.view s.changes))

  abbrev pub announce_due : Option ChangeDue
  announce_due = then_some may_announce due.NewView

  -- a backup that left the view before has the NEW_VIEW
  abbrev pub may_enter : Bool
  may_enter = not leads && (is_changing && is_some (new_view_in_view at.view s.new_view))

  abbrev pub enter_due : Option ChangeDue
  enter_due = then_some may_enter due.Enter

  -- a host whose view is not open has its plan, and evidence of this plan; the primary only behind its NEW_VIEW
  abbrev pub may_open : Bool
  may_open = nat_lt 0 at.view && (not (phase_is_open at.phase) && (not leads || phase_is_entered at.phase))

  abbrev pub open_due : Option ChangeDue
  open_due = then_some (may_open && has_evidence_of_plan shape at.view s) due.Open

  -- what is stable, at a position, and executed, up to another, reaches beyond what was ordered in the view
  module _ (exec low : ℕ) where
    -- Evidence of the view is held. View 0 needs none.
    abbrev pub has_evidence : Bool
    has_evidence = at.view == 0 || evidence_view s.evidence == at.view

    -- The view is open, and its last position fell behind the stable one.
    abbrev pub lags_behind : Bool
    lags_behind = phase_is_open at.phase && nat_lt at.last low

    -- The view is not open, and all of its plan is at or below the stable position; the primary only behind its NEW_VIEW.
    abbrev pub is_past_plan : Bool
    is_past_plan = nat_lt 0 at.view && (not (phase_is_open at.phase) && (not (leads && is_changing) && (nat_lt 0 low && nat_le (end_of s.evidence) low)))

    -- It has evidence of the view, and executed up to the stable position.
    abbrev pub may_join : Bool
    may_join = (lags_behind || is_past_plan) && (has_evidence && nat_le low exec)

    abbrev pub join_due : Option ChangeDue
    join_due = then_some may_join (due.Join low)

    -- the first that is due
    abbrev pub first_due : Option ChangeDue
    first_due = option_or change_due (option_or announce_due (option_or enter_due (option_or open_due join_due)))

    -- None is due where there is no room for a message of these kinds.
    unfoldable pub due_with : Bool → ChangeDue
    due_with room = if room then unwrap_or first_due due.Nothing else due.Nothing
