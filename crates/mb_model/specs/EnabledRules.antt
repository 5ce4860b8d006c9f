-- What follows in the same step: eight rules, of which the first that is enabled is next. Each asks for room in the own log for what it
-- stamps; a rule without room is not enabled, and later ones may be.
use Rattle.std.specs.Prelude.{◌≡◌, ℕ, ◌+◌, Bool, ◌&&◌, ◌||◌, not, List, [], ◌∷◌, map, filter_map, max, nat_lt, nat_le, ◌==◌, Option, Some, None, if◌then◌else◌, option_map, option_and_then}
use Rattle.std.specs.List.{range_with_len}
use Rattle.std.specs.Option.{option_or}
use Rattle.mb_base.specs.Limits.{ahead_limit}
use Rattle.mb_base.specs.Shapes.{span, quorum, host_count, client_count}
use Rattle.mb_parts.specs.declared.request.Request.{Request}
use Rattle.mb_parts.specs.declared.batch.Batch.{Batch}
use Rattle.mb_parts.specs.declared.certificates.Evidence.{Evidence}
use Rattle.mb_parts.specs.Ordered.{end_of}
use Rattle.mb_msg.specs.declared.change.ViewChange.{ViewChange}
use Rattle.mb_msg.specs.declared.change.NewView.{NewView}
use Rattle.mb_msg.specs.declared.change.Plan.{Plan}
use Rattle.mb_model.specs.declared.known.KnownSlot.{KnownSlot}
use Rattle.mb_model.specs.Batches.{first_batch}
use Rattle.mb_model.specs.Plans.{are_of_plan}
use Rattle.mb_model.specs.Histories.{History, Identity, here, view_of, is_open, is_entered, is_changing, is_primary}
use Rattle.mb_model.specs.Held.{quorum_wish, chosen, new_view_of, new_view_in_view, evidence_view, evidence_of, evidence_for, plan_at}
use Rattle.mb_model.specs.Stable.{low_of}
use Rattle.mb_model.specs.OwnLog.{has_room, has_other_room}
use Rattle.mb_model.specs.Positions.{slot_vote, exec_of, slot_at, in_window, matching}
use Rattle.mb_model.specs.Execution.{pending, if_above}

-- what is to be done, with what it is done
pub data Rule : Type 0 where
  ChangeView : ℕ → Rule  -- stamp VIEW_CHANGE to a view
  Announce : List ViewChange → Rule  -- stamp NEW_VIEW of these
  Enter : NewView → Rule  -- stamp the ENTER that answers it
  Open : Evidence → Plan → Rule  -- stamp OPEN with them
  Join : Rule  -- stamp JOIN at the stable position
  Commit : ℕ → KnownSlot → Batch → Rule  -- stamp COMMIT of the slot of a position
  Execute : ℕ → Batch → Rule  -- execute a batch at a position
  Prepare : ℕ → Batch → Rule  -- stamp PREPARE of a batch at a position

abbrev pub rule_where : Bool → Option Rule → Option Rule
rule_where test r = if test then r else None

-- the view of a NEW_VIEW, 0 where there is none
abbrev pub new_view_number : Option NewView → ℕ
new_view_number None = 0
new_view_number (Some n) = n.view

-- Evidence is of a plan: it names its base, end and digest.
abbrev pub is_evidence_of : Evidence → Plan → Bool
is_evidence_of e plan = are_of_plan e.base e.end e.plan plan

abbrev pub open_with : Option Evidence → Option Plan → Option Rule
open_with (Some e) (Some plan) = rule_where (is_evidence_of e plan) (Some (Open e plan))
open_with e plan = None

abbrev pub with_batch : (KnownSlot → Batch → Rule) → Option KnownSlot → Option Rule
with_batch f None = None
with_batch f (Some k) = option_map (f k) k.batch

-- the number of a request, where it is this client's, and 0 where it is not
abbrev pub number_of : ℕ → Request → ℕ
number_of c r = if r.client == c then r.seq else 0

-- the greatest of these, 0 where there is none
unfoldable pub greatest : List ℕ → ℕ
greatest [] = 0
greatest (n ∷ ns) = max n (greatest ns)

-- the greatest number of a client's requests in a batch, 0 where there is none
abbrev pub greatest_in : ℕ → Option Batch → ℕ
greatest_in c None = 0
greatest_in c (Some b) = greatest (map (number_of c) b.requests)

module _ {S : Type 0} (self : Identity S) where
  -- ---- a greater view is asked for by f+1 hosts, or announced, or f+1 hosts are known to take part in the change to it

  -- the greatest of them
  abbrev pub target : History → ℕ
  target d = max (quorum_wish self d (host_count self.shape)) (max (new_view_number (new_view_of self d)) (evidence_view (evidence_of self d)))

  unfoldable pub change_enabled : History → Option Rule
  change_enabled d = rule_where (nat_lt (view_of self d) (target d) && has_other_room self d) (Some (ChangeView (target d)))

  -- ---- the primary that left the view before has f+1 VIEW_CHANGEs

  unfoldable pub announce_enabled : History → Option Rule
  announce_enabled d = rule_where (is_primary self d && (is_changing self d && has_other_room self d)) (option_map Announce (chosen self d (view_of self d)))

  -- ---- a backup that left the view before has the NEW_VIEW

  unfoldable pub enter_enabled : History → Option Rule
  enter_enabled d = rule_where (not (is_primary self d) && (is_changing self d && has_other_room self d)) (option_map Enter (new_view_in_view (view_of self d) (new_view_of self d)))

  -- ---- a host whose view is not open has its plan, and evidence of this plan; the primary only behind its NEW_VIEW

  abbrev pub may_open : History → Bool
  may_open d = nat_lt 0 (view_of self d) && (not (is_open self d) && (not (is_primary self d) || is_entered self d))

  unfoldable pub open_enabled : History → Option Rule
  open_enabled d = rule_where (may_open d && has_other_room self d) (open_with (evidence_for self d (view_of self d)) (plan_at self d (view_of self d)))

  -- ---- what is stable and executed reaches beyond what was ordered in the view

  -- Evidence of the view is held. View 0 needs none.
  abbrev pub has_evidence : History → Bool
  has_evidence d = view_of self d == 0 || evidence_view (evidence_of self d) == view_of self d

  -- The view is open, and its last position fell behind the stable one.
  abbrev pub lags_behind : History → Bool
  lags_behind d = is_open self d && nat_lt (here self d).last (low_of self d)

  -- The view is not open, and all of its plan is at or below the stable position; the primary only behind its NEW_VIEW.
  abbrev pub is_past_plan : History → Bool
  is_past_plan d = nat_lt 0 (view_of self d) && (not (is_open self d) && (not (is_primary self d && is_changing self d)
      && (nat_lt 0 (low_of self d) && nat_le (end_of (evidence_of self d)) (low_of self d))))

  unfoldable pub join_enabled : History → Option Rule
  join_enabled d = rule_where ((lags_behind d || is_past_plan d) && (has_evidence d && (nat_le (low_of self d) (exec_of d) && has_other_room self d))) (Some Join)

  -- ---- a backup has the slot of the next position, with its batch

  -- the position behind the last one
  abbrev pub next_position : History → ℕ
  next_position d = (here self d).last + 1

  unfoldable pub commit_enabled : History → Option Rule
  commit_enabled d = rule_where (is_open self d && (not (is_primary self d) && has_room self d)) (with_batch (Commit (next_position d)) (slot_at self d (next_position d)))

  -- ---- f+1 votes are for the slot behind the last executed one; this needs no room

  abbrev pub is_committed : History → ℕ → KnownSlot → Bool
  is_committed d pos k = nat_le (quorum self.shape) (matching self d pos (slot_vote k))

  abbrev pub if_committed : History → ℕ → Option KnownSlot → Option Rule
  if_committed d pos None = None
  if_committed d pos (Some k) = rule_where (is_committed d pos k) (option_map (Execute pos) k.batch)

  unfoldable pub execute_enabled : History → Option Rule
  execute_enabled d = rule_where (is_open self d && nat_le (low_of self d) (exec_of d)) (if_committed d (exec_of d + 1) (slot_at self d (exec_of d + 1)))

  -- ---- the primary has requests to order, and fewer than four positions are ordered and not executed

  -- the greatest number of a client's requests in the slot of a position
  abbrev pub number_in_slot : History → ℕ → ℕ → ℕ
  number_in_slot d c p = greatest_in c (option_and_then (λ k. k.batch) (slot_at self d p))

  -- the greatest of them at these positions
  unfoldable pub greatest_in_slots : History → ℕ → List ℕ → ℕ
  greatest_in_slots d c positions = greatest (map (number_in_slot d c) positions)

  -- the positions of the window
  abbrev pub window : History → List ℕ
  window d = range_with_len (low_of self d + 1) (span self.shape)

  -- a client's pending request, where it isn't ordered in this view
  abbrev pub unordered_of : History → ℕ → Option Request
  unordered_of d c = if_above (greatest_in_slots d c (window d)) (pending self d c)

  -- those of all clients, from the lowest on
  unfoldable pub unordered : History → List Request
  unordered d = filter_map (unordered_of d) (range_with_len 0 (client_count self.shape))

  abbrev pub may_order : History → Bool
  may_order d = is_open self d && (is_primary self d && (in_window self d (next_position d) && (nat_lt (here self d).last (exec_of d + ahead_limit) && has_room self d)))

  unfoldable pub prepare_enabled : History → Option Rule
  prepare_enabled d = rule_where (may_order d) (option_map (Prepare (next_position d)) (first_batch (unordered d)))

  -- ---- the first that is enabled

  unfoldable pub next_rule : History → Option Rule
  next_rule d = option_or (change_enabled d) (option_or (announce_enabled d) (option_or (enter_enabled d) (option_or (open_enabled d)
      (option_or (join_enabled d) (option_or (commit_enabled d) (option_or (execute_enabled d) (prepare_enabled d)))))))

  -- None is enabled: nothing is left undone.
  abbrev pub IsQuiescent : History → Type 0
  IsQuiescent d = next_rule d ≡ None
