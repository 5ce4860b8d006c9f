-- In each world each host has carried out its rules.
use Rattle.std.proofs.Common.{refl, ◌≡◌, ◌+◌, Bool, true, false, ◌&&◌, subst, arith, option_map, Option, Some, None}
use Rattle.std.specs.Prelude.{nat_le}
use Rattle.std.proofs.lemmas.Bool.{le-leb}
use Rattle.mb_base.specs.Shapes.{host_count, tally}
use Rattle.mb_parts.specs.declared.batch.Batch.{Batch}
use Rattle.mb_model.specs.declared.known.KnownSlot.{KnownSlot}
use Rattle.mb_model.specs.Histories.{History, Identity, view_of, is_open}
use Rattle.mb_model.specs.Stable.{low_of}
use Rattle.mb_model.specs.Positions.{slot_vote, exec_of, slot_in, slot_at, in_window, matching}
use Rattle.mb_model.specs.EnabledRules.{next_rule, IsQuiescent, execute_enabled, rule_where, if_committed, is_committed, Execute}
use Rattle.mb_model.proofs.Options.{or_none}
use Rattle.mb_steps.proofs.StepQuiescent.{begins_quiescent, stays_quiescent}
use Rattle.mb_world_model.specs.World.{self_of}
use Rattle.mb_world_model.specs.WorldSteps.{world}
use Rattle.mb_promise.specs.NothingLeft.{has_vote, ExecutesAtQuorum, StampsCheckpoints, InstallsState}
use Rattle.mb_promise.specs.CarriedOut.{LeavesNoRule, HasCarriedOut, HostsCarryOut}
use Rattle.mb_host_laws.proofs.KeptByEvents.{event_keeps}
use Rattle.mb_world_laws.proofs.KeptByWorlds.{world_keeps}
use Rattle.mb_each_host.proofs.Checkpointed.{begins_checkpointed, checkpoints_kept}
use Rattle.mb_each_host.proofs.Words.{window_is}
use Rattle.mb_each_host.proofs.DueOrders.{orders_requests, commits_next}
use Rattle.mb_each_host.proofs.DueViews.{leaves_view, announces_view, enters_view}
use Rattle.mb_each_host.proofs.DueOpenings.{opens_by_evidence, opens_by_enters, joins_behind, joins_past}
use Rattle.mb_each_host.proofs.DueVotes.{keeps_slots, counts_prepares, counts_commits}
use Rattle.mb_host_laws.proofs.PartsHeld.{IsIncomplete, begins_incomplete, incomplete_kept}
use Rattle.mb_model.proofs.ShapesFit.{shape_fits}

-- ---- of one host: what it means that no rule is next

module _ {S : Type 0} (self : Identity S) (d : History) where
  no_rule : IsQuiescent self d → LeavesNoRule self d
  unfolding next_rule
  no_rule none =
      let a = or_none _ _ none in
      let b = or_none _ _ a.1 in
      let c = or_none _ _ b.1 in
      let e = or_none _ _ c.1 in
      let f = or_none _ _ e.1 in
      let g = or_none _ _ f.1 in
      let h = or_none _ _ g.1 in
      record { change = a.0; announce = b.0; enter = c.0; opening = e.0; join = f.0; commit = g.0; execute = h.0; prepare = h.1 }

  -- The rule for the slot behind the last executed position is enabled, once the view is open and f+1 votes are there.
  none_for : (b : Batch) (batch : Option Batch) (open_view kept voted : Bool) → batch ≡ Some b → open_view ≡ true → kept ≡ true → voted ≡ true
      → rule_where (open_view && kept) (rule_where voted (option_map (Execute (exec_of d + 1)) batch)) ≡ None → ⊥
  none_for b None open_view kept voted is opened not_below met none = absurd cc
  none_for b (Some q) false kept voted is opened not_below met none = absurd cc
  none_for b (Some q) true false voted is opened not_below met none = absurd cc
  none_for b (Some q) true true false is opened not_below met none = absurd cc
  none_for b (Some q) true true true is opened not_below met none = absurd cc

  executes : LeavesNoRule self d → ExecutesAtQuorum self d
  unfolding execute_enabled
  executes none k b opened there met =
      let inside = window_is self d (exec_of d + 1) there.0.0 in
      let above = there.0.0.above in
      let kept : nat_le (low_of self d) (exec_of d) ≡ true = le-leb (low_of self d) (exec_of d) (omega (arith, above)) in
      let found : rule_where (is_open self d && nat_le (low_of self d) (exec_of d)) (if_committed self d (exec_of d + 1) (Some k)) ≡ None =
      subst (λ (x : Option KnownSlot). rule_where (is_open self d && nat_le (low_of self d) (exec_of d)) (if_committed self d (exec_of d + 1) x) ≡ None) (slot_is inside there.0.1) none.execute in
      none_for b k.batch (is_open self d) (nat_le (low_of self d) (exec_of d)) (is_committed self d (exec_of d + 1) k) there.1 opened kept (le-leb _ _ (omega (arith, met, votes inside k))) found where
        slot_is : in_window self d (exec_of d + 1) ≡ true → slot_in self d (view_of self d) (exec_of d + 1) ≡ Some k → slot_at self d (exec_of d + 1) ≡ Some k
        slot_is inside is = rw inside is

        votes : in_window self d (exec_of d + 1) ≡ true → (k : KnownSlot) → matching self d (exec_of d + 1) (slot_vote k) ≡ tally (has_vote self d (exec_of d + 1) (slot_vote k)) (host_count self.shape)
        votes inside k = rw inside refl

  carried_out : IsQuiescent self d → StampsCheckpoints self d → InstallsState self d → HasCarriedOut self d
  carried_out none all parts = let rules = no_rule none in record {
    rules = rules;
    orders = orders_requests self d rules.prepare;
    commits = commits_next self d rules.commit;
    executes = executes rules;
    checkpoints = all;
    leaves = leaves_view self d rules.change;
    announces = announces_view self d rules.announce;
    enters = enters_view self d rules.enter;
    opens = opens_by_evidence self d rules.opening;
    opens_by_enters = opens_by_enters self d rules.opening;
    joins_behind = joins_behind self d rules.join;
    joins_past = joins_past self d rules.join;
    installs = parts;
    keeps_slots = keeps_slots self d;
    counts_prepares = counts_prepares self d;
    counts_commits = counts_commits self d;
  }

pub hosts_carry_out : (S : Type 0) → HostsCarryOut S
hosts_carry_out S system k h = carried_out (self_of system h) ((world system k).histories h) quiescent checkpointed incomplete where
  quiescent : IsQuiescent (self_of system h) ((world system k).histories h)
  quiescent = world_keeps system (λ g d. IsQuiescent (self_of system g) d) (λ g. begins_quiescent (self_of system g))
      (λ g d e q. stays_quiescent (self_of system g) (shape_fits system.schedule.shape) d e q) k h

  checkpointed : StampsCheckpoints (self_of system h) ((world system k).histories h)
  checkpointed = world_keeps system (λ g d. StampsCheckpoints (self_of system g) d) (λ g. begins_checkpointed (self_of system g))
      (λ g d e all. event_keeps (self_of system g) (λ x. StampsCheckpoints (self_of system g) x) (checkpoints_kept (self_of system g)) d e all) k h

  incomplete : InstallsState (self_of system h) ((world system k).histories h)
  incomplete = (world_keeps system (λ g d. IsIncomplete (self_of system g) d) (λ g. begins_incomplete (self_of system g))
      (λ g d e x. event_keeps (self_of system g) (λ y. IsIncomplete (self_of system g) y) (incomplete_kept (self_of system g)) d e x) k h).missing
