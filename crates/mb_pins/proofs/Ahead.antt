-- A PREPARE is stamped where its rule is enabled: so its position is near what was executed. And what waits is fresh, so with room it is ordered.
use Rattle.std.proofs.Common.{◌≡◌, ℕ, ◌+◌, ◌≤◌, ◌<◌, true, ◌∷◌, sym, subst, arith, Some}
use Rattle.std.specs.Prelude.{nat_lt, option_map}
use Rattle.std.proofs.lemmas.Bool.{and_parts, ltb-true, lt-ltb}
use Rattle.mb_base.specs.Limits.{ahead_limit}
use Rattle.mb_parts.specs.declared.batch.Batch.{Batch}
use Rattle.mb_parts.specs.declared.request.Request.{Request}
use Rattle.mb_msg.specs.declared.message.Body.TheVariants.{Whole}
use Rattle.mb_msg.specs.declared.normal.Prepare.{Prepare as PrepareMessage}
use Rattle.mb_msg.specs.declared.stamped.Stamped.TheVariants as stamped
use Rattle.mb_msg.specs.Stamps.{bare_of}
use Rattle.mb_model.specs.Service.{reply_of, is_fresh}
use Rattle.mb_model.specs.Histories.{Stamped, History, Identity, here, view_of, is_open, is_primary}
use Rattle.mb_model.specs.OwnLog.{has_room}
use Rattle.mb_model.specs.Positions.{exec_of, in_window}
use Rattle.mb_model.specs.Execution.{state_of}
use Rattle.mb_model.specs.Sending.{next_ui}
use Rattle.mb_model.specs.Making.{prepare}
use Rattle.mb_model.specs.Batches.{first_batch}
use Rattle.mb_model.specs.EnabledRules.{Prepare, may_order, next_position, prepare_enabled, unordered}
use Rattle.mb_model.proofs.Options.{map_some, if_some}
use Rattle.mb_history_laws.proofs.Executing.{pending_client}
use Rattle.mb_steps.specs.Arises.{Arises, Makes}
use Rattle.mb_promise.specs.NothingLeft.{OrdersRequests}
use Rattle.mb_world_model.specs.World.{self_of}
use Rattle.mb_world_model.specs.WorldSteps.{world}
use Rattle.mb_each_host.proofs.CarriedOut.{hosts_carry_out}
use Rattle.mb_world_laws.proofs.KeptByWorlds.{world_arises}
use Rattle.mb_host_laws.proofs.Moments.{arises_by}
use Rattle.mb_pins.specs.Batches.{Waits}
use Rattle.mb_pins.specs.Ahead.{OrdersAtMostFour, OrdersBelowFour, OrdersFourAhead, HostsOrderFourAhead}
use Rattle.mb_pins.proofs.Batches.{pending_fresh}
use Rattle.mb_pins.proofs.Rooms.{votes_room}

module _ {S : Type 0} (self : Identity S) where
  near_executed : (d : History) (p : ℕ) (b : Batch) → prepare_enabled self d ≡ Some (Prepare p b) → p ≤ exec_of d + 4
  unfolding prepare_enabled
  near_executed d p r e =
      let t = if_some (may_order self d) (option_map (Prepare (next_position self d)) (first_batch (unordered self d))) (Prepare p r) e in
      let a = and_parts (is_open self d) _ t.0 in
      let b = and_parts (is_primary self d) _ a.1 in
      let c = and_parts (in_window self d (next_position self d)) _ b.1 in
      let n = and_parts (nat_lt (here self d).last (exec_of d + ahead_limit)) (has_room self d) c.1 in
      let near = ltb-true (here self d).last (exec_of d + ahead_limit) n.0 in
      let m = map_some (Prepare (next_position self d)) (first_batch (unordered self d)) (Prepare p r) t.1 in
      let place = same_place (next_position self d) m.0 m.2 in
      omega (arith, near, place) where
        same_place : (q : ℕ) (a : Batch) → Prepare q a ≡ Prepare p r → q ≡ p
        same_place q a e = cc

  made_near : (d : History) (m : PrepareMessage) → Makes self d (stamped.Prepare m) → m.pos ≤ exec_of d + 4
  made_near d m (p, b, e, is) =
      let made : PrepareMessage = record { view = view_of self d; pos = p; body = Whole b; ui = next_ui self d (bare_of (prepare self d p b)) } in
      subst (λ (y : PrepareMessage). y.pos ≤ exec_of d + 4) (same made m is) (near_executed d p b e) where
        same : (x y : PrepareMessage) → stamped.Prepare x ≡ stamped.Prepare y → x ≡ y
        same x y e = cc

  module _ (d : History) (arises : Arises self d) where
    orders_most : OrdersAtMostFour self d
    orders_most later before m is = made_near before m (arises_by self later (Stamped (stamped.Prepare m) ∷ before) (subst (λ (h : History). Arises self h) is arises)).0

    waits_fresh : (c : ℕ) (r : Request) → Waits self d c r → is_fresh (state_of self d) r ≡ true
    waits_fresh c r w =
        let above = pending_fresh self d arises c r w.pending in
        lt-ltb _ _ (subst (λ (e : ℕ). (reply_of (state_of self d) e).seq < r.seq) (sym (pending_client self d c r w.pending)) above)

    orders_below : OrdersRequests self d → OrdersBelowFour self d
    orders_below due c r may w = due c r may.opened may.leads (votes_room self d may.room) may.window may.few w.client w.pending (waits_fresh c r w) w.free

  orders_ahead : (d : History) → Arises self d → OrdersRequests self d → OrdersFourAhead self d
  orders_ahead d arises due = record { most = orders_most d arises; below = orders_below d arises due }

pub hosts_order_ahead : (S : Type 0) → HostsOrderFourAhead S
hosts_order_ahead S system k h = let done = hosts_carry_out S system k h in orders_ahead (self_of system h) ((world system k).histories h) (world_arises system k h) done.orders
