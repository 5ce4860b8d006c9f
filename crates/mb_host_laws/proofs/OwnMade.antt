-- What each rule makes to be stamped has the values of the grammar, and its certificates are good: they are those of what the host holds.
use Rattle.std.proofs.Common.{◌≡◌, ℕ, zero, suc, ◌+◌, ◌^◌, ◌<◌, ◌≤◌, Bool, true, false, ◌&&◌, ◌||◌, List, length, refl, sym, ap, subst, ◌∙◌, inl, inr, ◌⊎◌, arith, Option, Some, None}
use Rattle.std.specs.Prelude.{◌==◌, not, nat_lt, nat_le, option_map, if◌then◌else◌}
use Rattle.std.specs.List.{list_any}
use Rattle.std.proofs.lemmas.Bool.{and_parts, both_ways, or_cases, cases_Bool, eqb-true, ltb-true, leb-true, not-true}
use Rattle.sha2.proofs.Facts256.{length-sha256}
use Rattle.mb_base.specs.Shapes.{Bytes}
use Rattle.mb_usig.specs.Tags.{same_bytes}
use Rattle.mb_parts.specs.declared.batch.Batch.{Batch}
use Rattle.mb_parts.specs.declared.certificates.Evidence.{Evidence}
use Rattle.mb_parts.specs.declared.certificates.StableCert.{StableCert}
use Rattle.mb_parts.specs.Bares.{batch_digest, Bare}
use Rattle.mb_parts.specs.Bares as bare
use Rattle.mb_parts.specs.Claims.{Claim, inner_claims, stable_claims, evidence_claims, prepare_claim}
use Rattle.mb_parts.specs.Fits.{IsPosition, FitsBare, FitsJoined}
use Rattle.mb_parts.specs.Ordered.{initial_floor, is_opened, is_opening, is_entered as entered_in, current_view, phase_from, phase_is_open, last_position}
use Rattle.mb_msg.specs.declared.message.Body.TheVariants.{Whole}
use Rattle.mb_msg.specs.declared.change.NewViewBody.{NewViewBody}
use Rattle.mb_msg.specs.declared.change.OpenBody.{OpenBody}
use Rattle.mb_msg.specs.declared.change.NewView.{NewView}
use Rattle.mb_msg.specs.declared.change.Plan.{Plan}
use Rattle.mb_msg.specs.declared.change.ViewChange.{ViewChange}
use Rattle.mb_msg.specs.declared.stamped.Stamped.{Stamped as StampedMessage}
use Rattle.mb_msg.specs.Plans.{plan_end, plan_digest}
use Rattle.mb_msg.specs.Stamps.{bare_of}
use Rattle.mb_model.specs.declared.known.KnownSlot.{KnownSlot}
use Rattle.mb_model.specs.Batches.{first_batch}
use Rattle.mb_model.specs.EnabledRules.{may_order, ChangeView, Announce, Enter, Open, Join, Commit, Prepare, target, change_enabled, announce_enabled, enter_enabled, open_enabled, join_enabled, commit_enabled, prepare_enabled, next_position, with_batch, unordered, may_open, open_with, has_evidence, lags_behind, is_past_plan}
use Rattle.mb_model.specs.Held.{evidence_of, evidence_view, evidence_for, evidence_in, new_view_of, new_view_in_view, plan_held, plan_at, plan_of_view, plan_from}
use Rattle.mb_model.specs.Histories.{History, Identity, said, here, view_of, is_open, is_entered, is_changing, is_primary}
use Rattle.mb_model.specs.Making.{prepare, commit, view_change, new_view, enter, opening, join}
use Rattle.mb_model.specs.OwnLog.{has_room, has_other_room, proof_of}
use Rattle.mb_model.specs.Positions.{slot_in, slot_at, in_window, position_limit}
use Rattle.mb_model.specs.Stable.{stable_of, low_of}
use Rattle.mb_model.proofs.Options.{if_some, map_some}
use Rattle.mb_steps.specs.Arises.{Arises}
use Rattle.mb_steps.proofs.StepHeldEvidence.{announce_seen, open_seen}
use Rattle.mb_steps.proofs.StepOwnList.{stands_here}
use Rattle.mb_steps.proofs.StepOwnStamped.{steady}
use Rattle.mb_steps.proofs.StepPlanBases.{all_append}
use Rattle.mb_host_laws.proofs.Cases.{same_whole, some_is}
use Rattle.mb_host_laws.proofs.Found.{opened_plan, in_view, commit_shape}
use Rattle.mb_host_laws.specs.Rests.{Each}
use Rattle.mb_host_laws.proofs.OwnKnown.{AllGood, GoodStable, GoodEvidence, GoodChange, GoodBody, Known}
use Rattle.mb_host_laws.proofs.HeldViews.{new_view_good, evidence_good, evidence_for_good}
use Rattle.mb_host_laws.proofs.HeldStable.{held_plan_good, stable_good}
use Rattle.mb_host_laws.proofs.OwnViews.{view_is, view_low, target_low}
use Rattle.mb_host_laws.proofs.OwnSlots.{GoodSlot, IsBehind, slot_good}
use Rattle.mb_host_laws.proofs.OwnLogs.{shown_good}
use Rattle.mb_host_laws.proofs.OwnPlanGood.{chosen_base, plan_short, plan_low}

module _ {S : Type 0} (self : Identity S) (Good : Claim → Type 0) (Text : Bytes → Type 0) where
  abbrev AllKnown : History → Type 0
  AllKnown d = Each (Known self Good Text) d

  -- what is to be stamped
  pub record Made (x : StampedMessage) : Type 0 where
    pub bare : FitsBare self.shape (bare_of x)
    pub inner : AllGood self Good Text (inner_claims self.shape (bare_of x))
    pub body : GoodBody self Good Text x

  -- View 0 is open from the start.
  opened_zero : (l : List Bare) → is_opened initial_floor l 0 ≡ true
  unfolding is_opened
  opened_zero l = go (list_any (is_opening 0) l) where
    go : (b : Bool) → (b || true) ≡ true
    go true = refl
    go false = refl

  from_true : (x y : Bool) → x ≡ true → phase_is_open (phase_from x y) ≡ true
  from_true true y e = refl
  from_true false y e = absurd cc

  -- the last position of the host's view
  last_is : (d : History) → Arises self d → (here self d).last ≡ last_position initial_floor (said d) (view_of self d)
  last_is d a = ap (λ f. f.last) (stands_here self d (steady self d a).list.own) ∙ ap (last_position initial_floor (said d)) (sym (view_is self Good Text d a))

  open_zero : (d : History) → Arises self d → view_of self d ≡ 0 → is_open self d ≡ true
  open_zero d a e =
      let v : current_view initial_floor (said d) ≡ 0 = sym (view_is self Good Text d a) ∙ e in
      ap (λ f. phase_is_open f.phase) (stands_here self d (steady self d a).list.own) ∙ from_true (is_opened initial_floor (said d) (current_view initial_floor (said d))) (entered_in initial_floor (said d) (current_view initial_floor (said d)))
      (subst (λ (u : ℕ). is_opened initial_floor (said d) u ≡ true) (sym v) (opened_zero (said d)))

  later : (d : History) → Arises self d → is_open self d ≡ false → 1 ≤ view_of self d
  later d a shut = go (view_of self d) refl where
    go : (v : ℕ) → view_of self d ≡ v → 1 ≤ view_of self d
    go zero e = absurd (both_ways (is_open self d) shut (open_zero d a e))
    go (suc v) e = omega (arith, e)

  -- ---- VIEW_CHANGE

  pub made_change : (d : History) → Arises self d → AllKnown d → (view : ℕ) → change_enabled self d ≡ Some (ChangeView view) → Made (view_change self d view)
  unfolding change_enabled
  made_change d a k view e =
      let t = if_some (nat_lt (view_of self d) (target self d) && has_other_room self d) (Some (ChangeView (target self d))) (ChangeView view) e in
      let above : view_of self d < target self d = ltb-true (view_of self d) (target self d) (and_parts (nat_lt (view_of self d) (target self d)) (has_other_room self d) t.0).0 in
      let same : target self d ≡ view = cc (t.1) in
      let low = target_low self Good Text d a k in
      record {
        bare = ((omega (arith, above, same), subst (λ (v : ℕ). v < 2 ^ 63) same low), length-sha256 _);
        inner = tt;
        body = λ b is. subst (GoodChange self Good Text) (same_whole (proof_of self d) b is) (shown_good self Good Text d k);
      }

  -- ---- NEW_VIEW

  pub made_announce : (d : History) → Arises self d → AllKnown d → (changes : List ViewChange) → announce_enabled self d ≡ Some (Announce changes) → Made (new_view self d changes)
  unfolding announce_enabled
  made_announce d a k changes e =
      let seen = announce_seen self d changes e in
      let t = if_some (is_primary self d && (is_changing self d && has_other_room self d)) _ (Announce changes) e in
      let b = and_parts (is_changing self d) (has_other_room self d) (and_parts (is_primary self d) (is_changing self d && has_other_room self d) t.0).1 in
      let shut : is_open self d ≡ false = not-true (is_open self d) (and_parts (not (is_open self d)) (not (is_entered self d)) b.0).0 in
      let base : GoodStable self Good Text (plan_from self changes).base = chosen_base self Good Text d k (view_of self d) changes seen.1 in
      record {
        bare = ((later d a shut, view_low self Good Text d a k), (base.fits.pos, ((omega arith, (plan_short self Good Text changes, plan_low self Good Text d k (view_of self d) changes seen.1)), (length-sha256 _, length-sha256 _))));
        inner = tt;
        body = λ b is. subst (λ (l : NewViewBody). GoodStable self Good Text (plan_from self l.changes).base) (same_whole (record { changes = changes }) b is) base;
      }

  -- ---- ENTER

  pub made_enter : (d : History) → AllKnown d → (n : NewView) → enter_enabled self d ≡ Some (Enter n) → Made (enter n)
  unfolding enter_enabled
  made_enter d k n e =
      let t = if_some (not (is_primary self d) && (is_changing self d && has_other_room self d)) (option_map Enter (new_view_in_view (view_of self d) (new_view_of self d))) (Enter n) e in
      let m = map_some Enter (new_view_in_view (view_of self d) (new_view_of self d)) (Enter n) t.1 in
      let same : m.0 ≡ n = cc (m.2) in
      let held : new_view_of self d ≡ Some n = in_view (view_of self d) (new_view_of self d) m.0 m.1 ∙ ap (λ (y : NewView). Some y) same in
      let g = new_view_good self Good Text d k n held in
      record { bare = (g.view, (g.ui.counter, g.plan)); inner = tt; body = tt }

  -- ---- OPEN

  held_base : (d : History) → AllKnown d → (v : ℕ) (plan : Plan) (x : Option (ℕ × Plan)) → plan_held self d ≡ x → plan_of_view v x ≡ Some plan → GoodStable self Good Text plan.base
  held_base d k v plan None is e = absurd cc
  held_base d k v plan (Some q) is e = subst (λ (p : Plan). GoodStable self Good Text p.base) (some_is q.1 plan (if_some (q.0 == v) (Some q.1) plan e).1) (held_plan_good self Good Text d k q is)

  pub made_open : (d : History) → Arises self d → AllKnown d → (e : Evidence) (plan : Plan) → open_enabled self d ≡ Some (Open e plan) → Made (opening e plan)
  unfolding open_enabled
  made_open d a k e plan o =
      let seen = open_seen self d e plan o in
      let t = if_some (may_open self d && has_other_room self d) (open_with (evidence_for self d (view_of self d)) (plan_at self d (view_of self d))) (Open e plan) o in
      let at : plan_at self d (view_of self d) ≡ Some plan = opened_plan (evidence_for self d (view_of self d)) (plan_at self d (view_of self d)) e plan t.1 in
      let g : GoodEvidence self Good Text e = evidence_for_good self Good Text d a k (view_of self d) e seen.0 in
      let base : GoodStable self Good Text plan.base = held_base d k (view_of self d) plan (plan_held self d) refl at in
      let c = and_parts (e.base == plan.base.pos) (e.end == plan_end plan && same_bytes e.plan (plan_digest plan)) seen.1 in
      let f = and_parts (e.end == plan_end plan) (same_bytes e.plan (plan_digest plan)) c.1 in
      let ends : e.base + length plan.batches ≡ e.end = omega (arith, eqb-true e.base plan.base.pos c.0, eqb-true e.end (plan_end plan) f.0) in
      record {
        bare = (g.fits, length-sha256 _);
        inner = g.claims;
        body = (base, λ b is. subst (λ (x : OpenBody). e.base + length x.batches ≡ e.end) (whole_open (record { stable = plan.base; batches = plan.batches }) b is) ends);
      } where
        whole_open : (x y : OpenBody) → Whole x ≡ Whole y → x ≡ y
        whole_open x y e = cc

  -- ---- JOIN

  joined : (v : ℕ) (x : Option Evidence) → ((e : Evidence) → x ≡ Some e → GoodEvidence self Good Text e) → (v == 0 || evidence_view x == v) ≡ true → (c : StableCert) → GoodStable self Good Text c
      → FitsJoined self.shape v (if v == 0 then None else evidence_in v x) × AllGood self Good Text (inner_claims self.shape (bare.Join v (if v == 0 then None else evidence_in v x) c))
  joined v x good has c stable = elim (cases_Bool (v == 0)) [
    | inl none ↦ rw none (eqb-true v 0 none, stable.claims)
    | inr some ↦ rw some (go x good (rw some at has))
  ] where
    go : (y : Option Evidence) → ((e : Evidence) → y ≡ Some e → GoodEvidence self Good Text e) → (evidence_view y == v) ≡ true → FitsJoined self.shape v (evidence_in v y) × AllGood self Good Text (inner_claims self.shape (bare.Join v (evidence_in v y) c))
    go None good has = (sym (eqb-true 0 v has), stable.claims)
    go (Some e) good has = let g = good e refl in rw has ((g.fits, eqb-true e.view v has), all_append Good (evidence_claims self.shape e) (stable_claims c) g.claims stable.claims)

  join_above : (d : History) → (lags_behind self d || is_past_plan self d) ≡ true → 1 ≤ low_of self d
  join_above d e = elim (or_cases (lags_behind self d) (is_past_plan self d) e) [
    | inl lags ↦
        let b = and_parts (is_open self d) (nat_lt (here self d).last (low_of self d)) lags in
        omega (arith, ltb-true (here self d).last (low_of self d) b.1)
    | inr past ↦
        let b = and_parts (nat_lt 0 (view_of self d)) _ past in
        let c = and_parts (not (is_open self d)) _ b.1 in
        let f = and_parts (not (is_primary self d && is_changing self d)) _ c.1 in
        let g = and_parts (nat_lt 0 (low_of self d)) _ f.1 in
        omega (arith, ltb-true 0 (low_of self d) g.0)
  ]

  pub made_join : (d : History) → Arises self d → AllKnown d → join_enabled self d ≡ Some Join → Made (join self d)
  unfolding join_enabled
  made_join d a k e =
      let t = if_some ((lags_behind self d || is_past_plan self d) && (has_evidence self d && (nat_le (low_of self d) _ && has_other_room self d))) (Some Join) Join e in
      let b = and_parts (lags_behind self d || is_past_plan self d) (has_evidence self d && (nat_le (low_of self d) _ && has_other_room self d)) t.0 in
      let has = (and_parts (has_evidence self d) _ b.1).0 in
      let stable = stable_good self Good Text d k in
      let j = joined (view_of self d) (evidence_of self d) (λ e is. evidence_good self Good Text d k e is) has (stable_of self d) stable in
      record { bare = (view_low self Good Text d a k, (j.0, (stable.fits, join_above d b.0))); inner = j.1; body = tt }

  -- ---- COMMIT, PREPARE

  pub windowed : (d : History) (p : ℕ) → in_window self d p ≡ true → IsPosition p
  windowed d p e =
      let b = and_parts (nat_lt (low_of self d) p) _ e in
      let c = and_parts (nat_le p _) (nat_le p position_limit) b.1 in
      (omega (arith, ltb-true (low_of self d) p b.0), omega (arith, leb-true p position_limit c.1))

  pub made_commit : (d : History) → Arises self d → AllKnown d → (p : ℕ) (s : KnownSlot) (r : Batch) → commit_enabled self d ≡ Some (Commit p s r) → Made (commit self d p s r)
  unfolding commit_enabled
  made_commit d a k p s r e =
      let t = if_some (is_open self d && (not (is_primary self d) && has_room self d)) (with_batch (Commit (next_position self d)) (slot_at self d (next_position self d))) (Commit p s r) e in
      let m = commit_shape (next_position self d) (slot_at self d (next_position self d)) p s r t.1 in
      let w = if_some (in_window self d (next_position self d)) (slot_in self d (view_of self d) (next_position self d)) s m.1 in
      let g : GoodSlot self Good Text (said d) (view_of self d) p s = slot_good self Good Text d a k (view_of self d) p s (subst (λ (q : ℕ). slot_in self d (view_of self d) q ≡ Some s) m.0 w.1) in
      let named : s.digest ≡ batch_digest r = sym (g.named r m.2) in
      record {
        bare = (view_low self Good Text d a k, (subst IsPosition m.0 (windowed d (next_position self d) w.0), (g.counter, (g.cert, length-sha256 _))));
        inner = (subst (λ (x : Bytes). Good (prepare_claim self.shape (view_of self d) p s.counter s.cert x)) named (ahead g.from m.0), tt);
        body = tt;
      } where
        ahead : Good (prepare_claim self.shape (view_of self d) p s.counter s.cert s.digest) ⊎ IsBehind self (said d) (view_of self d) p → next_position self d ≡ p → Good (prepare_claim self.shape (view_of self d) p s.counter s.cert s.digest)
        ahead (inl good) next = good
        ahead (inr b) next = absurd (omega (arith, next, b.1, last_is d a))

  pub made_prepare : (d : History) → Arises self d → AllKnown d → (p : ℕ) (b : Batch) → prepare_enabled self d ≡ Some (Prepare p b) → Made (prepare self d p b)
  unfolding prepare_enabled
  made_prepare d a k p r e =
      let t = if_some (may_order self d) (option_map (Prepare (next_position self d)) (first_batch (unordered self d))) (Prepare p r) e in
      let b = and_parts (is_open self d) _ t.0 in
      let c = and_parts (is_primary self d) _ b.1 in
      let f = and_parts (in_window self d (next_position self d)) _ c.1 in
      let m = map_some (Prepare (next_position self d)) (first_batch (unordered self d)) (Prepare p r) t.1 in
      let place : next_position self d ≡ p = cc (m.2) in
      record { bare = (view_low self Good Text d a k, (subst IsPosition place (windowed d (next_position self d) f.0), length-sha256 _)); inner = tt; body = tt }
