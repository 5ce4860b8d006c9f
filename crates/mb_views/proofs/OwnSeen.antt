-- What a host saw as it stamped a vote or an OPEN: the position was in its window, the batch stood in its slot, or was the first of the requests that
-- waited, and the plan of the OPEN was the one that it held. So no own vote, and no end of an own OPEN, is more than two intervals above the stable
-- position (`own_height`).
use Rattle.std.proofs.Common.{◌≡◌, ℕ, ◌+◌, ◌≤◌, true, ◌&&◌, not, refl, ap, subst, arith, Option, Some, None}
use Rattle.std.specs.Prelude.{◌==◌, option_map, nat_lt, nat_le}
use Rattle.std.proofs.lemmas.Bool.{and_parts, eqb-true, leb-true}
use Rattle.mb_base.specs.Shapes.{span}
use Rattle.mb_parts.specs.declared.batch.Batch.{Batch}
use Rattle.mb_parts.specs.declared.certificates.Evidence.{Evidence}
use Rattle.mb_parts.specs.Fits.{FitsBare}
use Rattle.mb_msg.specs.declared.message.Body.TheVariants.{Whole}
use Rattle.mb_msg.specs.declared.change.Plan.{Plan}
use Rattle.mb_msg.specs.declared.change.Open.{Open as OpenMessage}
use Rattle.mb_msg.specs.declared.normal.Prepare.{Prepare as PrepareMessage}
use Rattle.mb_msg.specs.declared.normal.Commit.{Commit as CommitMessage}
use Rattle.mb_msg.specs.declared.stamped.Stamped.{Stamped as StampedMessage}
use Rattle.mb_msg.specs.declared.stamped.Stamped.TheVariants as stamped
use Rattle.mb_msg.specs.Stamps.{bare_of}
use Rattle.mb_msg.specs.Plans.{plan_end, plan_digest}
use Rattle.mb_usig.specs.Tags.{same_bytes}
use Rattle.mb_model.specs.declared.known.KnownSlot.{KnownSlot}
use Rattle.mb_model.specs.UsableLogs.{height}
use Rattle.mb_model.specs.OwnLog.{as_shown, has_room, has_other_room}
use Rattle.mb_model.specs.Histories.{History, Identity, view_of, is_open, is_primary}
use Rattle.mb_model.specs.Held.{plan_held, plan_of_view, plan_at, evidence_for}
use Rattle.mb_model.specs.Stable.{low_of}
use Rattle.mb_model.specs.Positions.{in_window, slot_in, slot_at, position_limit}
use Rattle.mb_model.specs.Sending.{next_ui}
use Rattle.mb_model.specs.Making.{prepare, commit, opening}
use Rattle.mb_model.specs.Batches.{first_batch}
use Rattle.mb_model.specs.EnabledRules.{may_order, Commit, Prepare, Open, with_batch, next_position, open_with, may_open, commit_enabled, prepare_enabled, open_enabled, unordered}
use Rattle.mb_model.proofs.Options.{map_some, if_some}
use Rattle.mb_steps.specs.Arises.{Makes}
use Rattle.mb_steps.proofs.StepHeldEvidence.{open_seen}
use Rattle.mb_host_laws.proofs.Found.{opened_plan, commit_shape}
use Rattle.mb_views.proofs.PlanMoments.{base_below}

module _ {S : Type 0} (self : Identity S) where
  window_end : (d : History) (p : ℕ) → in_window self d p ≡ true → p ≤ low_of self d + span self.shape
  window_end d p e =
      let a = and_parts (nat_lt (low_of self d) p) _ e in
      let b = and_parts (nat_le p (low_of self d + span self.shape)) (nat_le p position_limit) a.1 in
      leb-true p (low_of self d + span self.shape) b.0

  -- ---- a COMMIT

  pub record SeenCommit (d : History) (m : CommitMessage) : Type 0 where
    pub slot : KnownSlot
    pub batch : Batch
    pub view : m.view ≡ view_of self d
    pub counter : m.counter ≡ slot.counter
    pub cert : m.cert ≡ slot.cert
    pub body : m.body ≡ Whole batch
    pub within : m.pos ≤ low_of self d + span self.shape
    pub known : slot_in self d (view_of self d) m.pos ≡ Some slot
    pub there : slot.batch ≡ Some batch

  commit_found : (d : History) (p : ℕ) (s : KnownSlot) (r : Batch) → commit_enabled self d ≡ Some (Commit p s r) → (p ≤ low_of self d + span self.shape) × (slot_in self d (view_of self d) p ≡ Some s) × (s.batch ≡ Some r)
  unfolding commit_enabled
  commit_found d p s r e =
      let t = if_some (is_open self d && (not (is_primary self d) && has_room self d)) (with_batch (Commit (next_position self d)) (slot_at self d (next_position self d))) (Commit p s r) e in
      let m = commit_shape (next_position self d) (slot_at self d (next_position self d)) p s r t.1 in
      let u = if_some (in_window self d (next_position self d)) (slot_in self d (view_of self d) (next_position self d)) s m.1 in
      (subst (λ (q : ℕ). q ≤ low_of self d + span self.shape) m.0 (window_end d (next_position self d) u.0), subst (λ (q : ℕ). slot_in self d (view_of self d) q ≡ Some s) m.0 u.1, m.2)

  pub seen_commit : (d : History) (m : CommitMessage) → Makes self d (stamped.Commit m) → SeenCommit d m
  seen_commit d m (p, k, r, e, is) =
      let f = commit_found d p k r e in
      let made : CommitMessage = record { view = view_of self d; pos = p; counter = k.counter; cert = k.cert; body = Whole r; ui = next_ui self d (bare_of (commit self d p k r)) } in
      subst (λ (y : CommitMessage). SeenCommit d y) (same made m is) (record { slot = k; batch = r; view = refl; counter = refl; cert = refl; body = refl; within = f.0; known = f.1; there = f.2 }) where
        same : (x y : CommitMessage) → stamped.Commit x ≡ stamped.Commit y → x ≡ y
        same x y e = cc

  -- ---- a PREPARE

  pub record SeenPrepare (d : History) (m : PrepareMessage) : Type 0 where
    pub batch : Batch
    pub view : m.view ≡ view_of self d
    pub body : m.body ≡ Whole batch
    pub within : m.pos ≤ low_of self d + span self.shape
    pub first : first_batch (unordered self d) ≡ Some batch

  prepare_found : (d : History) (p : ℕ) (b : Batch) → prepare_enabled self d ≡ Some (Prepare p b) → (p ≤ low_of self d + span self.shape) × (first_batch (unordered self d) ≡ Some b)
  unfolding prepare_enabled
  prepare_found d p r e =
      let t = if_some (may_order self d) (option_map (Prepare (next_position self d)) (first_batch (unordered self d))) (Prepare p r) e in
      let a = and_parts (is_open self d) _ t.0 in
      let b = and_parts (is_primary self d) _ a.1 in
      let c = and_parts (in_window self d (next_position self d)) _ b.1 in
      let m = map_some (Prepare (next_position self d)) (first_batch (unordered self d)) (Prepare p r) t.1 in (
        subst (λ (q : ℕ). q ≤ low_of self d + span self.shape) (place (next_position self d) m.0 m.2) (window_end d (next_position self d) c.0),
        subst (λ (x : Batch). first_batch (unordered self d) ≡ Some x) (batch (next_position self d) m.0 m.2) m.1,
      ) where
        place : (q : ℕ) (a : Batch) → Prepare q a ≡ Prepare p r → q ≡ p
        place q a e = cc

        batch : (q : ℕ) (a : Batch) → Prepare q a ≡ Prepare p r → a ≡ r
        batch q a e = cc

  pub seen_prepare : (d : History) (m : PrepareMessage) → Makes self d (stamped.Prepare m) → SeenPrepare d m
  seen_prepare d m (p, b, e, is) =
      let f = prepare_found d p b e in
      let made : PrepareMessage = record { view = view_of self d; pos = p; body = Whole b; ui = next_ui self d (bare_of (prepare self d p b)) } in
      subst (λ (y : PrepareMessage). SeenPrepare d y) (same made m is) (record { batch = b; view = refl; body = refl; within = f.0; first = f.1 }) where
        same : (x y : PrepareMessage) → stamped.Prepare x ≡ stamped.Prepare y → x ≡ y
        same x y e = cc

  -- ---- an OPEN

  pub record SeenOpen (d : History) (m : OpenMessage) : Type 0 where
    pub plan : Plan
    pub body : m.body ≡ Whole (record { stable = plan.base; batches = plan.batches })
    pub held : (v : ℕ) × (plan_held self d ≡ Some (v, plan))
    pub base : m.evidence.base ≡ plan.base.pos
    pub end : m.evidence.end ≡ plan_end plan
    pub digest : same_bytes m.evidence.plan (plan_digest plan) ≡ true
    pub shows : evidence_for self d (view_of self d) ≡ Some m.evidence

  plan_found : (v : ℕ) (x : Option (ℕ × Plan)) (p : Plan) → plan_of_view v x ≡ Some p → (u : ℕ) × (x ≡ Some (u, p))
  plan_found v None p e = absurd cc
  plan_found v (Some q) p e = let t = if_some (q.0 == v) (Some q.1) p e in (q.0, ap (λ (y : Plan). Some (q.0, y)) (same q.1 p t.1)) where
    same : (a b : Plan) → Some a ≡ Some b → a ≡ b
    same a b e = cc

  open_found : (d : History) (e : Evidence) (plan : Plan) → open_enabled self d ≡ Some (Open e plan) → (u : ℕ) × (plan_held self d ≡ Some (u, plan))
  unfolding open_enabled
  open_found d e plan o =
      let t = if_some (may_open self d && has_other_room self d) (open_with (evidence_for self d (view_of self d)) (plan_at self d (view_of self d))) (Open e plan) o in
      plan_found (view_of self d) (plan_held self d) plan (opened_plan (evidence_for self d (view_of self d)) (plan_at self d (view_of self d)) e plan t.1)

  pub seen_open : (d : History) (m : OpenMessage) → Makes self d (stamped.Open m) → SeenOpen d m
  seen_open d m (e, plan, o, is) =
      let seen = open_seen self d e plan o in
      let a = and_parts (e.base == plan.base.pos) _ seen.1 in
      let b = and_parts (e.end == plan_end plan) _ a.1 in
      let made : OpenMessage = record { evidence = e; body = Whole (record { stable = plan.base; batches = plan.batches }); ui = next_ui self d (bare_of (opening e plan)) } in
      subst (λ (y : OpenMessage). SeenOpen d y) (same made m is)
      (record { plan = plan; body = refl; held = open_found d e plan o; base = eqb-true e.base plan.base.pos a.0; end = eqb-true e.end (plan_end plan) b.0; digest = b.1; shows = seen.0 }) where
        same : (x y : OpenMessage) → stamped.Open x ≡ stamped.Open y → x ≡ y
        same x y e = cc

  -- ---- heights

  -- No own vote and no end of an own OPEN is more than two intervals above the stable position.
  pub own_height : (d : History) (m : StampedMessage) → Makes self d m → FitsBare self.shape (bare_of m) → height (as_shown m) ≤ low_of self d + span self.shape
  own_height d (stamped.Prepare m) a f = (seen_prepare d m a).within
  own_height d (stamped.Commit m) a f = (seen_commit d m a).within
  own_height d (stamped.Open m) a f =
      let s = seen_open d m a in
      let low : s.plan.base.pos ≤ low_of self d = base_below self d (s.held.0, s.plan) s.held.1 in
      let end : m.evidence.end ≤ m.evidence.base + span self.shape = f.0.end.1.0 in
      omega (arith, low, end, s.base)
  own_height d (stamped.Checkpoint m) a f = omega arith
  own_height d (stamped.ViewChange m) a f = omega arith
  own_height d (stamped.NewView m) a f = omega arith
  own_height d (stamped.Enter m) a f = omega arith
  own_height d (stamped.Join m) a f = omega arith
