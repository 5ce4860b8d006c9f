-- What a host finds in a fit history has the values of the grammar: certificates, evidence, kept CHECKPOINTs, plans that can be hashed, and the numbers
-- that its arithmetic needs.
use Rattle.std.proofs.Common.{◌≡◌, ℕ, ◌+◌, ◌^◌, ◌<◌, ◌≤◌, Bool, true, ◌&&◌, List, [], ◌∷◌, length, refl, sym, ap, subst, inl, inr, arith, Option, Some, None}
use Rattle.std.specs.Prelude.{◌==◌, not, option_and_then}
use Rattle.std.specs.Bool.{then_some}
use Rattle.std.specs.Option.{IfSome, option_or}
use Rattle.std.specs.List.{AllByRecursion}
use Rattle.std.proofs.lemmas.Bool.{and_parts, eqb-true}
use Rattle.mb_base.specs.Shapes.{IsShape, span, host_count}
use Rattle.mb_base.specs.declared.shape.Shape.{Shape}
use Rattle.mb_usig.specs.Tags.{same_bytes}
use Rattle.mb_parts.specs.declared.batch.Batch.{Batch}
use Rattle.mb_parts.specs.declared.request.Request.{Request}
use Rattle.mb_parts.specs.Fits.{IsPlace, IsBase, IsEnd, FitsText, FitsRequest, FitsBatch, CanDigest, FitsFloors, FitsStable, FitsFloorCert, FitsEvidence}
use Rattle.mb_msg.specs.declared.message.Body.{Body}
use Rattle.mb_msg.specs.declared.message.Body.TheVariants.{Whole}
use Rattle.mb_msg.specs.declared.message.Message.TheVariants as message
use Rattle.mb_msg.specs.declared.normal.Checkpoint.{Checkpoint}
use Rattle.mb_msg.specs.declared.change.NewView.{NewView}
use Rattle.mb_msg.specs.declared.change.NewViewBody.{NewViewBody}
use Rattle.mb_msg.specs.declared.change.OpenBody.{OpenBody}
use Rattle.mb_msg.specs.declared.change.Plan.{Plan}
use Rattle.mb_msg.specs.declared.change.ViewChange.{ViewChange}
use Rattle.mb_msg.specs.declared.stamped.Stamped.TheVariants as stamped
use Rattle.mb_msg.specs.Bodies.{FitsBody, whole_body}
use Rattle.mb_msg.specs.Fits.{FitsCheckpoint, FitsOpenBody, FitsChangeBody, FitsNewView}
use Rattle.mb_msg.specs.Plans.{CanHash, plan_end, plan_digest}
use Rattle.mb_msg.specs.Stamps.{bare_of}
use Rattle.mb_model.specs.Held.{is_current, chosen, evidence_of, evidence_for, plan_from, plan_in_new_view, plan_in_open, gives_plan, plan_in, plan_held}
use Rattle.mb_model.specs.Histories.{Entry, Accepted, Stamped, Executed, Installed, History, Identity, view_of, counter_of}
use Rattle.mb_model.specs.KindChecks.{announces, members_fault, new_view_fault}
use Rattle.mb_model.specs.Making.{floors_under, new_view}
use Rattle.mb_model.specs.OwnLog.{proof_of}
use Rattle.mb_model.specs.Positions.{exec_of}
use Rattle.mb_model.specs.Sending.{next_ui}
use Rattle.mb_model.specs.Stable.{stable_of, low_of, log_floor, checkpoint_in, checkpoint_by, checkpoint_of}
use Rattle.mb_model.proofs.Options.{or_some, or_none, then_none, if_some, map_some}
use Rattle.mb_steps.specs.Arises.{Arises}
use Rattle.mb_host_laws.proofs.Cases.{not_false, some_is, whole_is}
use Rattle.mb_host_laws.proofs.HeldFloors.{floor_good}
use Rattle.mb_host_laws.proofs.HeldStable.{stable_good}
use Rattle.mb_host_laws.proofs.HeldViews.{evidence_good, evidence_for_good}
use Rattle.mb_host_laws.proofs.OwnGates.{floors_fit}
use Rattle.mb_host_laws.proofs.OwnPlanGood.{plan_short, plan_low}
use Rattle.mb_host_laws.proofs.OwnViews.{view_low}
use Rattle.mb_host_laws.specs.Rests.{Each}
use Rattle.mb_history_laws.specs.Sound.{IsSound}
use Rattle.mb_encodable.specs.Fitting.{HasValues, AreFit}
use Rattle.mb_encodable.proofs.Changes.{FitsPlan, chosen_plan_fits, held_plan_fits}
use Rattle.mb_encodable.proofs.Fit.{fit_known}
use Rattle.mb_encodable.proofs.Logs.{proof_fits}
use Rattle.mb_encodable.proofs.ReadKnown.{AnyClaim, AnyText, AllKnown}
use Rattle.mb_encodable.proofs.Room.{room_now}

-- ---- plans that can be hashed

module _ (s : Shape) where
  requests_texts : (l : List Request) → AllByRecursion (FitsRequest s) l → AllByRecursion (λ (r : Request). FitsText r.op) l
  requests_texts [] a = tt
  requests_texts (r ∷ l) a = (a.0.op, requests_texts l a.1)

  -- A batch that fits can be digested.
  pub can_digest : (b : Batch) → FitsBatch s b → CanDigest b
  can_digest b f = (f.count, requests_texts b.requests f.requests)

  all_digest : (l : List Batch) → AllByRecursion (FitsBatch s) l → AllByRecursion CanDigest l
  all_digest [] a = tt
  all_digest (b ∷ l) a = (can_digest b a.0, all_digest l a.1)

  -- a plan that ends at a place of its window
  pub record EndsWell (plan : Plan) : Type 0 where
    pub window : plan_end plan ≤ plan.base.pos + span s
    pub place : IsPlace (plan_end plan)

  pub can_hash : IsShape s → (plan : Plan) → FitsPlan s plan → EndsWell plan → CanHash plan
  can_hash shape plan f e = (f.0.pos.0, (omega (arith, e.window, shape.intervals.1), all_digest plan.batches f.1))

  -- where a NEW_VIEW says it
  said_end : (base end : ℕ) (plan : Plan) → IsEnd s base end → base ≡ plan.base.pos → end ≡ plan_end plan → EndsWell plan
  said_end base end plan f b e = record { window = omega (arith, f.1.0, b, e); place = omega (arith, f.1.1, e) }

-- ---- CHECKPOINTs that are kept

module _ {S : Type 0} (self : Identity S) where
  entry_checkpoint : (d : History) (e : Entry) → HasValues self e d → (m : Checkpoint) → checkpoint_in e ≡ Some m → FitsCheckpoint self.shape m
  entry_checkpoint d (Accepted (message.Checkpoint n)) f m e = subst (FitsCheckpoint self.shape) (some_is n m e) f
  entry_checkpoint d (Stamped (stamped.Checkpoint n)) f m e = subst (FitsCheckpoint self.shape) (some_is n m e) f
  entry_checkpoint d e f m is = absurd cc

  by_sender : (h pos : ℕ) (x : Option Checkpoint) (m : Checkpoint) → checkpoint_by h pos x ≡ Some m → x ≡ Some m
  by_sender h pos None m e = absurd cc
  by_sender h pos (Some n) m e = (if_some (n.ui.host == h && n.pos == pos) (Some n) m e).1

  pub checkpoint_fits : (d : History) → Each (HasValues self) d → (h pos : ℕ) (m : Checkpoint) → checkpoint_of d h pos ≡ Some m → FitsCheckpoint self.shape m
  unfolding checkpoint_of
  checkpoint_fits [] a h pos m e = absurd cc
  checkpoint_fits (x ∷ d) a h pos m e = elim (or_some (checkpoint_by h pos (checkpoint_in x)) (checkpoint_of d h pos) m e) [
    | inl here ↦ entry_checkpoint d x a.0 m (by_sender h pos (checkpoint_in x) m here)
    | inr before ↦ checkpoint_fits d a.1 h pos m before
  ]

  -- ---- the plan that is held

  told_none : (x : Option (ℕ × ℕ)) (b : Bool) → option_or x (then_some (not b) (255, 11)) ≡ None → b ≡ true
  told_none x b e = not_false b (then_none (not b) (255, 11) (or_none x (then_some (not b) (255, 11)) e).1)

  announced : (n : NewView) (b : NewViewBody) → n.body ≡ Whole b → option_and_then (new_view_fault self n) (whole_body n.body) ≡ None → announces self n (plan_from self b.changes) ≡ true
  unfolding new_view_fault
  announced n b is e = told_none (members_fault self n.view 0 b.changes) (announces self n (plan_from self b.changes)) (rw is at e)

  announced_end : (n : NewView) (plan : Plan) → FitsNewView self.shape n → announces self n plan ≡ true → EndsWell self.shape plan
  announced_end n plan f e =
      let a = and_parts (n.base == plan.base.pos) (n.end == plan_end plan && same_bytes n.plan (plan_digest plan)) e in
      let b = and_parts (n.end == plan_end plan) (same_bytes n.plan (plan_digest plan)) a.1 in
      said_end self.shape n.base n.end plan f.end (eqb-true n.base plan.base.pos a.0) (eqb-true n.end (plan_end plan) b.0)

  entry_end : (d : History) (e : Entry) → Arises self (e ∷ d) → HasValues self e d → (p : ℕ × Plan) → plan_in self d (plan_held self d) e ≡ Some p → EndsWell self.shape p.1
  entry_end d (Accepted (message.NewView m)) a f p e =
      let t = if_some (is_current self d m.view) (plan_in_new_view self m) p e in
      let r = map_some (λ (b : NewViewBody). (m.view, plan_from self b.changes)) (whole_body m.body) p t.1 in
      subst (λ (q : ℕ × Plan). EndsWell self.shape q.1) r.2 (announced_end m (plan_from self r.0.changes) f (announced m r.0 (whole_is m.body r.0 r.1) (a.0.kind t.0)))
  entry_end d (Stamped (stamped.NewView m)) a f p e =
      let r = map_some (λ (b : NewViewBody). (m.view, plan_from self b.changes)) (whole_body m.body) p e in
      let changes : List ViewChange = a.0.0 in
      let plan : Plan = plan_from self changes in
      let made : NewView = record { view = view_of self d; base = plan.base.pos; end = plan_end plan; plan = plan_digest plan; body = Whole (record { changes = changes }); ui = next_ui self d (bare_of (new_view self d changes)) } in
      let same : made ≡ m = cc (a.0.2) in
      let body : r.0 ≡ record { changes = changes } = whole_same (whole_is m.body r.0 r.1) (ap (λ (y : NewView). y.body) (sym same)) in
      let ends : EndsWell self.shape plan = said_end self.shape m.base m.end plan f.end (ap (λ (y : NewView). y.base) (sym same)) (ap (λ (y : NewView). y.end) (sym same)) in
      subst (λ (q : ℕ × Plan). EndsWell self.shape q.1) r.2 (subst (λ (b : NewViewBody). EndsWell self.shape (plan_from self b.changes)) (sym body) ends) where
        whole_same : {x : Body NewViewBody} {b c : NewViewBody} → x ≡ Whole b → x ≡ Whole c → b ≡ c
        whole_same e g = cc
  entry_end d (Accepted (message.Open m)) a f p e =
      let t = if_some (gives_plan self d (plan_held self d) m.evidence) (plan_in_open m) p e in
      let r = map_some (λ (b : OpenBody). (m.evidence.view, record { base = b.stable; batches = b.batches })) (whole_body m.body) p t.1 in
      let body : FitsOpenBody self.shape m.evidence r.0 = subst (λ (x : Body OpenBody). FitsBody (FitsOpenBody self.shape m.evidence) x) (whole_is m.body r.0 r.1) f.body in
      let end : m.evidence.end ≡ r.0.stable.pos + length r.0.batches = omega (arith, body.1.0, body.1.1, f.evidence.end.0) in
      subst (λ (q : ℕ × Plan). EndsWell self.shape q.1) r.2 (said_end self.shape m.evidence.base m.evidence.end (record { base = r.0.stable; batches = r.0.batches }) f.evidence.end (sym body.1.0) end)
  entry_end d e a f p is = absurd cc

  pub held_plan_ends : (d : History) → Arises self d → Each (HasValues self) d → (p : ℕ × Plan) → plan_held self d ≡ Some p → EndsWell self.shape p.1
  unfolding plan_held
  held_plan_ends [] a f p e = absurd cc
  held_plan_ends (x ∷ d) a f p e = elim (or_some (plan_in self d (plan_held self d) x) (plan_held self d) p e) [
    | inl new ↦ entry_end d x a f.0 p new
    | inr old ↦ held_plan_ends d a.1 f.1 p old
  ]

-- ---- in a history that is sound and fit

if_there : {A : Type 0} (P : A → Type 0) (o : Option A) → ((x : A) → o ≡ Some x → P x) → IfSome o P
if_there P None f = tt
if_there P (Some x) f = f x refl

module _ {S : Type 0} (self : Identity S) (there : self.host < host_count self.shape) where
  known_place : (d : History) → Arises self d → AllKnown self d → Each (HasValues self) d → IsPlace (exec_of d)
  unfolding exec_of
  known_place [] a k f = omega arith
  known_place (Executed slot ∷ d) a k f = f.0.0.1
  known_place (Installed pos parts ∷ d) a k f = let low = (stable_good self AnyClaim AnyText d k.1).fits.pos.0 in omega (arith, a.0.0, low)
  known_place (e ∷ d) a k f = known_place d a.1 k.1 f.1

  module _ (d : History) (s : IsSound self d) (f : AreFit self d) where
    known : AllKnown self d
    known = fit_known self there d s.arises f

    pub stable_fits : FitsStable self.shape (stable_of self d)
    stable_fits = (stable_good self AnyClaim AnyText d known).fits

    pub log_floor_fits : IfSome (log_floor self d) (FitsFloorCert self.shape)
    log_floor_fits = if_there (FitsFloorCert self.shape) (log_floor self d) (λ c e. (floor_good self AnyClaim AnyText d known c e).fits)

    pub evidence_fits : IfSome (evidence_of self d) (FitsEvidence self.shape)
    evidence_fits = if_there (FitsEvidence self.shape) (evidence_of self d) (λ e is. (evidence_good self AnyClaim AnyText d known e is).fits)

    pub evidence_for_fits : (v : ℕ) → IfSome (evidence_for self d v) (FitsEvidence self.shape)
    evidence_for_fits v = if_there (FitsEvidence self.shape) (evidence_for self d v) (λ e is. (evidence_for_good self AnyClaim AnyText d s.arises known v e is).fits)

    -- what a VIEW_CHANGE shows
    pub shown_fits : FitsChangeBody self.shape (proof_of self d)
    shown_fits = proof_fits self d known f.values (room_now self d f.room)

    -- what a CHECKPOINT shows
    pub floors_under_fit : (pos : ℕ) → FitsFloors self.shape (floors_under self d pos)
    floors_under_fit pos = floors_fit self AnyClaim AnyText d s.arises known pos

    -- ---- plans

    pub chosen_ends : (v : ℕ) (changes : List ViewChange) → chosen self d v ≡ Some changes → EndsWell self.shape (plan_from self changes)
    chosen_ends v changes e = record { window = plan_short self AnyClaim AnyText changes; place = plan_low self AnyClaim AnyText d known v changes e }

    pub chosen_hashes : IsShape self.shape → (v : ℕ) (changes : List ViewChange) → chosen self d v ≡ Some changes → CanHash (plan_from self changes)
    chosen_hashes shape v changes e = can_hash self.shape shape (plan_from self changes) (chosen_plan_fits self d f.values v changes e) (chosen_ends v changes e)

    pub held_plan_hashes : IsShape self.shape → (p : ℕ × Plan) → plan_held self d ≡ Some p → CanHash p.1
    held_plan_hashes shape p e = can_hash self.shape shape p.1 (held_plan_fits self d f.values p e) (held_plan_ends self d s.arises f.values p e)

    -- ---- numbers

    pub low_place : IsBase self.shape (low_of self d)
    low_place = stable_fits.pos

    pub exec_place : IsPlace (exec_of d)
    exec_place = known_place d s.arises known f.values

    pub view_place : IsPlace (view_of self d)
    view_place = view_low self AnyClaim AnyText d s.arises known

    pub counter_low : counter_of d < 2 ^ 64
    counter_low = (room_now self d f.room).counter
