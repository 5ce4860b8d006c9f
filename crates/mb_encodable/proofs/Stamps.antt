-- What a rule stamps has the values of the grammar, its body too; and so has each request that is served and each batch that is executed.
use Rattle.std.proofs.Common.{◌≡◌, ℕ, ◌-◌, true, ◌&&◌, List, ◌∷◌, ◌++◌, length, refl, sym, subst, arith, Option, Some, None}
use Rattle.std.specs.Prelude.{◌==◌, map, not, option_map}
use Rattle.std.specs.List.{AllByRecursion}
use Rattle.std.proofs.lemmas.Bool.{and_parts, eqb-true}
use Rattle.mb_usig.specs.Tags.{same_bytes}
use Rattle.mb_parts.specs.declared.batch.Batch.{Batch}
use Rattle.mb_parts.specs.declared.request.Request.{Request}
use Rattle.mb_parts.specs.declared.certificates.Evidence.{Evidence}
use Rattle.mb_parts.specs.Fits.{IsPosition, FitsRequest, FitsBatch}
use Rattle.mb_msg.specs.declared.event.Placed.{Placed}
use Rattle.mb_msg.specs.declared.message.Body.TheVariants.{Whole}
use Rattle.mb_msg.specs.declared.normal.Prepare.{Prepare as PrepareMessage}
use Rattle.mb_msg.specs.declared.normal.Commit.{Commit as CommitMessage}
use Rattle.mb_msg.specs.declared.change.ViewChange.{ViewChange}
use Rattle.mb_msg.specs.declared.change.NewView.{NewView}
use Rattle.mb_msg.specs.declared.change.Open.{Open as OpenMessage}
use Rattle.mb_msg.specs.declared.change.Plan.{Plan}
use Rattle.mb_msg.specs.declared.stamped.Stamped.{Stamped as StampedMessage}
use Rattle.mb_msg.specs.declared.stamped.Stamped.TheVariants as stamped
use Rattle.mb_msg.specs.Bodies.{FitsBody}
use Rattle.mb_msg.specs.Fits.{FitsPrepare, FitsCommit, FitsViewChange, FitsNewView, FitsOpen, FitsOpenBody, FitsChangeBody, FitsNewViewBody, FitsStamped}
use Rattle.mb_msg.specs.Plans.{plan_end, plan_digest}
use Rattle.mb_msg.specs.Stamps.{bare_of}
use Rattle.mb_model.specs.declared.known.KnownSlot.{KnownSlot}
use Rattle.mb_model.specs.Batches.{first_batch}
use Rattle.mb_model.specs.Service.{batch_of}
use Rattle.mb_model.specs.CarriedOut.{just_served}
use Rattle.mb_model.specs.EnabledRules.{Announce, Open, Commit, Prepare, may_order, may_open, announce_enabled, open_enabled, commit_enabled, prepare_enabled, next_position, with_batch, unordered, open_with}
use Rattle.mb_model.specs.Held.{evidence_for, plan_held, plan_at, plan_of_view, plan_from}
use Rattle.mb_model.specs.Histories.{Entry, Accepted, Stamped, Jumped, Closed, Served, Executed, Installed, DroppedParts, LostPatience, Nudged, History, Identity, view_of, is_open, is_primary}
use Rattle.mb_model.specs.Making.{prepare, commit, view_change, new_view, opening}
use Rattle.mb_model.specs.OwnLog.{has_room, has_other_room, proof_of}
use Rattle.mb_model.specs.Positions.{slot_in, slot_at, in_window}
use Rattle.mb_model.specs.Sending.{signed, next_ui}
use Rattle.mb_model.proofs.Options.{if_some, map_some}
use Rattle.mb_steps.specs.Arises.{Makes, Serves, Adds}
use Rattle.mb_steps.proofs.StepHeldEvidence.{announce_seen, open_seen}
use Rattle.mb_host_laws.proofs.Cases.{all_right, some_is}
use Rattle.mb_host_laws.proofs.Executing.{MayExecute, may_execute}
use Rattle.mb_host_laws.proofs.Found.{opened_plan, commit_shape}
use Rattle.mb_host_laws.proofs.OwnKnown.{KnownStamp, Known}
use Rattle.mb_host_laws.proofs.OwnMade.{windowed}
use Rattle.mb_host_laws.specs.Rests.{Each}
use Rattle.mb_encodable.specs.Fitting.{HasRoom, HasValues}
use Rattle.mb_encodable.proofs.ReadKnown.{AnyClaim, AnyText, AllKnown}
use Rattle.mb_encodable.proofs.Batches.{slot_fits, next_batch_fits}
use Rattle.mb_encodable.proofs.Changes.{FitsPlan, chosen_fit, held_plan_fits}
use Rattle.mb_encodable.proofs.Logs.{proof_fits}

module _ {S : Type 0} (self : Identity S) where
  abbrev Values : History → Type 0
  Values d = Each (HasValues self) d

  abbrev IsKnown : StampedMessage → Type 0
  IsKnown m = KnownStamp self AnyClaim AnyText m

  -- ---- stamps, with what is known of their fields

  change_fits : (d : History) (view : ℕ) (m : ViewChange) → signed self d (view_change self d view) ≡ stamped.ViewChange m → AllKnown self d → Values d → HasRoom self d → IsKnown (stamped.ViewChange m) → FitsViewChange self.shape m
  change_fits d view m is all a r k =
      let made : ViewChange = record { view = view; body = Whole (proof_of self d); ui = next_ui self d (bare_of (view_change self d view)) } in
      let same : made ≡ m = cc is in
      record { view = k.bare.0; body = subst (λ (y : ViewChange). FitsBody (FitsChangeBody self.shape) y.body) same (proof_fits self d all a r); ui = k.ui }

  announced_fits : (d : History) (changes : List ViewChange) → announce_enabled self d ≡ Some (Announce changes) → (m : NewView) → signed self d (new_view self d changes) ≡ stamped.NewView m → Values d → IsKnown (stamped.NewView m) → FitsNewView self.shape m
  announced_fits d changes e m is a k =
      let plan : Plan = plan_from self changes in
      let made : NewView = record { view = view_of self d; base = plan.base.pos; end = plan_end plan; plan = plan_digest plan; body = Whole (record { changes = changes }); ui = next_ui self d (bare_of (new_view self d changes)) } in
      let same : made ≡ m = cc is in
      record {
        view = k.bare.0;
        base = k.bare.1.0;
        end = k.bare.1.1.0;
        plan = k.bare.1.1.1.0;
        body = subst (λ (y : NewView). FitsBody (FitsNewViewBody self.shape) y.body) same (chosen_fit self d a (view_of self d) changes (announce_seen self d changes e).1);
        ui = k.ui;
      }

  plan_at_fits : (d : History) → Values d → (v : ℕ) (plan : Plan) (x : Option (ℕ × Plan)) → plan_held self d ≡ x → plan_of_view v x ≡ Some plan → FitsPlan self.shape plan
  plan_at_fits d a v plan None is e = absurd cc
  plan_at_fits d a v plan (Some q) is e = subst (FitsPlan self.shape) (some_is q.1 plan (if_some (q.0 == v) (Some q.1) plan e).1) (held_plan_fits self d a q is)

  opened_fits : (d : History) (e : Evidence) (plan : Plan) → open_enabled self d ≡ Some (Open e plan) → (m : OpenMessage) → signed self d (opening e plan) ≡ stamped.Open m → Values d → IsKnown (stamped.Open m) → FitsOpen self.shape m
  unfolding open_enabled
  opened_fits d e plan o m is a k =
      let seen = open_seen self d e plan o in
      let t = if_some (may_open self d && has_other_room self d) (open_with (evidence_for self d (view_of self d)) (plan_at self d (view_of self d))) (Open e plan) o in
      let at : plan_at self d (view_of self d) ≡ Some plan = opened_plan (evidence_for self d (view_of self d)) (plan_at self d (view_of self d)) e plan t.1 in
      let fits : FitsPlan self.shape plan = plan_at_fits d a (view_of self d) plan (plan_held self d) refl at in
      let c = and_parts (e.base == plan.base.pos) (e.end == plan_end plan && same_bytes e.plan (plan_digest plan)) seen.1 in
      let f = and_parts (e.end == plan_end plan) (same_bytes e.plan (plan_digest plan)) c.1 in
      let base : e.base ≡ plan.base.pos = eqb-true e.base plan.base.pos c.0 in
      let many : length plan.batches ≡ e.end - e.base = omega (arith, base, eqb-true e.end (plan_end plan) f.0) in
      let made : OpenMessage = record { evidence = e; body = Whole (record { stable = plan.base; batches = plan.batches }); ui = next_ui self d (bare_of (opening e plan)) } in
      let same : made ≡ m = cc is in
      record { evidence = k.bare.0; body = subst (λ (y : OpenMessage). FitsBody (FitsOpenBody self.shape y.evidence) y.body) same (fits, (sym base, many)); ui = k.ui }

  committed_fits : (d : History) (p : ℕ) (s : KnownSlot) (b : Batch) → commit_enabled self d ≡ Some (Commit p s b) → (m : CommitMessage) → signed self d (commit self d p s b) ≡ stamped.Commit m → Values d → IsKnown (stamped.Commit m) → FitsCommit self.shape m
  unfolding commit_enabled
  committed_fits d p s b e m is a k =
      let t = if_some (is_open self d && (not (is_primary self d) && has_room self d)) (with_batch (Commit (next_position self d)) (slot_at self d (next_position self d))) (Commit p s b) e in
      let c = commit_shape (next_position self d) (slot_at self d (next_position self d)) p s b t.1 in
      let w = if_some (in_window self d (next_position self d)) (slot_in self d (view_of self d) (next_position self d)) s c.1 in
      let batch : FitsBatch self.shape b = slot_fits self d a (view_of self d) (next_position self d) s w.1 b c.2 in
      let made : CommitMessage = record { view = view_of self d; pos = p; counter = s.counter; cert = s.cert; body = Whole b; ui = next_ui self d (bare_of (commit self d p s b)) } in
      let same : made ≡ m = cc is in
      record { view = k.bare.0; pos = k.bare.1.0; counter = k.bare.1.1.0; cert = k.bare.1.1.1.0; body = subst (λ (y : CommitMessage). FitsBody (FitsBatch self.shape) y.body) same batch; ui = k.ui }

  prepared_fits : (d : History) (p : ℕ) (b : Batch) → prepare_enabled self d ≡ Some (Prepare p b) → (m : PrepareMessage) → signed self d (prepare self d p b) ≡ stamped.Prepare m → Values d → IsKnown (stamped.Prepare m) → FitsPrepare self.shape m
  unfolding prepare_enabled
  prepared_fits d p b e m is a k =
      let t = if_some (may_order self d) (option_map (Prepare (next_position self d)) (first_batch (unordered self d))) (Prepare p b) e in
      let c = map_some (Prepare (next_position self d)) (first_batch (unordered self d)) (Prepare p b) t.1 in
      let first : c.0 ≡ b = cc (c.2) in
      let batch : FitsBatch self.shape b = subst (FitsBatch self.shape) first (next_batch_fits self d a c.0 c.1) in
      let made : PrepareMessage = record { view = view_of self d; pos = p; body = Whole b; ui = next_ui self d (bare_of (prepare self d p b)) } in
      let same : made ≡ m = cc is in
      record { view = k.bare.0; pos = k.bare.1.0; body = subst (λ (y : PrepareMessage). FitsBody (FitsBatch self.shape) y.body) same batch; ui = k.ui }

  -- What this host stamps fits.
  pub stamp_fits : (d : History) (m : StampedMessage) → Makes self d m → AllKnown self d → Values d → HasRoom self d → IsKnown m → FitsStamped self.shape m
  stamp_fits d (stamped.ViewChange m) (view, e, is) all a r k = change_fits d view m is all a r k
  stamp_fits d (stamped.NewView m) (changes, e, is) all a r k = announced_fits d changes e m is a k
  stamp_fits d (stamped.Enter m) x all a r k = record { view = k.bare.0; counter = k.bare.1.0; plan = k.bare.1.1; ui = k.ui }
  stamp_fits d (stamped.Open m) (e, plan, o, is) all a r k = opened_fits d e plan o m is a k
  stamp_fits d (stamped.Join m) x all a r k = record { view = k.bare.0; evidence = k.bare.1.0; stable = k.bare.1.1.0; above = k.bare.1.1.1; ui = k.ui }
  stamp_fits d (stamped.Commit m) (p, s, b, e, is) all a r k = committed_fits d p s b e m is a k
  stamp_fits d (stamped.Prepare m) (p, b, e, is) all a r k = prepared_fits d p b e m is a k
  stamp_fits d (stamped.Checkpoint m) x all a r k = record { pos = k.bare.0; state = k.bare.1.0; body = k.body.0; ui = k.ui }

  -- ---- executions

  pub record FitsExecution (pos : ℕ) (b : Batch) : Type 0 where
    pub place : IsPosition pos
    pub batch : FitsBatch self.shape b

  -- A batch that may be executed fits.
  pub execution_fits : (d : History) → Values d → (pos : ℕ) (b : Batch) → MayExecute self d pos b → FitsExecution pos b
  execution_fits d a pos b x =
      let t = if_some (in_window self d pos) (slot_in self d (view_of self d) pos) x.known x.there in
      record { place = windowed self AnyClaim AnyText d pos t.0; batch = slot_fits self d a (view_of self d) pos x.known t.1 b x.shown }

  served_fits : (d : History) → Values d → (pos : ℕ) (placed : Placed) → Serves self d pos placed → IsPosition pos × FitsRequest self.shape placed.request
  served_fits d a pos placed s =
      let x : FitsExecution pos s.batch = execution_fits d a pos s.batch (may_execute self d pos s.batch s.enabled) in
      let before : List Request = map (λ (p : Placed). p.request) (just_served d) in
      let all : AllByRecursion (FitsRequest self.shape) (before ++ placed.request ∷ s.more) = subst (AllByRecursion (FitsRequest self.shape)) (sym s.next) x.batch.requests in
      (x.place, (all_right (FitsRequest self.shape) before (placed.request ∷ s.more) all).0)

  -- ---- one entry more

  pub entry_fits : (e : Entry) (d : History) → Adds self d e → Known self AnyClaim AnyText e d → AllKnown self d → Values d → HasRoom self d → HasValues self e d
  entry_fits (Accepted m) d x k all a r = k.fits
  entry_fits (Stamped m) d x k all a r = stamp_fits d m x all a r k
  entry_fits (Jumped h f) d x k all a r = k
  entry_fits (Closed h c) d x k all a r = tt
  entry_fits (Served pos placed) d x k all a r = served_fits d a pos placed x
  entry_fits (Executed slot) d x k all a r = let f : FitsExecution slot.pos (batch_of slot) = execution_fits d a slot.pos (batch_of slot) (may_execute self d slot.pos (batch_of slot) x.enabled) in (f.place, f.batch)
  entry_fits (Installed pos parts) d x k all a r = tt
  entry_fits DroppedParts d x k all a r = tt
  entry_fits LostPatience d x k all a r = k
  entry_fits Nudged d x k all a r = tt
