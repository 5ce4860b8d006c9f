-- All certificates and requests in what a host stamps are those of what it accepted and stamped before, but for its own certificate.
use Rattle.std.proofs.Common.{◌≡◌, ℕ, ◌-◌, Bool, true, false, ◌&&◌, ◌++◌, List, [], ◌∷◌, take, reverse, refl, subst, inl, inr, Option, Some, None}
use Rattle.std.specs.Prelude.{◌==◌, not, nat_le, option_map, if◌then◌else◌}
use Rattle.std.specs.List.{AllByRecursion, flat_map}
use Rattle.std.proofs.lemmas.Bool.{cases_Bool}
use Rattle.mb_base.specs.Shapes.{Bytes}
use Rattle.mb_parts.specs.declared.request.Request.{Request}
use Rattle.mb_parts.specs.declared.batch.Batch.{Batch}
use Rattle.mb_parts.specs.declared.certificates.Evidence.{Evidence}
use Rattle.mb_parts.specs.declared.certificates.FloorCert.{FloorCert}
use Rattle.mb_parts.specs.Bares as bare
use Rattle.mb_parts.specs.Claims.{Claim, inner_claims, floor_claims, stable_claims, evidence_claims}
use Rattle.mb_msg.specs.declared.message.Body.{Body}
use Rattle.mb_msg.specs.declared.message.Body.TheVariants.{Whole, Bare as Short}
use Rattle.mb_msg.specs.declared.normal.Prepare.{Prepare as PrepareMessage}
use Rattle.mb_msg.specs.declared.normal.Commit.{Commit as CommitMessage}
use Rattle.mb_msg.specs.declared.change.ViewChange.{ViewChange}
use Rattle.mb_msg.specs.declared.change.NewView.{NewView}
use Rattle.mb_msg.specs.declared.change.Open.{Open as OpenMessage}
use Rattle.mb_msg.specs.declared.change.OpenBody.{OpenBody}
use Rattle.mb_msg.specs.declared.change.Join.{Join as JoinMessage}
use Rattle.mb_msg.specs.declared.change.Plan.{Plan}
use Rattle.mb_msg.specs.declared.transfer.Resend.{Resend}
use Rattle.mb_msg.specs.declared.stamped.Shown.{Shown}
use Rattle.mb_msg.specs.declared.stamped.Stamped.{Stamped as StampedMessage}
use Rattle.mb_msg.specs.declared.stamped.Stamped.TheVariants as stamped
use Rattle.mb_msg.specs.Bodies.{inside_whole}
use Rattle.mb_msg.specs.Plans.{plan_end, plan_digest}
use Rattle.mb_msg.specs.Stamps.{bare_of}
use Rattle.mb_model.specs.declared.known.KnownSlot.{KnownSlot}
use Rattle.mb_model.specs.Batches.{first_batch}
use Rattle.mb_model.specs.Compared.{inside_some}
use Rattle.mb_model.specs.EnabledRules.{Announce, Open, Commit, Prepare, may_order, may_open, announce_enabled, open_enabled, commit_enabled, prepare_enabled, next_position, with_batch, unordered, open_with}
use Rattle.mb_model.specs.Held.{evidence_for, evidence_of, evidence_in, plan_held, plan_at, plan_from}
use Rattle.mb_model.specs.Histories.{Entry, Accepted, Stamped, Jumped, Closed, Served, Executed, Installed, DroppedParts, LostPatience, Nudged, History, Identity, view_of, is_open, is_primary, counter_of, stamped as all_stamped}
use Rattle.mb_model.specs.Making.{prepare, commit, view_change, new_view, opening, expected, log_for}
use Rattle.mb_model.specs.OwnLog.{has_room, has_other_room, kept_forms, log_start, log_kept, proof_of, count_from, since}
use Rattle.mb_model.specs.Positions.{slot_in, slot_at, in_window}
use Rattle.mb_model.specs.Sending.{signed, next_ui}
use Rattle.mb_model.specs.Stable.{stable_of, log_floor}
use Rattle.mb_model.proofs.Options.{if_some, map_some}
use Rattle.mb_steps.specs.Arises.{Arises, Makes}
use Rattle.mb_steps.proofs.StepHeldEvidence.{announce_seen}
use Rattle.mb_steps.proofs.StepPlanBases.{all_append}
use Rattle.mb_model.specs.Inside.{open_body_claims, change_claims, member_claims, new_view_claims, shown_claims, stamped_claims, claims_in, batch_requests, open_requests, shown_requests, change_requests, stamped_requests, requests_in}
use Rattle.mb_host_laws.proofs.Cases.{all_flat, all_reverse, all_taken}
use Rattle.mb_host_laws.proofs.Found.{opened_plan, commit_shape}
use Rattle.mb_host_laws.proofs.HeldFloors.{floor_good}
use Rattle.mb_host_laws.proofs.HeldStable.{stable_good}
use Rattle.mb_host_laws.proofs.HeldViews.{evidence_good}
use Rattle.mb_host_laws.proofs.OwnKnown.{GoodStable, KnownStamp, Known}
use Rattle.mb_host_laws.proofs.PlanFits.{OfBody}
use Rattle.mb_host_laws.specs.Rests.{Each}
use Rattle.mb_unforged.proofs.Forms.{OfMessage, OfStamped, OfShown, all_kept, all_shown, all_packed}
use Rattle.mb_unforged.proofs.Searches.{OfBatch, OfMember, AllCarried, slot_carried, next_batch_carried, chosen_carried, plan_at_carried}

module _ {S : Type 0} (self : Identity S) (P : Claim → Type 0) (Text : Bytes → Type 0) (Q : Request → Type 0) where
  abbrev IsKnown : StampedMessage → Type 0
  IsKnown m = KnownStamp self P Text m

  abbrev AllKnown : History → Type 0
  AllKnown d = Each (Known self P Text) d

  abbrev Of : StampedMessage → Type 0
  Of m = OfStamped self.shape P Q m

  abbrev Carried : History → Type 0
  Carried d = AllCarried self P Q d

  -- ---- the own log

  all_of : (d : History) → Carried d → AllByRecursion Of (all_stamped d)
  unfolding all_stamped
  all_of [] a = tt
  all_of (Stamped m ∷ d) a = (a.0, all_of d a.1)
  all_of (e ∷ d) a = all_of d a.1

  log_of : (d : History) → Carried d → AllByRecursion Of (log_kept self d)
  log_of d a = all_taken Of (counter_of d - log_start self d) (kept_forms (all_stamped d)) (all_kept self.shape P Q (all_stamped d) (all_of d a))

  floor_claimed : (d : History) → AllKnown d → AllByRecursion P (inside_some floor_claims (log_floor self d))
  floor_claimed d k = go (log_floor self d) refl where
    go : (o : Option FloorCert) → log_floor self d ≡ o → AllByRecursion P (inside_some floor_claims o)
    go None e = tt
    go (Some c) e = (floor_good self P Text d k c e).claims

  stable_claimed : (d : History) → AllKnown d → AllByRecursion P (stable_claims (stable_of self d))
  stable_claimed d k = (stable_good self P Text d k).claims

  certified_claimed : (d : History) → AllKnown d → AllByRecursion P (inside_some floor_claims (log_floor self d) ++ stable_claims (stable_of self d))
  certified_claimed d k = all_append P (inside_some floor_claims (log_floor self d)) (stable_claims (stable_of self d)) (floor_claimed d k) (stable_claimed d k)

  entries_shown : (d : History) → Carried d → AllByRecursion (OfShown self.shape P Q) (proof_of self d).entries
  entries_shown d a = all_shown self.shape P Q (reverse (log_kept self d)) (all_reverse Of (log_kept self d) (log_of d a))

  proof_claimed : (d : History) → AllKnown d → Carried d → AllByRecursion P (change_claims self.shape (proof_of self d))
  proof_claimed d k a =
      let entries : List Shown = (proof_of self d).entries in
      let certified : List Claim = inside_some floor_claims (log_floor self d) ++ stable_claims (stable_of self d) in
      all_append P certified (flat_map (shown_claims self.shape) entries) (certified_claimed d k)
      (all_flat (OfShown self.shape P Q) P (shown_claims self.shape) (λ e x. x.claims) entries (entries_shown d a))

  proof_asked : (d : History) → Carried d → AllByRecursion Q (flat_map shown_requests (proof_of self d).entries)
  proof_asked d a = all_flat (OfShown self.shape P Q) Q shown_requests (λ e x. x.requests) (proof_of self d).entries (entries_shown d a)

  -- ---- each kind

  change_carried : (d : History) (view : ℕ) (m : ViewChange) → signed self d (view_change self d view) ≡ stamped.ViewChange m → AllKnown d → IsKnown (stamped.ViewChange m) → Carried d → Of (stamped.ViewChange m)
  unfolding stamped_claims
  change_carried d view m is all k a =
      let made : ViewChange = record { view = view; body = Whole (proof_of self d); ui = next_ui self d (bare_of (view_change self d view)) } in
      let same : made ≡ m = cc is in
      record {
        claims = all_append P (inside_whole (change_claims self.shape) m.body) _ (subst (λ (y : ViewChange). AllByRecursion P (inside_whole (change_claims self.shape) y.body)) same (proof_claimed d all a)) (k.claim, tt);
        requests = subst (λ (y : ViewChange). AllByRecursion Q (change_requests y)) same (proof_asked d a);
      }

  announce_carried : (d : History) (changes : List ViewChange) → announce_enabled self d ≡ Some (Announce changes) → (m : NewView) → signed self d (new_view self d changes) ≡ stamped.NewView m → IsKnown (stamped.NewView m) → Carried d → Of (stamped.NewView m)
  unfolding stamped_claims
  announce_carried d changes e m is k a =
      let plan : Plan = plan_from self changes in
      let made : NewView = record { view = view_of self d; base = plan.base.pos; end = plan_end plan; plan = plan_digest plan; body = Whole (record { changes = changes }); ui = next_ui self d (bare_of (new_view self d changes)) } in
      let same : made ≡ m = cc is in
      let members : AllByRecursion (OfMember self P Q) changes = chosen_carried self P Q d a (view_of self d) changes (announce_seen self d changes e).1 in
      let claims : AllByRecursion P (flat_map (member_claims self.shape) changes) = all_flat (OfMember self P Q) P (member_claims self.shape) (λ c x. x.claims) changes members in
      let requests : AllByRecursion Q (flat_map change_requests changes) = all_flat (OfMember self P Q) Q change_requests (λ c x. x.requests) changes members in
      record {
        claims = all_append P (inside_whole (new_view_claims self.shape) m.body) _ (subst (λ (y : NewView). AllByRecursion P (inside_whole (new_view_claims self.shape) y.body)) same claims) (k.claim, tt);
        requests = subst (λ (y : NewView). AllByRecursion Q (stamped_requests (stamped.NewView y))) same requests;
      }

  body_claimed : (b : Body OpenBody) → OfBody (GoodStable self P Text) b → AllByRecursion P (inside_whole open_body_claims b)
  body_claimed (Whole b) g = g.claims
  body_claimed (Short d) g = tt

  open_carried : (d : History) (e : Evidence) (plan : Plan) → open_enabled self d ≡ Some (Open e plan) → (m : OpenMessage) → signed self d (opening e plan) ≡ stamped.Open m → IsKnown (stamped.Open m) → Carried d → Of (stamped.Open m)
  unfolding stamped_claims open_enabled
  open_carried d e plan o m is k a =
      let t = if_some (may_open self d && has_other_room self d) (open_with (evidence_for self d (view_of self d)) (plan_at self d (view_of self d))) (Open e plan) o in
      let at : plan_at self d (view_of self d) ≡ Some plan = opened_plan (evidence_for self d (view_of self d)) (plan_at self d (view_of self d)) e plan t.1 in
      let batches : AllByRecursion (OfBatch Q) plan.batches = plan_at_carried self P Q d a (view_of self d) plan (plan_held self d) refl at in
      let made : OpenMessage = record { evidence = e; body = Whole (record { stable = plan.base; batches = plan.batches }); ui = next_ui self d (bare_of (opening e plan)) } in
      let same : made ≡ m = cc is in
      let requests : AllByRecursion Q (flat_map (λ (x : Batch). x.requests) plan.batches) = all_flat (OfBatch Q) Q (λ (x : Batch). x.requests) (λ b x. x) plan.batches batches in
      record {
        claims = all_append P (evidence_claims self.shape m.evidence ++ inside_whole open_body_claims m.body) _
            (all_append P (evidence_claims self.shape m.evidence) (inside_whole open_body_claims m.body) k.inner (body_claimed m.body k.body.0)) (k.claim, tt);
        requests = subst (λ (y : OpenMessage). AllByRecursion Q (open_requests y.body)) same requests;
      }

  join_carried : (m : JoinMessage) → IsKnown (stamped.Join m) → Of (stamped.Join m)
  unfolding stamped_claims
  join_carried m k = record { claims = all_append P (inside_some (evidence_claims self.shape) m.evidence ++ stable_claims m.stable) _ (go m.evidence k.inner) (k.claim, tt); requests = tt } where
    go : (e : Option Evidence) → AllByRecursion P (inner_claims self.shape (bare.Join m.view e m.stable)) → AllByRecursion P (inside_some (evidence_claims self.shape) e ++ stable_claims m.stable)
    go None a = a
    go (Some e) a = a

  commit_carried : (d : History) (p : ℕ) (s : KnownSlot) (b : Batch) → commit_enabled self d ≡ Some (Commit p s b) → (m : CommitMessage) → signed self d (commit self d p s b) ≡ stamped.Commit m → IsKnown (stamped.Commit m) → Carried d → Of (stamped.Commit m)
  unfolding stamped_claims commit_enabled
  commit_carried d p s b e m is k a =
      let t = if_some (is_open self d && (not (is_primary self d) && has_room self d)) (with_batch (Commit (next_position self d)) (slot_at self d (next_position self d))) (Commit p s b) e in
      let c = commit_shape (next_position self d) (slot_at self d (next_position self d)) p s b t.1 in
      let w = if_some (in_window self d (next_position self d)) (slot_in self d (view_of self d) (next_position self d)) s c.1 in
      let batch : OfBatch Q b = slot_carried self P Q d a (view_of self d) (next_position self d) s w.1 b c.2 in
      let made : CommitMessage = record { view = view_of self d; pos = p; counter = s.counter; cert = s.cert; body = Whole b; ui = next_ui self d (bare_of (commit self d p s b)) } in
      let same : made ≡ m = cc is in
      record { claims = (k.inner.0, (k.claim, tt)); requests = subst (λ (y : CommitMessage). AllByRecursion Q (batch_requests y.body)) same batch }

  prepare_carried : (d : History) (p : ℕ) (b : Batch) → prepare_enabled self d ≡ Some (Prepare p b) → (m : PrepareMessage) → signed self d (prepare self d p b) ≡ stamped.Prepare m → IsKnown (stamped.Prepare m) → Carried d → Of (stamped.Prepare m)
  unfolding stamped_claims prepare_enabled
  prepare_carried d p b e m is k a =
      let t = if_some (may_order self d) (option_map (Prepare (next_position self d)) (first_batch (unordered self d))) (Prepare p b) e in
      let c = map_some (Prepare (next_position self d)) (first_batch (unordered self d)) (Prepare p b) t.1 in
      let first : c.0 ≡ b = cc (c.2) in
      let batch : OfBatch Q b = subst (OfBatch Q) first (next_batch_carried self P Q d a c.0 c.1) in
      let made : PrepareMessage = record { view = view_of self d; pos = p; body = Whole b; ui = next_ui self d (bare_of (prepare self d p b)) } in
      let same : made ≡ m = cc is in
      record { claims = (k.claim, tt); requests = subst (λ (y : PrepareMessage). AllByRecursion Q (batch_requests y.body)) same batch }

  -- ---- a stamp, and all of them

  stamp_carried : (d : History) (m : StampedMessage) → Makes self d m → AllKnown d → IsKnown m → Carried d → Of m
  unfolding stamped_claims
  stamp_carried d (stamped.ViewChange m) (view, e, is) all k a = change_carried d view m is all k a
  stamp_carried d (stamped.NewView m) (changes, e, is) all k a = announce_carried d changes e m is k a
  stamp_carried d (stamped.Enter m) x all k a = record { claims = (k.claim, tt); requests = tt }
  stamp_carried d (stamped.Open m) (e, plan, o, is) all k a = open_carried d e plan o m is k a
  stamp_carried d (stamped.Join m) x all k a = join_carried m k
  stamp_carried d (stamped.Commit m) (p, s, b, e, is) all k a = commit_carried d p s b e m is k a
  stamp_carried d (stamped.Prepare m) (p, b, e, is) all k a = prepare_carried d p b e m is k a
  stamp_carried d (stamped.Checkpoint m) x all k a = record { claims = (k.claim, tt); requests = tt }

  -- What was accepted has the properties.
  abbrev pub IsTaken : Entry → History → Type 0
  IsTaken (Accepted m) d = OfMessage self.shape P Q m
  IsTaken e d = Unit {0}

  -- So has what was stamped.
  pub all_carried : (d : History) → Arises self d → AllKnown d → Each IsTaken d → Carried d
  all_carried [] r k t = tt
  all_carried (Accepted m ∷ d) r k t = (t.0, all_carried d r.1 k.1 t.1)
  all_carried (Stamped m ∷ d) r k t = let before : Carried d = all_carried d r.1 k.1 t.1 in (stamp_carried d m r.0 k.1 k.0 before, before)
  all_carried (Jumped h f ∷ d) r k t = (tt, all_carried d r.1 k.1 t.1)
  all_carried (Closed h c ∷ d) r k t = (tt, all_carried d r.1 k.1 t.1)
  all_carried (Served pos x ∷ d) r k t = (tt, all_carried d r.1 k.1 t.1)
  all_carried (Executed slot ∷ d) r k t = (tt, all_carried d r.1 k.1 t.1)
  all_carried (Installed pos parts ∷ d) r k t = (tt, all_carried d r.1 k.1 t.1)
  all_carried (DroppedParts ∷ d) r k t = (tt, all_carried d r.1 k.1 t.1)
  all_carried (LostPatience ∷ d) r k t = (tt, all_carried d r.1 k.1 t.1)
  all_carried (Nudged ∷ d) r k t = (tt, all_carried d r.1 k.1 t.1)

  pub stamped_carried : (d : History) → Carried d → AllByRecursion Of (all_stamped d)
  stamped_carried d a = all_of d a

  -- ---- a LOG

  floor_where : (b : Bool) (d : History) → AllKnown d → AllByRecursion P (inside_some floor_claims (if b then log_floor self d else None))
  floor_where true d k = floor_claimed d k
  floor_where false d k = tt

  evidence_claimed : (d : History) → AllKnown d → (v : ℕ) → AllByRecursion P (inside_some (evidence_claims self.shape) (evidence_in v (evidence_of self d)))
  evidence_claimed d k v = go (evidence_of self d) refl where
    go : (o : Option Evidence) → evidence_of self d ≡ o → AllByRecursion P (inside_some (evidence_claims self.shape) (evidence_in v o))
    go None is = tt
    go (Some e) is = elim (cases_Bool (e.view == v)) [
      | inl same ↦ rw same (evidence_good self P Text d k e is).claims
      | inr other ↦ rw other tt
    ]

  pub log_carried : (d : History) (m : Resend) → AllKnown d → Carried d → OfMessage self.shape P Q (log_for self d m)
  unfolding claims_in requests_in
  log_carried d m k a =
      let kept : List StampedMessage = take (count_from self d (expected self m)) (log_kept self d) in
      let entries : AllByRecursion Of (since self d (expected self m)) = all_packed self.shape P Q (reverse kept) (all_reverse Of kept (all_taken Of (count_from self d (expected self m)) (log_kept self d) (log_of d a))) in
      let floor : Option FloorCert = if nat_le (expected self m) (log_start self d) then log_floor self d else None in
      let evidence : Option Evidence = evidence_in (view_of self d) (evidence_of self d) in
      let certified : List Claim = inside_some floor_claims floor ++ stable_claims (stable_of self d) in
      let shown : List Claim = inside_some (evidence_claims self.shape) evidence in
      record {
        claims = all_append P (certified ++ shown) (flat_map (stamped_claims self.shape) (since self d (expected self m)))
            (all_append P certified shown (all_append P (inside_some floor_claims floor) (stable_claims (stable_of self d)) (floor_where (nat_le (expected self m) (log_start self d)) d k) (stable_claimed d k))
            (evidence_claimed d k (view_of self d)))
            (all_flat Of P (stamped_claims self.shape) (λ e x. x.claims) (since self d (expected self m)) entries);
        requests = all_flat Of Q stamped_requests (λ e x. x.requests) (since self d (expected self m)) entries;
      }
