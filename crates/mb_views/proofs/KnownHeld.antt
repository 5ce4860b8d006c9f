-- All certificates that a correct host holds for bases have members that it knows: its stable certificate, the base of its plan, and what stored VIEW_CHANGEs
-- and its own stamps show. One induction on the history.
use Rattle.std.proofs.Common.{◌≡◌, ℕ, ◌&&◌, not, List, [], ◌∷◌, ◌++◌, refl, ap, subst, ◌∙◌, Option, Some, None}
use Rattle.std.specs.Prelude.{◌==◌, ◌-◌, map, filter, reverse, is_none}
use Rattle.std.specs.List.{AllByRecursion}
use Rattle.mb_parts.specs.declared.certificates.StableCert.{StableCert}
use Rattle.mb_parts.specs.Claims.{evidence_claims}
use Rattle.mb_msg.specs.declared.message.Body.{Body}
use Rattle.mb_msg.specs.declared.message.Body.TheVariants.{Whole, Bare as Short}
use Rattle.mb_msg.specs.declared.message.Message.TheVariants as message
use Rattle.mb_msg.specs.declared.change.OpenBody.{OpenBody}
use Rattle.mb_msg.specs.declared.change.NewViewBody.{NewViewBody}
use Rattle.mb_msg.specs.declared.change.ViewChange.{ViewChange}
use Rattle.mb_msg.specs.declared.change.NewView.{NewView}
use Rattle.mb_msg.specs.declared.change.Join.{Join}
use Rattle.mb_msg.specs.declared.change.Plan.{Plan}
use Rattle.mb_msg.specs.declared.stamped.Stamped.{Stamped as StampedMessage}
use Rattle.mb_msg.specs.declared.stamped.Stamped.TheVariants as stamped
use Rattle.mb_msg.specs.Plans.{plan_end, plan_digest}
use Rattle.mb_msg.specs.Stamps.{bare_of}
use Rattle.mb_model.specs.UsableLogs.{is_whole}
use Rattle.mb_model.specs.Histories.{Entry, Accepted, Stamped, History, Identity, view_of, counter_of, stamped as all_stamped}
use Rattle.mb_model.specs.OwnLog.{behind_opening, behind_change, kept_forms, as_shown, log_start, log_kept, proof_of}
use Rattle.mb_model.specs.Held.{change_fault, is_current, change_in, arrived, changes_of, plan_from, plan_in_new_view, plan_in_open, gives_plan, plan_in, plan_held}
use Rattle.mb_model.specs.Stable.{stable_of}
use Rattle.mb_model.specs.Sending.{next_ui}
use Rattle.mb_model.specs.Making.{view_change, new_view, join, join_evidence}
use Rattle.mb_model.specs.Members.{In}
use Rattle.mb_model.proofs.Options.{if_some}
use Rattle.mb_steps.specs.Arises.{Adds, Makes}
use Rattle.mb_steps.proofs.StepHeldEvidence.{some_is, announce_seen}
use Rattle.mb_steps.proofs.StepPlanBases.{all_filter, all_append}
use Rattle.mb_model.specs.Inside.{claims_in, change_claims, open_body_claims, new_view_claims, stamped_claims}
use Rattle.mb_world_model.specs.WorldEvents.{IsCorrect}
use Rattle.mb_world_model.specs.World.{World, System, self_of}
use Rattle.mb_host_laws.proofs.KeptForms.{forms_keep}
use Rattle.mb_host_laws.proofs.Cases.{all_reverse, all_taken, none_some, same_whole}
use Rattle.mb_world_laws.proofs.Facts.{Facts}
use Rattle.mb_host_laws.proofs.Moments.{IsPast}
use Rattle.mb_views.proofs.HeldSound.{chosen_all}
use Rattle.mb_views.proofs.OwnSeen.{SeenOpen, seen_open}
use Rattle.mb_views.proofs.ShownLists.{all_map}
use Rattle.mb_views.proofs.KnownCerts.{IsKnownClaim, IsKnownCert}
use Rattle.mb_msg.specs.Bodies.{inside_whole}
use Rattle.mb_views.proofs.KnownStable.{EntryKnown, BodyKnown, ChangeKnown, plan_known, given_change, given_changes, accepted_claims, left, right}

module _ {S : Type 0} (system : System S) (w : World) (f : Facts system w) (h : ℕ) (correct : IsCorrect system.schedule h) where
  abbrev self : Identity S
  self = self_of system h

  abbrev Known : StableCert → Type 0
  Known c = IsKnownCert system w f h correct c

  abbrev pub Entries : StampedMessage → Type 0
  Entries m = EntryKnown system w f h correct (as_shown m)

  abbrev Changes : ViewChange → Type 0
  Changes m = ChangeKnown system w f h correct m

  -- ---- the own log, in the forms in which it is shown

  opening_known : (x : StampedMessage) → Entries x → Entries (behind_opening x)
  opening_known (stamped.Open m) k = λ c e. absurd cc
  opening_known (stamped.Prepare m) k = tt
  opening_known (stamped.Commit m) k = tt
  opening_known x k = k

  change_known : (x : StampedMessage) → Entries x → Entries (behind_change x)
  change_known (stamped.ViewChange m) k = tt
  change_known (stamped.NewView m) k = tt
  change_known x k = k

  shown_known : (d : History) → AllByRecursion Entries (all_stamped d) → AllByRecursion (EntryKnown system w f h correct) (map as_shown (reverse (log_kept self d)))
  shown_known d a = all_map (EntryKnown system w f h correct) as_shown (reverse (log_kept self d)) (all_reverse Entries (log_kept self d) (all_taken Entries (counter_of d - log_start self d) (kept_forms (all_stamped d)) (forms_keep Entries opening_known change_known (all_stamped d) a)))

  -- ---- all that is held

  pub record AllKnown (d : History) : Type 0 where
    pub stable : Known (stable_of self d)
    pub plan : (p : ℕ × Plan) → plan_held self d ≡ Some p → Known p.1.base
    pub changes : AllByRecursion Changes (changes_of self d)
    pub stamps : AllByRecursion Entries (all_stamped d)

  -- what a stamp shows
  pub stamp_known : (d : History) (m : StampedMessage) → Makes self d m → AllKnown d → Entries m
  stamp_known d (stamped.Open m) a k =
      let s : SeenOpen self d m = seen_open self d m a in
      λ c e. subst Known (some_is s.plan.base c (rw s.body at e)) (k.plan (s.held.0, s.plan) s.held.1)
  stamp_known d (stamped.Join m) (e, is) k =
      let made : Join = record { view = view_of self d; evidence = join_evidence self d; stable = stable_of self d; ui = next_ui self d (bare_of (join self d)) } in
      subst (λ (y : Join). Known y.stable) (same made m is) k.stable where
        same : (x y : Join) → stamped.Join x ≡ stamped.Join y → x ≡ y
        same x y e = cc
  stamp_known d (stamped.Prepare m) a k = tt
  stamp_known d (stamped.Commit m) a k = tt
  stamp_known d (stamped.Checkpoint m) a k = tt
  stamp_known d (stamped.ViewChange m) a k = tt
  stamp_known d (stamped.NewView m) a k = tt
  stamp_known d (stamped.Enter m) a k = tt

  -- a VIEW_CHANGE that comes to be stored
  pub stored_known : (d : History) (x : Entry) → IsPast (x ∷ d) (w.histories h) → Adds self d x → AllKnown d → (m : ViewChange) → change_in self d x ≡ Some m → Changes m
  unfolding claims_in stamped_claims
  stored_known d (Accepted (message.ViewChange n)) past a k m e =
      let t = if_some (is_whole n.body && is_current self d n.view) (Some n) m e in
      subst Changes (some_is n m t.1) (given_change system w f h correct n (left system w f h correct (inside_whole (change_claims system.schedule.shape) n.body) _ (accepted_claims system w f h correct (message.ViewChange n) d past)))
  stored_known d (Stamped (stamped.ViewChange n)) past (view, on, is) k m e =
      let t = if_some (is_whole n.body && is_none (change_fault self n)) (Some n) m e in
      let made : ViewChange = record { view = view; body = Whole (proof_of self d); ui = next_ui self d (bare_of (view_change self d view)) } in
      subst Changes (some_is n m t.1) (subst Changes (same made n is)
      (λ b whole. subst (BodyKnown system w f h correct) (same_whole (proof_of self d) b whole) (record { stable = k.stable; entries = shown_known d k.stamps }))) where
        same : (x y : ViewChange) → stamped.ViewChange x ≡ stamped.ViewChange y → x ≡ y
        same x y e = cc
  stored_known d x past a k m e = absurd cc

  pub arrived_known : (x : Option ViewChange) (l : List ViewChange) → ((m : ViewChange) → x ≡ Some m → Changes m) → AllByRecursion Changes l → AllByRecursion Changes (arrived self x l)
  arrived_known None l new a = a
  arrived_known (Some m) l new a = all_append Changes (filter (λ c. not (c.ui.host == m.ui.host)) l) (m ∷ []) (all_filter Changes (λ c. not (c.ui.host == m.ui.host)) l a) (new m refl, tt)

  new_view_known : (m : NewView) → ((b : NewViewBody) → m.body ≡ Whole b → AllByRecursion Changes b.changes) → (p : ℕ × Plan) → plan_in_new_view self m ≡ Some p → Known p.1.base
  new_view_known m all p e = go m.body refl where
    go : (b : Body NewViewBody) → m.body ≡ b → Known p.1.base
    go (Short d) is = absurd (none_some p (rw is at e))
    go (Whole b) is = subst (λ (q : ℕ × Plan). Known q.1.base) (some_is (m.view, plan_from self b.changes) p (rw is at e)) (plan_known system w f h correct b.changes (all b is))

  pub brought_known : (d : History) (x : Entry) → IsPast (x ∷ d) (w.histories h) → Adds self d x → AllKnown d → (p : ℕ × Plan) → plan_in self d (plan_held self d) x ≡ Some p → Known p.1.base
  unfolding claims_in stamped_claims
  brought_known d (Accepted (message.NewView m)) past a k p e =
      let t = if_some (is_current self d m.view) (plan_in_new_view self m) p e in
      let all = left system w f h correct (inside_whole (new_view_claims system.schedule.shape) m.body) _ (accepted_claims system w f h correct (message.NewView m) d past) in
      new_view_known m (λ b is. given_changes system w f h correct b.changes (rw is at all)) p t.1
  brought_known d (Stamped (stamped.NewView m)) past (changes, on, is) k p e =
      let plan : Plan = plan_from self changes in
      let made : NewView = record { view = view_of self d; base = plan.base.pos; end = plan_end plan; plan = plan_digest plan; body = Whole (record { changes = changes }); ui = next_ui self d (bare_of (new_view self d changes)) } in
      new_view_known m (λ b whole. subst (λ (y : NewViewBody). AllByRecursion Changes y.changes) (same_whole (record { changes = changes }) b (ap (λ (y : NewView). y.body) (same made m is) ∙ whole))
      (chosen_all self Changes d k.changes (view_of self d) changes (announce_seen self d changes on).1)) p e where
        same : (x y : NewView) → stamped.NewView x ≡ stamped.NewView y → x ≡ y
        same x y e = cc
  brought_known d (Accepted (message.Open m)) past a k p e =
      let t = if_some (gives_plan self d (plan_held self d) m.evidence) (plan_in_open m) p e in
      let all = right system w f h correct (evidence_claims system.schedule.shape m.evidence) (inside_whole open_body_claims m.body)
      (left system w f h correct (evidence_claims system.schedule.shape m.evidence ++ inside_whole open_body_claims m.body) _ (accepted_claims system w f h correct (message.Open m) d past)) in
      go m.body refl all t.1 where
        go : (b : Body OpenBody) → m.body ≡ b → ((x : _) → In (inside_whole open_body_claims m.body) x → IsKnownClaim system w f h correct x) → plan_in_open m ≡ Some p → Known p.1.base
        go (Short z) is all e = absurd (none_some p (rw is at e))
        go (Whole b) is all e = subst (λ (q : ℕ × Plan). Known q.1.base) (some_is (m.evidence.view, record { base = b.stable; batches = b.batches }) p (rw is at e)) (rw is at all)
  brought_known d x past a k p e = absurd cc
