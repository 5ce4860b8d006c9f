-- The batches of the plan that a correct host holds are sound, where those are that it stamped so far.
--
-- A plan is of VIEW_CHANGEs, each accepted as usable or the host's own, or it came with an OPEN whose body was found right.
use Rattle.std.proofs.Common.{◌≡◌, ℕ, ◌+◌, Bool, true, not, List, [], ◌∷◌, length, refl, sym, subst, inl, inr, Option, Some, None}
use Rattle.std.specs.Prelude.{◌==◌, nat_le, take, find, filter, option_map}
use Rattle.std.specs.List.{AllByRecursion, flat_map, range_with_len}
use Rattle.std.proofs.lemmas.Bool.{cases_Bool}
use Rattle.std.proofs.lemmas.List.Concat.{flat_map-cons}
use Rattle.mb_base.specs.Shapes.{quorum, host_count}
use Rattle.mb_parts.specs.declared.request.Request.{Request}
use Rattle.mb_parts.specs.Fits.{FitsRequest}
use Rattle.mb_msg.specs.declared.message.Body.{Body}
use Rattle.mb_msg.specs.declared.message.Body.TheVariants.{Whole}
use Rattle.mb_msg.specs.declared.message.Message.TheVariants as message
use Rattle.mb_msg.specs.declared.change.ViewChange.{ViewChange}
use Rattle.mb_msg.specs.declared.change.NewView.{NewView}
use Rattle.mb_msg.specs.declared.change.NewViewBody.{NewViewBody}
use Rattle.mb_msg.specs.declared.change.Open.{Open as OpenMessage}
use Rattle.mb_msg.specs.declared.change.OpenBody.{OpenBody}
use Rattle.mb_msg.specs.declared.change.Plan.{Plan}
use Rattle.mb_msg.specs.declared.stamped.Stamped.TheVariants as stamped
use Rattle.mb_msg.specs.Stamps.{bare_of}
use Rattle.mb_msg.specs.Plans.{plan_end, plan_digest}
use Rattle.mb_model.specs.Histories.{Entry, Accepted, Stamped, History, Identity, view_of}
use Rattle.mb_model.specs.Held.{change_fault, is_current, changes_of, by_rising_host, chosen, plan_from, logs_of, plan_in_new_view, plan_in_open, plan_in, plan_held, plan_of_view, plan_at, gives_plan}
use Rattle.mb_model.specs.GateChecks.{valid}
use Rattle.mb_model.specs.KindChecks.{is_member, member_fault, members_fault, new_view_fault, opening_fault, is_body_of}
use Rattle.mb_model.specs.Sending.{next_ui}
use Rattle.mb_model.specs.Making.{new_view}
use Rattle.mb_model.proofs.Options.{or_some, or_none, then_none, if_some, map_some}
use Rattle.mb_model.proofs.UsableLaws.{map_none}
use Rattle.mb_model.specs.Members.{In}
use Rattle.mb_model.proofs.Members.{in_left, in_right}
use Rattle.mb_steps.specs.Arises.{Makes}
use Rattle.mb_steps.proofs.StepHeldEvidence.{announce_seen}
use Rattle.mb_steps.proofs.StepPlanBases.{all_filter, all_found, all_any}
use Rattle.mb_world_model.specs.WorldEvents.{IsCorrect}
use Rattle.mb_world_model.specs.World.{World, System, self_of}
use Rattle.mb_host_laws.proofs.Cases.{all_taken, member, not_false, some_is, whole_is}
use Rattle.mb_host_laws.proofs.Found.{gives_current}
use Rattle.mb_host_laws.specs.Rests.{Each}
use Rattle.mb_world_laws.proofs.Facts.{Facts}
use Rattle.mb_views.proofs.Follows.{JumpsLed}
use Rattle.mb_host_laws.proofs.Moments.{IsPast, past_tail}
use Rattle.mb_views.proofs.Floors.{arises_then}
use Rattle.mb_one_log.proofs.PlanBatches.{plan_all, plan_body_tagged}
use Rattle.mb_one_log.proofs.SoundBatches.{OfChange, logs_all, whole_none, IsOwn, brought_all, usable_change, own_tail, changes_sound, IsSoundBatch}
use Rattle.mb_msg.specs.Bodies.{whole_body, inside_whole}
use Rattle.mb_one_log.proofs.Batches.{change_batches, batches_in}
use Rattle.mb_parts.specs.declared.batch.Batch.{Batch}

find_some : (P : ViewChange → Type 0) (t : ViewChange → Bool) (l : List ViewChange) → AllByRecursion P l → (m : ViewChange) → find t l ≡ Some m → P m
find_some P t [] a m e = absurd cc
find_some P t (x ∷ l) a m e = elim (cases_Bool (t x)) [
  | inl here ↦ subst P (some_is x m (rw here at e)) a.0
  | inr other ↦ find_some P t l a.1 m (rw other at e)
]

module _ {S : Type 0} (system : System S) (w : World) (f : Facts system w) (jumps : (h : ℕ) → IsCorrect system.schedule h → Each (JumpsLed system w f) (w.histories h))
    (asked_fits : (r : Request) → In w.asked r → FitsRequest system.schedule.shape r) (h : ℕ) (correct : IsCorrect system.schedule h) where
  abbrev self : Identity S
  self = self_of system h

  abbrev R : Batch → Type 0
  R b = IsSoundBatch system w f jumps asked_fits b

  abbrev Own : History → Type 0
  Own d = IsOwn system w f jumps asked_fits d

  abbrev Past : History → Type 0
  Past d = IsPast d (w.histories h)

  -- ---- the plan that is held

  members_sound : (n : NewView) (d : History) → Past (Accepted (message.NewView n) ∷ d) → (view i : ℕ) (l : List ViewChange) → ((b : Batch) → In (flat_map change_batches l) b → In (batches_in (message.NewView n)) b)
      → members_fault self view i l ≡ None → AllByRecursion (OfChange R) l
  unfolding members_fault
  members_sound n d past view i [] g e = tt
  members_sound n d past view i (m ∷ l) g e =
      let a = or_none (option_map (λ reason. (i, reason)) (member_fault self view m)) (members_fault self view (i + 1) l) e in
      let joined = flat_map-cons change_batches m l in (
        usable_change system w f jumps asked_fits h (message.NewView n) d past m (λ r j. g r (subst (λ (y : List Batch). In y r) (sym joined) (in_left (change_batches m) (flat_map change_batches l) r j)))
            (member (is_member self view m) (change_fault self m) (map_none (λ reason. (i, reason)) (member_fault self view m) a.0)),
        members_sound n d past view (i + 1) l (λ r j. g r (subst (λ (y : List Batch). In y r) (sym joined) (in_right (change_batches m) (flat_map change_batches l) r j))) a.1,
      )

  from_changes : (changes : List ViewChange) → AllByRecursion (OfChange R) changes → AllByRecursion R (plan_from self changes).batches
  from_changes changes a = plan_all R system.schedule.shape (logs_of changes) (logs_all R changes a)

  new_view_sound : (n : NewView) (d : History) → Past (Accepted (message.NewView n) ∷ d) → is_current self d n.view ≡ true → (p : ℕ × Plan) → plan_in_new_view self n ≡ Some p → AllByRecursion R p.1.batches
  unfolding new_view_fault
  new_view_sound n d past current p e =
      let passes = (arises_then system w f h correct (jumps h correct) (Accepted (message.NewView n) ∷ d) past).0 in
      let t = map_some (λ (b : NewViewBody). (n.view, plan_from self b.changes)) (whole_body n.body) p e in
      let b : NewViewBody = t.0 in
      let is : n.body ≡ Whole b = whole_is n.body b t.1 in
      let none = whole_none (new_view_fault self n) n.body b is (passes.kind current) in
      subst (λ (q : ℕ × Plan). AllByRecursion R q.1.batches) t.2 (from_changes b.changes (members_sound n d past n.view 0 b.changes
      (λ r i. subst (λ (y : Body NewViewBody). In (inside_whole (λ (x : NewViewBody). flat_map change_batches x.changes) y) r) (sym is) i) (or_none (members_fault self n.view 0 b.changes) _ none).0))

  chosen_sound : (d : History) → Past d → Own d → (view : ℕ) (changes : List ViewChange) → chosen self d view ≡ Some changes → AllByRecursion (OfChange R) changes
  chosen_sound d past own view changes e =
      let l : List ViewChange = filter (λ c. c.view == view) (changes_of self d) in
      let t = if_some (nat_le (quorum self.shape) (length l)) (Some (by_rising_host self (take (quorum self.shape) l))) changes e in
      let first : AllByRecursion (OfChange R) (take (quorum self.shape) l) = all_taken (OfChange R) (quorum self.shape) l (all_filter (OfChange R) (λ c. c.view == view) (changes_of self d) (changes_sound system w f jumps asked_fits h correct d past own)) in
      subst (λ (y : List ViewChange). AllByRecursion (OfChange R) y) (some_is _ changes t.1)
      (all_found (λ (i : ℕ). Unit {0}) (OfChange R) (λ i. find (λ c. c.ui.host == i) (take (quorum self.shape) l)) (λ i m u g. find_some (OfChange R) (λ c. c.ui.host == i) (take (quorum self.shape) l) first m g)
      (range_with_len 0 (host_count self.shape)) (all_any (range_with_len 0 (host_count self.shape))))

  own_plan_sound : (n : NewView) (d : History) → Past (Stamped (stamped.NewView n) ∷ d) → Own d → (p : ℕ × Plan) → plan_in_new_view self n ≡ Some p → AllByRecursion R p.1.batches
  own_plan_sound n d past own p e =
      let makes : Makes self d (stamped.NewView n) = (arises_then system w f h correct (jumps h correct) (Stamped (stamped.NewView n) ∷ d) past).0 in
      let changes : List ViewChange = makes.0 in
      let plan : Plan = plan_from self changes in
      let made : NewView = record { view = view_of self d; base = plan.base.pos; end = plan_end plan; plan = plan_digest plan; body = Whole (record { changes = changes }); ui = next_ui self d (bare_of (new_view self d changes)) } in
      let same : made ≡ n = cc makes.2 in
      let there : plan_in_new_view self made ≡ Some p = subst (λ (y : NewView). plan_in_new_view self y ≡ Some p) (sym same) e in
      subst (λ (q : ℕ × Plan). AllByRecursion R q.1.batches) (some_is (view_of self d, plan) p there)
      (from_changes changes (chosen_sound d (past_tail (Stamped (stamped.NewView n)) d (w.histories h) past) own (view_of self d) changes (announce_seen self d changes makes.1).1))

  open_plan_sound : (m : OpenMessage) (d : History) → Past (Accepted (message.Open m) ∷ d) → is_current self d m.evidence.view ≡ true → (p : ℕ × Plan) → plan_in_open m ≡ Some p → AllByRecursion R p.1.batches
  open_plan_sound m d past current p e =
      let passes = (arises_then system w f h correct (jumps h correct) (Accepted (message.Open m) ∷ d) past).0 in
      let t = map_some (λ (b : OpenBody). (m.evidence.view, record { base = b.stable; batches = b.batches })) (whole_body m.body) p e in
      let b : OpenBody = t.0 in
      let is : m.body ≡ Whole b = whole_is m.body b t.1 in
      let none = whole_none (opening_fault self m.evidence) m.body b is (passes.kind current) in
      let body : is_body_of self m.evidence b ≡ true = not_false (is_body_of self m.evidence b) (then_none (not (is_body_of self m.evidence b)) (0, 8) none) in
      subst (λ (q : ℕ × Plan). AllByRecursion R q.1.batches) t.2 (brought_all system w f jumps asked_fits h (message.Open m) d past b.batches
      (λ r i. subst (λ (y : Body OpenBody). In (inside_whole (λ (x : OpenBody). x.batches) y) r) (sym is) i)
      (plan_body_tagged system.schedule.shape system.schedule.secret (valid self) m.evidence.base m.evidence.end m.evidence.plan b body))

  entry_plan : (e : Entry) (d : History) → Past (e ∷ d) → Own d → (held : Option (ℕ × Plan)) (p : ℕ × Plan) → plan_in self d held e ≡ Some p → AllByRecursion R p.1.batches
  entry_plan (Accepted (message.NewView n)) d past own held p e = let t = if_some (is_current self d n.view) (plan_in_new_view self n) p e in new_view_sound n d past t.0 p t.1
  entry_plan (Stamped (stamped.NewView n)) d past own held p e = own_plan_sound n d past own p e
  entry_plan (Accepted (message.Open m)) d past own held p e = let t = if_some (gives_plan self d held m.evidence) (plan_in_open m) p e in open_plan_sound m d past (gives_current self d held m.evidence t.0) p t.1
  entry_plan x d past own held p e = absurd cc

  plan_sound : (d : History) → Past d → Own d → (p : ℕ × Plan) → plan_held self d ≡ Some p → AllByRecursion R p.1.batches
  unfolding plan_held
  plan_sound [] past own p e = absurd cc
  plan_sound (x ∷ d) past own p e = elim (or_some (plan_in self d (plan_held self d) x) (plan_held self d) p e) [
    | inl new ↦ entry_plan x d past (own_tail system w f jumps asked_fits h correct x d own) (plan_held self d) p new
    | inr old ↦ plan_sound d (past_tail x d (w.histories h) past) (own_tail system w f jumps asked_fits h correct x d own) p old
  ]

  pub plan_at_sound : (d : History) → Past d → Own d → (view : ℕ) (plan : Plan) → plan_at self d view ≡ Some plan → AllByRecursion R plan.batches
  plan_at_sound d past own view plan e = go (plan_held self d) refl e where
    go : (o : Option (ℕ × Plan)) → plan_held self d ≡ o → plan_of_view view o ≡ Some plan → AllByRecursion R plan.batches
    go None is e = absurd cc
    go (Some p) is e = let t = if_some (p.0 == view) (Some p.1) plan e in subst (λ (q : Plan). AllByRecursion R q.batches) (some_is p.1 plan t.1) (plan_sound d past own p is)
