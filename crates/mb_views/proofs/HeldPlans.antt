-- The plan that a correct host holds is known: its string is hashed, and its digest stands for it.
use Rattle.std.proofs.Common.{◌≡◌, ℕ, true, List, [], ◌∷◌, refl, ap, subst, inl, inr, Option, Some, None}
use Rattle.std.specs.Prelude.{not, ◌==◌}
use Rattle.std.specs.List.{AllByRecursion}
use Rattle.std.proofs.lemmas.Bool.{and_parts}
use Rattle.mb_base.specs.Shapes.{Bytes}
use Rattle.mb_parts.specs.Fits.{FitsStable}
use Rattle.mb_msg.specs.declared.message.Body.{Body}
use Rattle.mb_msg.specs.declared.message.Body.TheVariants.{Whole, Bare as Short}
use Rattle.mb_msg.specs.declared.message.Message.TheVariants as message
use Rattle.mb_msg.specs.declared.change.NewViewBody.{NewViewBody}
use Rattle.mb_msg.specs.declared.change.Open.{Open as OpenMessage}
use Rattle.mb_msg.specs.declared.change.OpenBody.{OpenBody}
use Rattle.mb_msg.specs.declared.change.ViewChange.{ViewChange}
use Rattle.mb_msg.specs.declared.change.Plan.{Plan}
use Rattle.mb_msg.specs.declared.stamped.Stamped.TheVariants as stamped
use Rattle.mb_msg.specs.Bodies.{FitsBody, whole_body}
use Rattle.mb_msg.specs.Fits.{FitsOpen, FitsOpenBody}
use Rattle.mb_msg.specs.Plans.{plan_text, plan_digest}
use Rattle.mb_agreement.specs.Agreement.{text_of}
use Rattle.mb_model.specs.Histories.{Entry, Accepted, Stamped, History, Identity}
use Rattle.mb_model.specs.Held.{is_current, plan_from, logs_of, plan_in_new_view, plan_in_open, gives_plan, plan_in, plan_held, plan_of_view, plan_at}
use Rattle.mb_model.specs.UsableLogs.{is_comparable_body}
use Rattle.mb_model.specs.KindChecks.{is_body_of, opening_fault}
use Rattle.mb_model.specs.GateChecks.{valid}
use Rattle.mb_model.specs.Compared.{compared_in}
use Rattle.mb_model.specs.Plans.{plan_of}
use Rattle.mb_model.specs.Passed.{PassesStamped}
use Rattle.mb_model.specs.Members.{In}
use Rattle.mb_model.proofs.Options.{or_some, if_some, map_some, then_none}
use Rattle.mb_world_model.specs.WorldEvents.{IsCorrect}
use Rattle.mb_world_model.specs.World.{World, System, self_of}
use Rattle.mb_world_model.specs.WorldRecord.{plans}
use Rattle.mb_host_laws.proofs.Cases.{not_false, some_is}
use Rattle.mb_host_laws.proofs.Found.{gives_current}
use Rattle.mb_host_laws.specs.Rests.{Each, Rests}
use Rattle.mb_world_laws.proofs.Grown.{IsGivenTo, IsHashed, HasStrings}
use Rattle.mb_world_laws.proofs.Facts.{Facts}
use Rattle.mb_views.proofs.Follows.{JumpsLed}
use Rattle.mb_host_laws.proofs.Moments.{IsPast, past_tail, each_at}
use Rattle.mb_views.proofs.Floors.{arises_then}
use Rattle.mb_views.proofs.KnownPlans.{stable_base}
use Rattle.mb_views.proofs.Planned.{plans_known}
use Rattle.mb_host_laws.proofs.PlanFits.{plan_fits}
use Rattle.mb_world_laws.proofs.AcceptedParts.{accepted_fits}
use Rattle.mb_views.proofs.HeldChanges.{gate_passed, whole_none}
use Rattle.mb_views.proofs.GoodPlans.{IsGoodPlan, accepted_plan}
use Rattle.mb_views.proofs.OwnPlans.{announced_plan}
use Rattle.mb_views.proofs.MadeOf.{are_logs}

module _ {S : Type 0} (system : System S) (w : World) (f : Facts system w) (jumps : (h : ℕ) → IsCorrect system.schedule h → Each (JumpsLed system w f) (w.histories h)) where
  -- Its base fits, and its digest stands for it.
  pub record IsPlanKnown (p : Plan) : Type 0 where
    pub base : FitsStable system.schedule.shape p.base
    pub hashed : In w.hashed (plan_text p)
    pub known : plans system.schedule w (plan_digest p) ≡ Some (text_of p)

  known_where : (p : Plan) → FitsStable system.schedule.shape p.base → In w.hashed (plan_text p) → IsPlanKnown p
  known_where p fits hashed = record { base = fits; hashed = hashed; known = plans_known w.hashed p (plan_digest p) f.apart hashed (stable_base system.schedule.shape p.base fits) refl }

  good_known : (v b e : ℕ) (d : Bytes) (changes : List ViewChange) → IsGoodPlan system w v b e d changes → IsPlanKnown (plan_of system.schedule.shape (logs_of changes))
  good_known v b e d changes g = known_where (plan_of system.schedule.shape (logs_of changes)) (plan_fits system.schedule.shape (logs_of changes) (are_logs system w f jumps v changes g.members).fits) g.hashed

  abbrev Known : ℕ × Plan → Type 0
  Known p = IsPlanKnown p.1

  open_known : (h : ℕ) (m : OpenMessage) (b : OpenBody) (d : History) → IsCorrect system.schedule h → IsPast (Accepted (message.Open m) ∷ d) (w.histories h) → m.body ≡ Whole b → is_current (self_of system h) d m.evidence.view ≡ true
      → IsPlanKnown (record { base = b.stable; batches = b.batches })
  unfolding compared_in
  open_known h m b d correct past is current =
      let self : Identity S = self_of system h in
      let r : Rests self (IsGivenTo system.schedule w h) (IsHashed system.schedule w) (HasStrings system.schedule w) (Accepted (message.Open m)) d = (each_at _ (Accepted (message.Open m) ∷ d) (w.histories h) past (f.standing.rests h)).0 in
      let a : PassesStamped self d (stamped.Open m) = (arises_then system w f h correct (jumps h correct) (Accepted (message.Open m) ∷ d) past).0 in
      let fits : FitsOpen system.schedule.shape m = accepted_fits system w f h (message.Open m) d r in
      let body : FitsOpenBody system.schedule.shape m.evidence b = subst (λ (x : Body OpenBody). FitsBody (FitsOpenBody system.schedule.shape m.evidence) x) is fits.body in
      let sound : is_body_of self m.evidence b ≡ true = not_false (is_body_of self m.evidence b) (then_none (not (is_body_of self m.evidence b)) (0, 8) (whole_none (opening_fault self m.evidence) m.body b is (a.kind current))) in
      let c = and_parts (is_comparable_body system.schedule.shape system.schedule.secret (valid self) m.evidence.base m.evidence.end b) _ sound in
      let strings : AllByRecursion (IsHashed system.schedule w) (plan_text (record { base = b.stable; batches = b.batches }) ∷ []) =
      rw c.0 at (rw (gate_passed self d (stamped.Open m) a.gate, current, is) at r.1) in
      known_where (record { base = b.stable; batches = b.batches }) body.0.0 strings.0

  entry_known : (h : ℕ) (e : Entry) (d : History) → IsCorrect system.schedule h → IsPast (e ∷ d) (w.histories h) → (p : ℕ × Plan) → plan_in (self_of system h) d (plan_held (self_of system h) d) e ≡ Some p → Known p
  entry_known h (Accepted (message.NewView m)) d correct past p e =
      let self : Identity S = self_of system h in
      let t = if_some (is_current self d m.view) (plan_in_new_view self m) p e in
      let b = map_some (λ (b : NewViewBody). (m.view, plan_from self b.changes)) (whole_body m.body) p t.1 in
      let body : m.body ≡ Whole b.0 = whole_of m.body b.0 b.1 in
      subst Known b.2 (good_known m.view m.base m.end m.plan b.0.changes (accepted_plan system w f jumps h m b.0 d correct past body t.0)) where
        whole_of : (x : Body NewViewBody) (b : NewViewBody) → whole_body x ≡ Some b → x ≡ Whole b
        whole_of (Whole y) b e = ap Whole (some_body y b e) where
          some_body : (x y : NewViewBody) → Some x ≡ Some y → x ≡ y
          some_body x y e = cc
        whole_of (Short y) b e = absurd cc
  entry_known h (Stamped (stamped.NewView m)) d correct past p e =
      let self : Identity S = self_of system h in
      let a = announced_plan system w f jumps h correct m d past in
      let is : Some (m.view, plan_from self a.0) ≡ Some p = rw a.2 at e in
      subst Known (some_is (m.view, plan_from self a.0) p is) (good_known m.view m.base m.end m.plan a.0 a.1)
  entry_known h (Accepted (message.Open m)) d correct past p e =
      let self : Identity S = self_of system h in
      let t = if_some (gives_plan self d (plan_held self d) m.evidence) (plan_in_open m) p e in
      let b = map_some (λ (b : OpenBody). (m.evidence.view, record { base = b.stable; batches = b.batches })) (whole_body m.body) p t.1 in
      let body : m.body ≡ Whole b.0 = whole_of m.body b.0 b.1 in
      subst Known b.2 (open_known h m b.0 d correct past body (gives_current self d (plan_held self d) m.evidence t.0)) where
        whole_of : (x : Body OpenBody) (b : OpenBody) → whole_body x ≡ Some b → x ≡ Whole b
        whole_of (Whole y) b e = ap Whole (some_body y b e) where
          some_body : (x y : OpenBody) → Some x ≡ Some y → x ≡ y
          some_body x y e = cc
        whole_of (Short y) b e = absurd cc
  entry_known h e d correct past p is = absurd cc

  -- The plan that is held is known.
  pub held_plan_known : (h : ℕ) (d : History) → IsCorrect system.schedule h → IsPast d (w.histories h) → (p : ℕ × Plan) → plan_held (self_of system h) d ≡ Some p → IsPlanKnown p.1
  unfolding plan_held
  held_plan_known h [] correct past p e = absurd cc
  held_plan_known h (x ∷ d) correct past p e = elim (or_some (plan_in (self_of system h) d (plan_held (self_of system h) d) x) (plan_held (self_of system h) d) p e) [
    | inl new ↦ entry_known h x d correct past p new
    | inr old ↦ held_plan_known h d correct (past_tail x d (w.histories h) past) p old
  ]

  pub plan_at_known : (h v : ℕ) (d : History) → IsCorrect system.schedule h → IsPast d (w.histories h) → (p : Plan) → plan_at (self_of system h) d v ≡ Some p → IsPlanKnown p
  plan_at_known h v d correct past p e = go (plan_held (self_of system h) d) refl e where
    go : (x : Option (ℕ × Plan)) → plan_held (self_of system h) d ≡ x → plan_of_view v x ≡ Some p → IsPlanKnown p
    go None is e = absurd cc
    go (Some q) is e = subst IsPlanKnown (some_is q.1 p (if_some (q.0 == v) (Some q.1) p e).1) (held_plan_known h d correct past q is)
