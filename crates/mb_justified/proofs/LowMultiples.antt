-- The stable position of a correct host is a multiple of the interval, and a CHECKPOINT that it keeps above it is one or two intervals above.
use Rattle.std.proofs.Common.{◌≡◌, ℕ, suc, ◌+◌, ◌≤◌, ◌<◌, ◌⊎◌, List, [], ◌∷◌, refl, sym, ap, subst, ◌∙◌, inl, inr, arith, Option, Some, None}
use Rattle.std.specs.Prelude.{◌==◌, ◌*◌, ◌/◌, ◌%◌, nat_lt, nat_le}
use Rattle.std.proofs.Math.Nat.{div-add-mod, mul-le-mul_left, mul-suc, zero-mod, add-mod_right, eq-or-lt_of_le}
use Rattle.std.proofs.lemmas.Bool.{cases_Bool, and_parts, eqb-true, leb-true, ltb-false, cases_lt}
use Rattle.mb_base.specs.Shapes.{interval, span}
use Rattle.mb_parts.specs.declared.certificates.StableCert.{StableCert}
use Rattle.mb_parts.specs.Ordered.{permits, last_checkpoint}
use Rattle.mb_msg.specs.declared.message.Message.TheVariants as message
use Rattle.mb_msg.specs.declared.normal.Checkpoint.{Checkpoint}
use Rattle.mb_msg.specs.declared.change.Plan.{Plan}
use Rattle.mb_msg.specs.declared.stamped.Stamped.TheVariants as stamped
use Rattle.mb_msg.specs.Stamps.{bare_of}
use Rattle.mb_msg.specs.Fits.{FitsJoin, FitsLog}
use Rattle.mb_model.specs.Histories.{Entry, Accepted, Stamped, Executed, History, Identity, origin, taken_of}
use Rattle.mb_model.specs.Held.{plan_in, plan_held}
use Rattle.mb_model.specs.Positions.{in_window, position_limit}
use Rattle.mb_model.specs.Stable.{checkpoint_in, checkpoints_at, first_agreed, stable_cert, agreed_at, agreed_above, stable_of, low_of, learnt_in, further, plan_base}
use Rattle.mb_model.specs.Sending.{next_ui}
use Rattle.mb_model.specs.Making.{checkpoint, present_parts, floors_under}
use Rattle.mb_model.specs.States.{state_digest}
use Rattle.mb_msg.specs.declared.message.Body.TheVariants.{Whole}
use Rattle.mb_model.proofs.Options.{or_some, if_some}
use Rattle.mb_steps.specs.Arises.{Adds, JustExecuted}
use Rattle.mb_steps.proofs.StepHeldEvidence.{some_is, then_some_of}
use Rattle.mb_world_model.specs.WorldEvents.{IsCorrect}
use Rattle.mb_world_model.specs.World.{World, System, self_of}
use Rattle.mb_host_laws.proofs.Cases.{some_or}
use Rattle.mb_world_laws.proofs.Facts.{Facts}
use Rattle.mb_host_laws.proofs.Moments.{IsPast, past_tail, each_at}
use Rattle.mb_world_laws.proofs.AcceptedParts.{accepted_fits}
use Rattle.mb_host_laws.proofs.Executing.{IsExecution}
use Rattle.mb_one_log.proofs.Executions.{executed_so}
use Rattle.mb_views.proofs.PlanMoments.{low_grows}
use Rattle.mb_views.proofs.HeldSound.{held_sound}

-- ---- multiples

whole_part : (k n : ℕ) → n % k ≡ 0 → n ≡ k * (n / k)
whole_part k n e = omega (arith, div-add-mod n k, e)

-- A multiple above a multiple, at most two intervals, is one or two intervals above.
pub next_multiple : (k low p : ℕ) → 0 < k → low % k ≡ 0 → p % k ≡ 0 → low < p → p ≤ low + 2 * k → (p ≡ low + 2 * k) ⊎ (p ≡ low + k)
next_multiple k low p pos a b above within = go (whole_part k low a) (whole_part k p b) where
  fewer : (x y : ℕ) → y ≤ x → k * y ≤ k * x
  fewer x y le = mul-le-mul_left k le

  go : low ≡ k * (low / k) → p ≡ k * (p / k) → (p ≡ low + 2 * k) ⊎ (p ≡ low + k)
  go l q = cases (eq-or-lt_of_le {n = low / k + 1} {m = p / k} more) where
    more : low / k + 1 ≤ p / k
    more = elim (cases_lt (low / k) (p / k)) [
      | inl lt ↦ omega (arith, lt)
      | inr ge ↦ absurd (omega (arith, fewer (low / k) (p / k) ge, l, q, above))
    ]

    cases : (low / k + 1 ≡ p / k) ⊎ (low / k + 1 < p / k) → (p ≡ low + 2 * k) ⊎ (p ≡ low + k)
    cases (inl one) = inr (q ∙ ap (λ (n : ℕ). k * n) (sym one ∙ omega arith) ∙ mul-suc k (low / k) ∙ omega (arith, l))
    cases (inr two) = inl (q ∙ exact) where
      least : k * (suc (suc (low / k))) ≤ k * (p / k)
      least = fewer (p / k) (suc (suc (low / k))) (omega (arith, two))

      exact : k * (p / k) ≡ low + 2 * k
      exact = omega (arith, least, mul-suc k (suc (low / k)), mul-suc k (low / k), l, q, within)

module _ {S : Type 0} (system : System S) (w : World) (f : Facts system w) (h : ℕ) (correct : IsCorrect system.schedule h) where
  abbrev self : Identity S
  self = self_of system h

  abbrev k : ℕ
  k = interval system.schedule.shape

  -- the position of a certificate that is made of CHECKPOINTs
  pub agreed_place : (d : History) (pos : ℕ) (c : StableCert) → agreed_at system.schedule.shape d pos ≡ Some c → c.pos ≡ pos
  unfolding agreed_at
  agreed_place d pos c e =
      let t = then_some_of (stable_cert system.schedule.shape pos) (first_agreed _ _ (checkpoints_at system.schedule.shape d pos) (checkpoints_at system.schedule.shape d pos)) c e in
      placed t.0 c t.2 where
        placed : (l : List Checkpoint) (c : StableCert) → stable_cert system.schedule.shape pos l ≡ Some c → c.pos ≡ pos
        placed [] c e = absurd cc
        placed (m ∷ l) c e = ap (λ (y : StableCert). y.pos) (sym (some_is _ c e))

  above_multiple : (d : History) (low : ℕ) (c : StableCert) → low % k ≡ 0 → agreed_above system.schedule.shape d low ≡ Some c → c.pos % k ≡ 0
  above_multiple d low c m e = elim (or_some (agreed_at system.schedule.shape d (low + span system.schedule.shape)) (agreed_at system.schedule.shape d (low + k)) c e) [
    | inl far ↦ ap (λ (n : ℕ). n % k) (agreed_place d (low + span system.schedule.shape) c far ∙ twice low k) ∙ add-mod_right (low + k) k ∙ add-mod_right low k ∙ m
    | inr near ↦ ap (λ (n : ℕ). n % k) (agreed_place d (low + k) c near) ∙ add-mod_right low k ∙ m
  ] where
    twice : (a b : ℕ) → a + 2 * b ≡ (a + b) + b
    twice a b = omega arith

  plan_multiple : (d : History) (x : Entry) → IsPast (x ∷ d) (w.histories h) → (c : StableCert) → plan_base (plan_in self d (plan_held self d) x) ≡ Some c → c.pos % k ≡ 0
  unfolding plan_held
  plan_multiple d x past c e = go (plan_in self d (plan_held self d) x) refl e where
    go : (o : Option (ℕ × Plan)) → plan_in self d (plan_held self d) x ≡ o → plan_base o ≡ Some c → c.pos % k ≡ 0
    go None is e = absurd cc
    go (Some p) is e =
        let sound = held_sound system w f h correct (x ∷ d) past p (some_or (plan_in self d (plan_held self d) x) (plan_held self d) p is) in
        subst (λ (y : StableCert). y.pos % k ≡ 0) (some_is p.1.base c e) sound.0.1.pos.1

  learnt_multiple : (d : History) (x : Entry) → IsPast (x ∷ d) (w.histories h) → (low : ℕ) → low % k ≡ 0 → (c : StableCert) → learnt_in self d low x ≡ Some c → c.pos % k ≡ 0
  learnt_multiple d (Accepted (message.Join m)) past low l c e =
      let fits : FitsJoin system.schedule.shape m = accepted_fits system w f h (message.Join m) d (each_at _ (Accepted (message.Join m) ∷ d) (w.histories h) past (f.standing.rests h)).0 in
      subst (λ (y : StableCert). y.pos % k ≡ 0) (some_is m.stable c e) fits.stable.pos.1
  learnt_multiple d (Accepted (message.Log m)) past low l c e =
      let fits : FitsLog system.schedule.shape m = accepted_fits system w f h (message.Log m) d (each_at _ (Accepted (message.Log m) ∷ d) (w.histories h) past (f.standing.rests h)).0 in
      subst (λ (y : StableCert). y.pos % k ≡ 0) (some_is m.stable c e) fits.stable.pos.1
  learnt_multiple d (Accepted (message.Checkpoint m)) past low l c e = above_multiple (Accepted (message.Checkpoint m) ∷ d) low c l (if_some (nat_le low m.pos) (agreed_above system.schedule.shape (Accepted (message.Checkpoint m) ∷ d) low) c e).1
  learnt_multiple d (Stamped (stamped.Checkpoint m)) past low l c e = above_multiple (Stamped (stamped.Checkpoint m) ∷ d) low c l (if_some (nat_le low m.pos) (agreed_above system.schedule.shape (Stamped (stamped.Checkpoint m) ∷ d) low) c e).1
  learnt_multiple d x past low l c e = plan_multiple d x past c e

  further_multiple : (old : StableCert) (x : Option StableCert) → old.pos % k ≡ 0 → ((c : StableCert) → x ≡ Some c → c.pos % k ≡ 0) → (further old x).pos % k ≡ 0
  further_multiple old None o new = o
  further_multiple old (Some c) o new = elim (cases_Bool (nat_lt old.pos c.pos)) [
    | inl more ↦ rw more (new c refl)
    | inr less ↦ rw less o
  ]

  pub low_multiple : (d : History) → IsPast d (w.histories h) → low_of self d % k ≡ 0
  unfolding stable_of
  low_multiple [] past = zero-mod k
  low_multiple (x ∷ d) past =
      let low = low_multiple d (past_tail x d (w.histories h) past) in
      further_multiple (stable_of self d) (learnt_in self d (stable_of self d).pos x) low (λ c e. learnt_multiple d x past (stable_of self d).pos low c e)

  -- ---- CHECKPOINTs that are kept

  pub record IsPlaced (d : History) (m : Checkpoint) : Type 0 where
    pub multiple : m.pos % k ≡ 0
    pub within : m.pos ≤ low_of self d + span system.schedule.shape

  executed_within : (d : History) (p : ℕ) → IsPast d (w.histories h) → JustExecuted self d p → p ≤ low_of self d + span system.schedule.shape
  executed_within (Executed slot ∷ d) p past same =
      let r : IsExecution self d slot = executed_so self d (w.histories h) slot (f.arises h) past in
      let t = if_some (in_window self d slot.pos) _ r.known r.there in
      let a = and_parts (nat_lt (low_of self d) slot.pos) _ t.0 in
      let b = and_parts (nat_le slot.pos (low_of self d + span system.schedule.shape)) (nat_le slot.pos position_limit) a.1 in
      let le = leb-true slot.pos (low_of self d + span system.schedule.shape) b.0 in
      omega (arith, le, same, low_grows self (Executed slot ∷ []) d)
  executed_within d p past same = absurd same

  accepted_placed : (d : History) (m : Checkpoint) → Adds self d (Accepted (message.Checkpoint m)) → IsPlaced d m
  unfolding permits
  accepted_placed d m a =
      let allowed = a.gate.permitted in
      let parts = and_parts (m.pos % k == 0) (nat_lt (last_checkpoint (origin d m.ui.host) (taken_of d m.ui.host)) m.pos) allowed in
      record { multiple = eqb-true (m.pos % k) 0 parts.0; within = ltb-false (low_of self d + span system.schedule.shape) m.pos a.kind }

  stamped_placed : (d : History) (m : Checkpoint) → IsPast d (w.histories h) → Adds self d (Stamped (stamped.Checkpoint m)) → IsPlaced d m
  stamped_placed d m past (p, just, whole, is) =
      let made : Checkpoint = record { pos = p; state = state_digest (present_parts self d) p; body = Whole (record { floors = floors_under self d p }); ui = next_ui self d (bare_of (checkpoint self d p)) } in
      let place : p ≡ m.pos = ap (λ (y : Checkpoint). y.pos) (same made m is) in
      record { multiple = subst (λ (n : ℕ). n % k ≡ 0) place (eqb-true (p % k) 0 whole); within = subst (λ (n : ℕ). n ≤ low_of self d + span system.schedule.shape) place (executed_within d p past just) } where
        same : (x y : Checkpoint) → stamped.Checkpoint x ≡ stamped.Checkpoint y → x ≡ y
        same x y e = cc

  pub placed : (d : History) (x : Entry) → IsPast (x ∷ d) (w.histories h) → Adds self d x → (m : Checkpoint) → checkpoint_in x ≡ Some m → IsPlaced d m
  placed d (Accepted (message.Checkpoint n)) past a m e = subst (IsPlaced d) (some_is n m e) (accepted_placed d n a)
  placed d (Stamped (stamped.Checkpoint n)) past a m e = subst (IsPlaced d) (some_is n m e) (stamped_placed d n (past_tail (Stamped (stamped.Checkpoint n)) d (w.histories h) past) a)
  placed d x past a m e = absurd cc
