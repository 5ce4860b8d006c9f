-- CHECKPOINTs, the stable position and the floor of the own log behind an entry. A CHECKPOINT is within the window when it comes, and the stable
-- position never falls, so none is kept above the window.
use Rattle.std.proofs.Common.{◌≡◌, ℕ, ◌+◌, ◌≤◌, ◌<◌, Bool, true, false, ◌&&◌, [], ◌∷◌, refl, sym, ap, subst, ◌∙◌, inl, inr, arith, Option, Some, None, ◌⊎◌, List}
use Rattle.std.specs.Prelude.{◌==◌, nat_lt, nat_le, if◌then◌else◌, option_and_then}
use Rattle.std.specs.Option.{option_or}
use Rattle.std.proofs.lemmas.Bool.{and_parts, eqb-true, ltb-false, leb-true}
use Rattle.mb_base.specs.Shapes.{span, interval, quorum}
use Rattle.mb_parts.specs.declared.certificates.StableCert.{StableCert}
use Rattle.mb_msg.specs.declared.message.Message.TheVariants as message
use Rattle.mb_msg.specs.declared.normal.Checkpoint.{Checkpoint}
use Rattle.mb_msg.specs.declared.change.NewView.{NewView}
use Rattle.mb_msg.specs.declared.change.Open.{Open}
use Rattle.mb_msg.specs.declared.change.Join.{Join}
use Rattle.mb_msg.specs.declared.transfer.Log.{Log}
use Rattle.mb_msg.specs.declared.stamped.Stamped.{Stamped as StampedMessage}
use Rattle.mb_msg.specs.declared.stamped.Stamped.TheVariants as stamped
use Rattle.mb_model.specs.declared.known.KnownSlot.{KnownSlot}
use Rattle.mb_model.specs.Histories.{Entry, Accepted, Stamped, Executed, Installed, History, Identity, counter_of}
use Rattle.mb_model.specs.Held.{plan_held, plan_in_new_view, plan_in_open, gives_plan, is_current}
use Rattle.mb_model.specs.Stable.{checkpoint_in, checkpoint_by, checkpoint_of, agreed_above, floor_from, further, plan_base, stable_of, low_of, cut_by, log_floor, agreed_at, first_agreed, same_state, checkpoints_at, stable_cert}
use Rattle.mb_model.specs.Positions.{exec_of, position_limit, in_window}
use Rattle.mb_model.specs.EnabledRules.{Rule, execute_enabled, if_committed, rule_where}
use Rattle.mb_model.proofs.Options.{or_some, if_some}
use Rattle.mb_steps.specs.Arises.{Arises, JustExecuted}
use Rattle.mb_steps.proofs.StepHeldEvidence.{some_is}
use Rattle.mb_steps.proofs.StepPotential.{grown_low}

-- ---- CHECKPOINTs

-- one more, the last of its host at its position
pub checkpoint_put : (m : Checkpoint) (d : History) (h p : ℕ) → checkpoint_of (Accepted (message.Checkpoint m) ∷ d) h p ≡ option_or (checkpoint_by h p (Some m)) (checkpoint_of d h p)
unfolding checkpoint_of
checkpoint_put m d h p = refl

pub own_checkpoint_put : (m : Checkpoint) (d : History) (h p : ℕ) → checkpoint_of (Stamped (stamped.Checkpoint m) ∷ d) h p ≡ option_or (checkpoint_by h p (Some m)) (checkpoint_of d h p)
unfolding checkpoint_of
own_checkpoint_put m d h p = refl

module _ {S : Type 0} (self : Identity S) where
  -- ---- the stable position

  -- the greater of the old certificate and of the one that an entry brings
  pub stable_shown : (m : Join) (d : History) → stable_of self (Accepted (message.Join m) ∷ d) ≡ further (stable_of self d) (Some m.stable)
  unfolding stable_of
  stable_shown m d = refl

  pub stable_in_log : (m : Log) (d : History) → stable_of self (Accepted (message.Log m) ∷ d) ≡ further (stable_of self d) (Some m.stable)
  unfolding stable_of
  stable_in_log m d = refl

  -- that which a CHECKPOINT completes
  pub stable_agreed : (m : Checkpoint) (d : History) → stable_of self (Accepted (message.Checkpoint m) ∷ d)
      ≡ further (stable_of self d) (if nat_le (low_of self d) m.pos then agreed_above self.shape (Accepted (message.Checkpoint m) ∷ d) (low_of self d) else None)
  unfolding stable_of
  stable_agreed m d = refl

  pub own_stable_agreed : (m : Checkpoint) (d : History) → stable_of self (Stamped (stamped.Checkpoint m) ∷ d)
      ≡ further (stable_of self d) (if nat_le (low_of self d) m.pos then agreed_above self.shape (Stamped (stamped.Checkpoint m) ∷ d) (low_of self d) else None)
  unfolding stable_of
  own_stable_agreed m d = refl

  -- that of the base of a plan that comes to be held
  pub stable_of_plan : (m : NewView) (d : History) → stable_of self (Accepted (message.NewView m) ∷ d) ≡ further (stable_of self d) (plan_base (if is_current self d m.view then plan_in_new_view self m else None))
  unfolding stable_of
  stable_of_plan m d = refl

  pub own_stable_of_plan : (m : NewView) (d : History) → stable_of self (Stamped (stamped.NewView m) ∷ d) ≡ further (stable_of self d) (plan_base (plan_in_new_view self m))
  unfolding stable_of
  own_stable_of_plan m d = refl

  pub stable_of_opened : (m : Open) (d : History) → stable_of self (Accepted (message.Open m) ∷ d) ≡ further (stable_of self d) (plan_base (if gives_plan self d (plan_held self d) m.evidence then plan_in_open m else None))
  unfolding stable_of
  stable_of_opened m d = refl

  -- CHECKPOINTs make it rise by one interval or by two
  agreed_place : (d : History) (p : ℕ) (c : StableCert) → agreed_at self.shape d p ≡ Some c → c.pos ≡ p
  unfolding agreed_at
  agreed_place d p c e = of_list (first_agreed (same_state self.shape) (quorum self.shape) (checkpoints_at self.shape d p) (checkpoints_at self.shape d p)) e where
    of_list : (o : Option (List Checkpoint)) → option_and_then (stable_cert self.shape p) o ≡ Some c → c.pos ≡ p
    of_list None e = absurd cc
    of_list (Some []) e = absurd cc
    of_list (Some (m ∷ ms)) e = let made = some_is _ c e in ap (λ (x : StableCert). x.pos) (sym made)

  pub agreed_steps : (d : History) (low : ℕ) (c : StableCert) → agreed_above self.shape d low ≡ Some c → (c.pos ≡ low + span self.shape) ⊎ (c.pos ≡ low + interval self.shape)
  agreed_steps d low c e = elim (or_some (agreed_at self.shape d (low + span self.shape)) (agreed_at self.shape d (low + interval self.shape)) c e) [
    | inl far ↦ inl (agreed_place d (low + span self.shape) c far)
    | inr near ↦ inr (agreed_place d (low + interval self.shape) c near)
  ]

  -- ---- the floor of the own log: cut behind a CHECKPOINT that is kept, once its certificate is learnt

  pub floor_cut : (m : Checkpoint) (d : History) → nat_le (low_of self d) m.pos ≡ true → log_floor self (Accepted (message.Checkpoint m) ∷ d)
      ≡ cut_by self (counter_of (Accepted (message.Checkpoint m) ∷ d)) (log_floor self d) (floor_from self.shape (Accepted (message.Checkpoint m) ∷ d) self.host (low_of self (Accepted (message.Checkpoint m) ∷ d)))
  unfolding log_floor
  floor_cut m d kept = rw kept refl

  pub own_floor_cut : (m : Checkpoint) (d : History) → nat_le (low_of self d) m.pos ≡ true → log_floor self (Stamped (stamped.Checkpoint m) ∷ d)
      ≡ cut_by self (counter_of (Stamped (stamped.Checkpoint m) ∷ d)) (log_floor self d) (floor_from self.shape (Stamped (stamped.Checkpoint m) ∷ d) self.host (low_of self (Stamped (stamped.Checkpoint m) ∷ d)))
  unfolding log_floor
  own_floor_cut m d kept = rw kept refl

  -- one below the stable position is not kept
  pub floor_uncut : (m : Checkpoint) (d : History) → nat_le (low_of self d) m.pos ≡ false → log_floor self (Accepted (message.Checkpoint m) ∷ d) ≡ log_floor self d
  unfolding log_floor
  floor_uncut m d below = rw below refl

  pub own_floor_uncut : (m : Checkpoint) (d : History) → nat_le (low_of self d) m.pos ≡ false → log_floor self (Stamped (stamped.Checkpoint m) ∷ d) ≡ log_floor self d
  unfolding log_floor
  own_floor_uncut m d below = rw below refl

  -- ---- nothing is executed above the window

  executes_slot : (d : History) (rule : Rule) → execute_enabled self d ≡ Some rule → in_window self d (exec_of d + 1) ≡ true
  unfolding execute_enabled
  executes_slot d rule e = of_slot (in_window self d (exec_of d + 1)) _ _ e where
    of_slot : (b t : Bool) (x : Option KnownSlot) → rule_where t (if_committed self d (exec_of d + 1) (if b then x else None)) ≡ Some rule → b ≡ true
    of_slot true t x e = refl
    of_slot false true x e = absurd cc
    of_slot false false x e = absurd cc

  window_top : (d : History) (p : ℕ) → in_window self d p ≡ true → p ≤ low_of self d + span self.shape
  window_top d p e =
      let a = and_parts (nat_lt (low_of self d) p) (nat_le p (low_of self d + span self.shape) && nat_le p position_limit) e in
      leb-true p (low_of self d + span self.shape) (and_parts (nat_le p (low_of self d + span self.shape)) (nat_le p position_limit) a.1).0

  pub exec_within : (d : History) → Arises self d → exec_of d ≤ low_of self d + span self.shape
  unfolding exec_of
  exec_within [] a = omega arith
  exec_within (Executed slot ∷ d) a = omega (arith, a.0.place, window_top d (exec_of d + 1) (executes_slot d _ a.0.enabled), grown_low self d (Executed slot))
  exec_within (Installed pos parts ∷ d) a = omega (arith, a.0.0, grown_low self d (Installed pos parts))
  exec_within (e ∷ d) a = omega (arith, exec_within d a.1, grown_low self d e)

  just_is : (d : History) (p : ℕ) → JustExecuted self d p → exec_of d ≡ p
  unfolding exec_of
  just_is (Executed slot ∷ d) p j = j
  just_is d p j = absurd j

  abbrev place_in : StampedMessage → ℕ
  place_in (stamped.Checkpoint m) = m.pos
  place_in m = 0

  -- ---- no CHECKPOINT is kept above the window

  added_within : (e : Entry) (d : History) → Arises self (e ∷ d) → (m : Checkpoint) → checkpoint_in e ≡ Some m → m.pos ≤ low_of self d + span self.shape
  added_within (Accepted (message.Checkpoint n)) d a m is =
      let same : n ≡ m = cc in
      subst (λ (y : Checkpoint). y.pos ≤ low_of self d + span self.shape) same (ltb-false (low_of self d + span self.shape) n.pos a.0.kind)
  added_within (Stamped (stamped.Checkpoint n)) d a m is =
      let same : n ≡ m = cc in
      let place : a.0.0 ≡ n.pos = ap place_in a.0.3 in
      subst (λ (y : Checkpoint). y.pos ≤ low_of self d + span self.shape) same (omega (arith, place, just_is d a.0.0 a.0.1, exec_within d a.1))
  added_within e d a m is = absurd cc

  pub checkpoints_within : (d : History) → Arises self d → (h p : ℕ) (m : Checkpoint) → checkpoint_of d h p ≡ Some m → p ≤ low_of self d + span self.shape
  unfolding checkpoint_of
  checkpoints_within [] a h p m e = absurd cc
  checkpoints_within (x ∷ d) a h p m e = elim (or_some (checkpoint_by h p (checkpoint_in x)) (checkpoint_of d h p) m e) [
    | inr before ↦ omega (arith, checkpoints_within d a.1 h p m before, grown_low self d x)
    | inl now ↦ let n = named (checkpoint_in x) now in omega (arith, added_within x d a m n.0, n.1, grown_low self d x)
  ] where
    named : (o : Option Checkpoint) → checkpoint_by h p o ≡ Some m → (o ≡ Some m) × (m.pos ≡ p)
    named None e = absurd cc
    named (Some n) e =
        let t = if_some (n.ui.host == h && n.pos == p) (Some n) m e in
        let q = and_parts (n.ui.host == h) (n.pos == p) t.0 in
        let same : n ≡ m = cc in
        (t.1, ap (λ (y : Checkpoint). y.pos) (sym same) ∙ eqb-true n.pos p q.1)

  pub none_above : (d : History) → Arises self d → (h p : ℕ) → low_of self d + span self.shape < p → checkpoint_of d h p ≡ None
  none_above d a h p above = none_is (checkpoint_of d h p) refl where
    none_is : (o : Option Checkpoint) → checkpoint_of d h p ≡ o → o ≡ None
    none_is None e = refl
    none_is (Some m) e = absurd (omega (arith, above, checkpoints_within d a h p m e))
