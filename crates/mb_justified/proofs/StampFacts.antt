-- What each own stamp passes that stands in the own log: its certificate verifies, it is low enough, it was stamped whole, and what it shows is sound.
use Rattle.std.proofs.Common.{◌≡◌, ℕ, ◌+◌, ◌≤◌, Bool, true, List, [], ◌∷◌, length, refl, sym, subst, arith}
use Rattle.std.specs.Prelude.{◌-◌, map}
use Rattle.std.specs.List.{AllByRecursion, list_all}
use Rattle.std.proofs.lemmas.Bool.{and_from, eq-eqb}
use Rattle.mb_base.specs.Shapes.{Bytes, span}
use Rattle.sha2.specs.Sha256.{sha256}
use Rattle.mb_usig.specs.Tags.{same_bytes}
use Rattle.mb_msg.specs.declared.message.Body.{Body}
use Rattle.mb_msg.specs.declared.message.Body.TheVariants.{Whole}
use Rattle.mb_msg.specs.declared.change.Open.{Open as OpenMessage}
use Rattle.mb_msg.specs.declared.change.Plan.{Plan}
use Rattle.mb_msg.specs.declared.stamped.Stamped.{Stamped as StampedMessage}
use Rattle.mb_msg.specs.declared.stamped.Stamped.TheVariants as stamped
use Rattle.mb_msg.specs.Plans.{plan_string, plan_digest}
use Rattle.mb_model.specs.UsableLogs.{has_body, shows_body, height, is_whole, is_sound_batch, is_sound_plan, is_sound_body}
use Rattle.mb_model.specs.OwnLog.{as_shown}
use Rattle.mb_model.specs.Histories.{Stamped, History, Identity, stamped as all_stamped}
use Rattle.mb_model.specs.GateChecks.{valid, stamp_claim}
use Rattle.mb_model.specs.Stable.{low_of}
use Rattle.mb_model.specs.Making.{prepare, commit, view_change, new_view, enter, opening, join, checkpoint}
use Rattle.mb_steps.specs.Arises.{Arises, Makes}
use Rattle.mb_steps.proofs.StepHeldEvidence.{own_claim}
use Rattle.mb_world_model.specs.WorldEvents.{IsCorrect}
use Rattle.mb_world_model.specs.World.{World, System, self_of}
use Rattle.mb_host_laws.proofs.Cases.{each_in}
use Rattle.mb_world_laws.proofs.Facts.{Facts}
use Rattle.mb_host_laws.proofs.Moments.{IsPast, past_tail, WasStamped, was_stamped, past_past, arises_by}
use Rattle.mb_views.proofs.PlanMoments.{low_since}
use Rattle.mb_views.proofs.HeldSound.{IsSoundPlan, held_sound}
use Rattle.mb_views.proofs.OwnSeen.{SeenCommit, seen_commit, SeenPrepare, seen_prepare, SeenOpen, seen_open, own_height}
use Rattle.mb_justified.proofs.OwnVotes.{makes_then, fits_then}
use Rattle.mb_justified.proofs.SlotBatches.{first_tagged, slot_sound}
use Rattle.mb_views.proofs.SoundPlans.{AreTagged}
use Rattle.mb_parts.specs.Bares.{batch_digest}
use Rattle.mb_parts.specs.declared.batch.Batch.{Batch}
use Rattle.mb_model.specs.Verified.{are_rightly_tagged}

all_tagged : {A : Type 0} (t : A → Bool) (l : List A) → AllByRecursion (λ x. t x ≡ true) l → list_all t l ≡ true
all_tagged t [] a = refl
all_tagged t (x ∷ l) a = and_from (t x) (list_all t l) a.0 (all_tagged t l a.1)

module _ {S : Type 0} (self : Identity S) where
  -- What is stamped verifies.
  made_claim : (d : History) (m : StampedMessage) → Makes self d m → valid self (stamp_claim m) ≡ true
  made_claim d (stamped.ViewChange m) (view, e, is) = subst (λ (y : StampedMessage). valid self (stamp_claim y) ≡ true) is (own_claim self d (view_change self d view))
  made_claim d (stamped.NewView m) (changes, e, is) = subst (λ (y : StampedMessage). valid self (stamp_claim y) ≡ true) is (own_claim self d (new_view self d changes))
  made_claim d (stamped.Enter m) (n, e, is) = subst (λ (y : StampedMessage). valid self (stamp_claim y) ≡ true) is (own_claim self d (enter n))
  made_claim d (stamped.Open m) (e, plan, o, is) = subst (λ (y : StampedMessage). valid self (stamp_claim y) ≡ true) is (own_claim self d (opening e plan))
  made_claim d (stamped.Join m) (e, is) = subst (λ (y : StampedMessage). valid self (stamp_claim y) ≡ true) is (own_claim self d (join self d))
  made_claim d (stamped.Commit m) (p, k, r, e, is) = subst (λ (y : StampedMessage). valid self (stamp_claim y) ≡ true) is (own_claim self d (commit self d p k r))
  made_claim d (stamped.Prepare m) (p, r, e, is) = subst (λ (y : StampedMessage). valid self (stamp_claim y) ≡ true) is (own_claim self d (prepare self d p r))
  made_claim d (stamped.Checkpoint m) (p, j, e, is) = subst (λ (y : StampedMessage). valid self (stamp_claim y) ≡ true) is (own_claim self d (checkpoint self d p))

  -- It is stamped whole.
  whole_is : {B : Type 0} (x : Body B) (b : B) → x ≡ Whole b → is_whole x ≡ true
  whole_is x b e = rw e refl

  made_whole : (d : History) (m : StampedMessage) → Makes self d m → shows_body (as_shown m) ≡ has_body (as_shown m)
  made_whole d (stamped.Prepare m) a = let s = seen_prepare self d m a in whole_is m.body s.batch s.body
  made_whole d (stamped.Commit m) a = let s = seen_commit self d m a in whole_is m.body s.batch s.body
  made_whole d (stamped.Open m) a = let s = seen_open self d m a in whole_is m.body (record { stable = s.plan.base; batches = s.plan.batches }) s.body
  made_whole d (stamped.ViewChange m) a = refl
  made_whole d (stamped.NewView m) a = refl
  made_whole d (stamped.Enter m) a = refl
  made_whole d (stamped.Join m) a = refl
  made_whole d (stamped.Checkpoint m) a = refl

  shown_batch : (b : Body Batch) (r : Batch) → b ≡ Whole r → AreTagged self r → is_sound_batch self.shape self.secret (valid self) b ≡ true
  shown_batch b r e t = rw e t

  plan_is : (base pos : ℕ) (plan : Bytes) (p : Plan) → base ≡ p.base.pos → same_bytes plan (plan_digest p) ≡ true
      → same_bytes plan (sha256 (plan_string base p.base.state (map batch_digest p.batches))) ≡ true
  plan_is base pos plan p e d = rw e d

  shown_plan : (d : History) (m : OpenMessage) → (s : SeenOpen self d m) → IsSoundPlan self s.plan → is_sound_plan self.shape self.secret (valid self) m.evidence.base m.evidence.end m.evidence.plan m.body ≡ true
  shown_plan d m s sound =
      let many : length s.plan.batches ≡ m.evidence.end - m.evidence.base = omega (arith, s.base, s.end) in
      rw s.body (and_from _ _
      (and_from _ _ sound.0.0 (and_from _ _ (eq-eqb s.plan.base.pos m.evidence.base (sym s.base)) (and_from _ _ (eq-eqb (length s.plan.batches) (m.evidence.end - m.evidence.base) many) (all_tagged (are_rightly_tagged self.secret) s.plan.batches sound.1))))
      (plan_is m.evidence.base 0 m.evidence.plan s.plan s.base s.digest))

module _ {S : Type 0} (system : System S) (w : World) (f : Facts system w) (h : ℕ) (correct : IsCorrect system.schedule h) where
  abbrev self : Identity S
  self = self_of system h

  -- each moment of its history came from events
  pub arises_back : (d : History) → IsPast d (w.histories h) → Arises self d
  arises_back d p = arises_by self p.later d (subst (λ (x : History). Arises self x) (sym p.is) (f.arises h))

  made_sound : (d : History) (m : StampedMessage) → IsPast d (w.histories h) → Makes self d m → is_sound_body system.schedule.shape system.schedule.secret (valid self) (as_shown m) ≡ true
  made_sound d (stamped.Prepare m) past a = let s : SeenPrepare self d m = seen_prepare self d m a in shown_batch self m.body s.batch s.body (first_tagged self d (arises_back d past) s.batch s.first)
  made_sound d (stamped.Commit m) past a =
      let s : SeenCommit self d m = seen_commit self d m a in
      shown_batch self m.body s.batch s.body (slot_sound system w f h correct d past _ m.pos s.slot s.known s.batch s.there).1
  made_sound d (stamped.Open m) past a = let s : SeenOpen self d m = seen_open self d m a in shown_plan self d m s (held_sound system w f h correct d past (s.held.0, s.plan) s.held.1)
  made_sound d (stamped.ViewChange m) past a = refl
  made_sound d (stamped.NewView m) past a = refl
  made_sound d (stamped.Enter m) past a = refl
  made_sound d (stamped.Join m) past a = refl
  made_sound d (stamped.Checkpoint m) past a = refl

  pub record StampFacts (low : ℕ) (m : StampedMessage) : Type 0 where
    pub claimed : valid self (stamp_claim m) ≡ true
    pub high : height (as_shown m) ≤ low + span system.schedule.shape
    pub whole : shows_body (as_shown m) ≡ has_body (as_shown m)
    pub sound : is_sound_body system.schedule.shape system.schedule.secret (valid self) (as_shown m) ≡ true

  -- So it is with all own stamps, at each stable position since.
  pub stamp_facts : (d : History) → IsPast d (w.histories h) → AllByRecursion (StampFacts (low_of self d)) (all_stamped d)
  stamp_facts d past = each_in (StampFacts (low_of self d)) (all_stamped d) (λ m i.
      let x : WasStamped d m = was_stamped d m i in
      let p : IsPast (Stamped m ∷ x.before) (w.histories h) = past_past (Stamped m ∷ x.before) d (w.histories h) x.past past in
      let before : IsPast x.before (w.histories h) = past_tail (Stamped m) x.before (w.histories h) p in
      let makes : Makes self x.before m = makes_then system w f h correct x.before m p in
      let below = own_height self x.before m makes (fits_then system w f h correct x.before m p) in
      let grown = low_since self x.before d (past_tail (Stamped m) x.before d x.past) in
      record { claimed = made_claim self x.before m makes; high = omega (arith, below, grown); whole = made_whole self x.before m makes; sound = made_sound x.before m before makes })
