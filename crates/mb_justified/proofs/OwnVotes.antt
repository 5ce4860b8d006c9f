-- A correct host votes at most two intervals above its stable position.
--
-- Each vote in the own list was stamped at some moment (`vote_moment`). A PREPARE and a COMMIT vote for their position, which was in the window then; an
-- OPEN votes for positions of the plan that its digest stands for, which is the one that it was stamped with, up to its end (`plan_votes`). All lie at
-- most two intervals above the stable position of that moment (`own_height`), and that one only grows.
use Rattle.std.proofs.Common.{◌≡◌, ℕ, ◌+◌, ◌≤◌, ◌&&◌, [], ◌∷◌, length, refl, sym, ap, subst, inl, inr, arith, Option, Some, None}
use Rattle.std.specs.Prelude.{◌==◌, ◌-◌, option_map, if◌then◌else◌, nat_lt, slice_get, map}
use Rattle.std.specs.List.{AllByRecursion}
use Rattle.std.proofs.lemmas.Bool.{and_parts, eqb-true, ltb-true}
use Rattle.std.proofs.lemmas.List.{length-map}
use Rattle.mb_base.specs.Shapes.{span}
use Rattle.mb_usig.proofs.Laws.{same_bytes-true}
use Rattle.mb_parts.specs.Bares.{batch_digest}
use Rattle.mb_parts.specs.Fits.{FitsBare}
use Rattle.mb_msg.specs.declared.change.Open.{Open as OpenMessage}
use Rattle.mb_msg.specs.declared.stamped.Stamped.{Stamped as StampedMessage}
use Rattle.mb_msg.specs.declared.stamped.Stamped.TheVariants as stamped
use Rattle.mb_msg.specs.Stamps.{bare_of}
use Rattle.mb_msg.specs.Plans.{plan_text, plan_digest}
use Rattle.mb_model.specs.declared.known.Vote.{Vote}
use Rattle.mb_model.specs.Committed.{PlanText, Plans, planned, vote_by, vote_in}
use Rattle.mb_model.specs.UsableLogs.{height}
use Rattle.mb_model.specs.OwnLog.{as_shown}
use Rattle.mb_model.specs.Histories.{Stamped, History, Identity, said, stamped as all_stamped}
use Rattle.mb_model.specs.Stable.{low_of}
use Rattle.mb_model.specs.Members.{In}
use Rattle.mb_model.proofs.Members.{all_in, in_map}
use Rattle.mb_model.proofs.Options.{or_some, map_some, if_some}
use Rattle.mb_steps.specs.Arises.{Arises, Makes}
use Rattle.mb_world_model.specs.WorldEvents.{IsCorrect}
use Rattle.mb_world_model.specs.World.{World, System, self_of}
use Rattle.mb_world_model.specs.WorldRecord.{plans}
use Rattle.mb_host_laws.proofs.Cases.{slice_bound, some_is}
use Rattle.mb_world_laws.proofs.Facts.{Facts}
use Rattle.mb_views.proofs.Planned.{plans_known}
use Rattle.mb_views.proofs.KnownPlans.{stable_base}
use Rattle.mb_host_laws.proofs.Moments.{IsPast, past_tail, each_at, arises_by, stamped_by}
use Rattle.mb_views.proofs.PlanMoments.{low_since}
use Rattle.mb_views.proofs.HeldSound.{held_sound}
use Rattle.mb_views.proofs.OwnSeen.{SeenOpen, seen_open, own_height}

-- ---- the moment of a vote

pub record VoteMoment (plans : Plans) (d : History) (view pos : ℕ) (x : Vote) : Type 0 where
  pub message : StampedMessage
  pub before : History
  pub past : IsPast (Stamped message ∷ before) d
  pub votes : vote_by plans (length (said before) + 1) (bare_of message) view pos ≡ Some x

pub vote_moment : (plans : Plans) (d : History) (view pos : ℕ) (x : Vote) → vote_in plans (said d) view pos ≡ Some x → VoteMoment plans d view pos x
unfolding all_stamped vote_in
vote_moment plans [] view pos x e = absurd cc
vote_moment plans (Stamped m ∷ d) view pos x e = elim (or_some (vote_by plans (length (said d) + 1) (bare_of m) view pos) (vote_in plans (said d) view pos) x e) [
  | inl now ↦ record { message = m; before = d; past = record { later = []; is = refl }; votes = now }
  | inr before ↦ let r = vote_moment plans d view pos x before in record { message = r.message; before = r.before; past = record { later = Stamped m ∷ r.past.later; is = ap (λ (y : History). Stamped m ∷ y) r.past.is }; votes = r.votes }
]
vote_moment plans (z ∷ d) view pos x e = let r = vote_moment plans d view pos x e in record { message = r.message; before = r.before; past = record { later = z ∷ r.past.later; is = ap (λ (y : History). z ∷ y) r.past.is }; votes = r.votes }

-- ---- up to the end of an OPEN

planned_end : (t : Option PlanText) (text : PlanText) (end pos : ℕ) → t ≡ Some text → end ≡ text.base + length text.digests → (r : _) → planned t pos ≡ Some r → pos ≤ end
planned_end None text end pos is count r e = absurd cc
planned_end (Some t) text end pos is count r e =
    let u = if_some (nat_lt t.base pos) (slice_get t.digests (pos - t.base - 1)) r e in
    let same : t ≡ text = some_is t text is in
    let above = ltb-true t.base pos u.0 in
    let within = slice_bound t.digests (pos - t.base - 1) r u.1 in
    let long : end ≡ t.base + length t.digests = subst (λ (y : PlanText). end ≡ y.base + length y.digests) (sym same) count in
    omega (arith, above, within, long)

module _ {S : Type 0} (system : System S) (w : World) (f : Facts system w) (h : ℕ) (correct : IsCorrect system.schedule h) where
  abbrev self : Identity S
  self = self_of system h

  pub makes_then : (d : History) (m : StampedMessage) → IsPast (Stamped m ∷ d) (w.histories h) → Makes self d m
  makes_then d m p = (arises_by self p.later (Stamped m ∷ d) (subst (λ (x : History). Arises self x) (sym p.is) (f.arises h))).0

  pub fits_then : (d : History) (m : StampedMessage) → IsPast (Stamped m ∷ d) (w.histories h) → FitsBare system.schedule.shape (bare_of m)
  fits_then d m p = all_in (FitsBare system.schedule.shape) (said (w.histories h)) (bare_of m) (f.fits h correct) (in_map bare_of (all_stamped (w.histories h)) m (stamped_by d m (w.histories h) p))

  -- The digest that an own OPEN names stands for the plan with which it was stamped.
  pub own_plan_known : (d : History) (m : OpenMessage) → IsPast (Stamped (stamped.Open m) ∷ d) (w.histories h) → (s : SeenOpen self d m)
      → plans system.schedule w m.evidence.plan ≡ Some (record { base = s.plan.base.pos; digests = map batch_digest s.plan.batches })
  own_plan_known d m p s =
      let rests = (each_at _ (Stamped (stamped.Open m) ∷ d) (w.histories h) p (f.standing.rests h)).0 in
      let noted : AllByRecursion (In w.hashed) (plan_text s.plan ∷ []) = rw s.body at rests.1 in
      let sound = held_sound system w f h correct d (past_tail (Stamped (stamped.Open m)) d (w.histories h) p) (s.held.0, s.plan) s.held.1 in
      plans_known w.hashed s.plan m.evidence.plan f.apart noted.0 (stable_base system.schedule.shape s.plan.base sound.0.1) (sym (same_bytes-true m.evidence.plan (plan_digest s.plan) s.digest))

  plan_votes : (d : History) (m : OpenMessage) (n view pos : ℕ) (x : Vote) → IsPast (Stamped (stamped.Open m) ∷ d) (w.histories h) → vote_by (plans system.schedule w) n (bare_of (stamped.Open m)) view pos ≡ Some x → pos ≤ m.evidence.end
  unfolding vote_by
  plan_votes d m n view pos x p e =
      let s : SeenOpen self d m = seen_open self d m (makes_then d (stamped.Open m) p) in
      let t = if_some (m.evidence.view == view) (option_map (λ r. record { counter = m.evidence.counter; request = r }) (planned (plans system.schedule w m.evidence.plan) pos)) x e in
      let r = map_some (λ r. record { counter = m.evidence.counter; request = r }) (planned (plans system.schedule w m.evidence.plan) pos) x t.1 in
      planned_end (plans system.schedule w m.evidence.plan) (record { base = s.plan.base.pos; digests = map batch_digest s.plan.batches }) m.evidence.end pos (own_plan_known d m p s)
      (omega (arith, s.end, length-map s.plan.batches batch_digest)) r.0 r.1

  at_place : (v view q pos : ℕ) (y x : Vote) → (if v == view && q == pos then Some y else None) ≡ Some x → q ≡ pos
  at_place v view q pos y x e = eqb-true q pos (and_parts (v == view) (q == pos) (if_some (v == view && q == pos) (Some y) x e).0).1

  -- A stamped message votes up to its height.
  vote_height : (d : History) (m : StampedMessage) (n view pos : ℕ) (x : Vote) → IsPast (Stamped m ∷ d) (w.histories h) → vote_by (plans system.schedule w) n (bare_of m) view pos ≡ Some x → pos ≤ height (as_shown m)
  unfolding vote_by
  vote_height d (stamped.Prepare m) n view pos x p e = omega (arith, at_place m.view view m.pos pos _ x e)
  vote_height d (stamped.Commit m) n view pos x p e = omega (arith, at_place m.view view m.pos pos _ x e)
  vote_height d (stamped.Open m) n view pos x p e = plan_votes d m n view pos x p e
  vote_height d (stamped.Checkpoint m) n view pos x p e = absurd cc
  vote_height d (stamped.ViewChange m) n view pos x p e = absurd cc
  vote_height d (stamped.NewView m) n view pos x p e = absurd cc
  vote_height d (stamped.Enter m) n view pos x p e = absurd cc
  vote_height d (stamped.Join m) n view pos x p e = absurd cc

  -- So each own vote is at most two intervals above the stable position.
  pub own_votes : (view pos : ℕ) (x : Vote) → vote_in (plans system.schedule w) (said (w.histories h)) view pos ≡ Some x → pos ≤ low_of self (w.histories h) + span system.schedule.shape
  own_votes view pos x e =
      let v = vote_moment (plans system.schedule w) (w.histories h) view pos x e in
      let high = vote_height v.before v.message (length (said v.before) + 1) view pos x v.past v.votes in
      let low = own_height self v.before v.message (makes_then v.before v.message v.past) (fits_then v.before v.message v.past) in
      let grown = low_since self v.before (w.histories h) (past_tail (Stamped v.message) v.before (w.histories h) v.past) in
      omega (arith, high, low, grown)
