-- The vote of a host whose OPEN was taken counts at each position of the window that its plan has, from the moment on at which OPEN, plan and view are
-- there: the base of a held plan is at or below the stable position, and the plan ends at most two intervals behind its base.
use Rattle.std.proofs.Common.{◌≡◌, ℕ, ◌+◌, ◌-◌, ◌<◌, ◌≤◌, ◌^◌, true, false, List, [], ◌∷◌, length, refl, sym, ap, subst, ◌∙◌, inl, inr, arith, Option, Some, None}
use Rattle.std.specs.Prelude.{◌==◌, nat_lt, slice_get, option_map, is_some}
use Rattle.std.specs.Option.{option_or}
use Rattle.std.proofs.lemmas.Bool.{cases_Bool, and_from, eq-eqb, ltb-true}
use Rattle.std.proofs.lemmas.Option.{slice_get_within}
use Rattle.mb_base.specs.Shapes.{Bytes, span}
use Rattle.mb_base.specs.declared.shape.Shape.{Shape}
use Rattle.mb_usig.proofs.Laws.{true-same_bytes}
use Rattle.mb_parts.specs.declared.batch.Batch.{Batch}
use Rattle.mb_parts.specs.declared.floor.Floor.{Floor}
use Rattle.mb_parts.specs.declared.certificates.Evidence.{Evidence}
use Rattle.mb_parts.specs.Bares.{batch_digest, Bare}
use Rattle.mb_parts.specs.Claims.{Claim}
use Rattle.mb_parts.specs.Ordered.{current_view}
use Rattle.mb_msg.specs.declared.message.Body.{Body}
use Rattle.mb_msg.specs.declared.message.Body.TheVariants.{Whole, Bare as Short}
use Rattle.mb_msg.specs.declared.message.Message.TheVariants as message
use Rattle.mb_msg.specs.declared.stamped.Stamped.{Stamped as StampedMessage}
use Rattle.mb_msg.specs.declared.stamped.Stamped.TheVariants as stamped
use Rattle.mb_msg.specs.declared.change.ViewChange.{ViewChange}
use Rattle.mb_msg.specs.declared.change.NewView.{NewView}
use Rattle.mb_msg.specs.declared.change.NewViewBody.{NewViewBody}
use Rattle.mb_msg.specs.declared.change.Open.{Open}
use Rattle.mb_msg.specs.declared.change.OpenBody.{OpenBody}
use Rattle.mb_msg.specs.declared.change.Plan.{Plan}
use Rattle.mb_msg.specs.Bodies.{whole_body, FitsBody}
use Rattle.mb_msg.specs.Fits.{FitsOpen, FitsOpenBody}
use Rattle.mb_msg.specs.Plans.{plan_digest}
use Rattle.mb_msg.specs.Stamps.{ui_of, bare_of}
use Rattle.mb_model.specs.declared.known.Vote.{Vote}
use Rattle.mb_model.specs.Histories.{Entry, Accepted, Stamped, Jumped, History, Identity, onto, by_host, origin, taken_of, view_of}
use Rattle.mb_model.specs.Held.{opened_by, is_current, plan_from, plan_in_new_view, plan_in_open, gives_plan, plan_in, plan_held, plan_at}
use Rattle.mb_model.specs.Stable.{low_of}
use Rattle.mb_model.specs.Positions.{batch_from, vote_by, counts_opens, open_vote, counts_at, vote_of}
use Rattle.mb_model.proofs.Options.{if_some, map_some}
use Rattle.mb_steps.specs.Arises.{Arises}
use Rattle.mb_steps.proofs.StepOwnList.{own_passed}
use Rattle.mb_steps.proofs.StepOwnStamped.{steady}
use Rattle.mb_steps.proofs.StepPotential.{grown_low}
use Rattle.mb_world_model.specs.World.{System, self_of}
use Rattle.mb_world_model.specs.WorldSteps.{world}
use Rattle.mb_promise.specs.NothingLeft.{IsInWindow, CountsOpens}
use Rattle.mb_each_host.proofs.Words.{window_is}
use Rattle.mb_host_laws.proofs.Cases.{some_is}
use Rattle.mb_host_laws.specs.Rests.{Each}
use Rattle.mb_world_laws.proofs.KeptByWorlds.{world_arises}
use Rattle.mb_obligations.proofs.AcceptedFits.{HasValues, values_in_worlds}
use Rattle.mb_host_laws.proofs.Moments.{each_at}
use Rattle.mb_host_laws.proofs.OwnPlanGood.{plan_short}
use Rattle.mb_views.proofs.PlanMoments.{held_from, base_below}

-- ---- of two votes

some_first : (a b : Option Vote) → is_some a ≡ true → is_some (option_or a b) ≡ true
some_first (Some x) b e = refl
some_first None b e = absurd cc

some_second : (a b : Option Vote) → is_some b ≡ true → is_some (option_or a b) ≡ true
some_second (Some x) b e = refl
some_second None b e = e

-- ---- what an entry leaves behind which no votes of OPENs are counted

pub opened_same : (x : Entry) (d : History) (g : ℕ) → counts_opens x ≡ false → opened_by (x ∷ d) g ≡ opened_by d g
unfolding opened_by
opened_same (Accepted (message.Open m)) d g e = absurd cc
opened_same x d g e = refl

-- no VIEW_CHANGE
IsNoChange : StampedMessage → Type 0
IsNoChange (stamped.ViewChange m) = ⊥
IsNoChange m = Unit {0}

same_behind : (o : Floor) (l : List Bare) (m : StampedMessage) → IsNoChange m → current_view o (bare_of m ∷ l) ≡ current_view o l
unfolding current_view IsNoChange
same_behind o l (stamped.ViewChange m) kept = absurd kept
same_behind o l m kept = refl

same_view : (o : Floor) (l : List Bare) (host : ℕ) (m : StampedMessage) → IsNoChange m → current_view o (onto (by_host host (Some m)) l) ≡ current_view o l
same_view o l host m kept = elim (cases_Bool ((ui_of m).host == host)) [
  | inl own ↦ rw own (same_behind o l m kept)
  | inr other ↦ rw other refl
]

module _ {S : Type 0} (self : Identity S) where
  pub plan_same : (x : Entry) (d : History) → counts_opens x ≡ false → plan_held self (x ∷ d) ≡ plan_held self d
  unfolding plan_held
  plan_same (Accepted (message.NewView m)) d e = absurd cc
  plan_same (Stamped (stamped.NewView m)) d e = absurd cc
  plan_same (Accepted (message.Open m)) d e = absurd cc
  plan_same x d e = refl

  -- A VIEW_CHANGE that was accepted is another's.
  others_change : (m : ViewChange) (d : History) → Arises self (Accepted (message.ViewChange m) ∷ d) → (m.ui.host == self.host) ≡ false
  others_change m d a = own_passed self d (stamped.ViewChange m) (steady self d a.1).list.own a.0.gate

  pub view_same : (x : Entry) (d : History) → Arises self (x ∷ d) → counts_opens x ≡ false → view_of self (x ∷ d) ≡ view_of self d
  unfolding origin taken_of IsNoChange
  view_same (Accepted (message.Prepare m)) d a e = same_view (origin d self.host) (taken_of d self.host) self.host (stamped.Prepare m) tt
  view_same (Accepted (message.Commit m)) d a e = same_view (origin d self.host) (taken_of d self.host) self.host (stamped.Commit m) tt
  view_same (Accepted (message.Checkpoint m)) d a e = same_view (origin d self.host) (taken_of d self.host) self.host (stamped.Checkpoint m) tt
  view_same (Accepted (message.Enter m)) d a e = same_view (origin d self.host) (taken_of d self.host) self.host (stamped.Enter m) tt
  view_same (Accepted (message.Join m)) d a e = same_view (origin d self.host) (taken_of d self.host) self.host (stamped.Join m) tt
  view_same (Accepted (message.ViewChange m)) d a e = rw (others_change m d a) refl
  view_same (Accepted (message.NewView m)) d a e = absurd cc
  view_same (Accepted (message.Open m)) d a e = absurd cc
  view_same (Accepted m) d a e = refl
  view_same (Stamped (stamped.ViewChange m)) d a e = absurd cc
  view_same (Stamped (stamped.NewView m)) d a e = absurd cc
  view_same (Stamped (stamped.Prepare m)) d a e = same_view (origin d self.host) (taken_of d self.host) self.host (stamped.Prepare m) tt
  view_same (Stamped (stamped.Commit m)) d a e = same_view (origin d self.host) (taken_of d self.host) self.host (stamped.Commit m) tt
  view_same (Stamped (stamped.Checkpoint m)) d a e = same_view (origin d self.host) (taken_of d self.host) self.host (stamped.Checkpoint m) tt
  view_same (Stamped (stamped.Enter m)) d a e = same_view (origin d self.host) (taken_of d self.host) self.host (stamped.Enter m) tt
  view_same (Stamped (stamped.Open m)) d a e = same_view (origin d self.host) (taken_of d self.host) self.host (stamped.Open m) tt
  view_same (Stamped (stamped.Join m)) d a e = same_view (origin d self.host) (taken_of d self.host) self.host (stamped.Join m) tt
  view_same (Jumped g floor) d a e = rw a.0 refl
  view_same x d a e = refl

  vote_stays : (x : Entry) (d : History) (g v p : ℕ) → is_some (vote_of self d g v p) ≡ true → is_some (vote_of self (x ∷ d) g v p) ≡ true
  unfolding vote_of
  vote_stays x d g v p e = some_first (vote_of self d g v p) _ e

  -- ---- what is counted behind an entry

  vote_now : (x : Entry) (d : History) (g v p : ℕ) (y : Vote) → counts_opens x ≡ true → counts_at self (x ∷ d) v p ≡ true → open_vote (opened_by (x ∷ d) g) (plan_at self (x ∷ d) v) v p ≡ Some y
      → is_some (vote_of self (x ∷ d) g v p) ≡ true
  unfolding vote_of
  vote_now x d g v p y counts there is = some_second (vote_of self d g v p) _ (rw (there, counts, is) (some_second (vote_by self.host x g v p) (Some y) refl))

  pub vote_is : (d : History) (g v p : ℕ) (e : Evidence) (plan : Plan) (b : Batch) → opened_by d g ≡ Some e → plan_held self d ≡ Some (v, plan) → e.view ≡ v → plan_digest plan ≡ e.plan
      → batch_from plan.base.pos p plan.batches ≡ Some b → open_vote (opened_by d g) (plan_at self d v) v p ≡ Some (record { counter = e.counter; request = batch_digest b })
  vote_is d g v p e plan b opened held view digest at =
      rw (opened, held, eq-eqb v v refl, eq-eqb e.view v view, true-same_bytes (plan_digest plan) e.plan digest) (ap (option_map (λ (x : Batch). record { counter = e.counter; request = batch_digest x })) at)

  -- ---- how far a plan goes

  new_view_short : (m : NewView) (p : ℕ × Plan) → plan_in_new_view self m ≡ Some p → length p.1.batches ≤ span self.shape
  new_view_short m p e =
      let t = map_some (λ (b : NewViewBody). (m.view, plan_from self b.changes)) (whole_body m.body) p e in
      let short = plan_short self (λ (c : Claim). Unit {0}) (λ (t : Bytes). Unit {0}) t.0.changes in
      subst (λ (y : ℕ × Plan). length y.1.batches ≤ span self.shape) t.2 (omega (arith, short))

fits_whole : (s : Shape) (e : Evidence) (x : Body OpenBody) (b : OpenBody) → FitsBody (FitsOpenBody s e) x → whole_body x ≡ Some b → FitsOpenBody s e b
fits_whole s e (Whole y) b f is = subst (FitsOpenBody s e) (some_is y b is) f
fits_whole s e (Short z) b f is = absurd cc

open_short : (s : Shape) (m : Open) (p : ℕ × Plan) → FitsOpen s m → plan_in_open m ≡ Some p → length p.1.batches ≤ span s
open_short s m p f e =
    let t = map_some (λ (b : OpenBody). (m.evidence.view, record { base = b.stable; batches = b.batches })) (whole_body m.body) p e in
    let fits = fits_whole s m.evidence m.body t.0 f.body t.1 in
    let count : length t.0.batches ≡ m.evidence.end - m.evidence.base = fits.1.1 in
    let end : m.evidence.end ≤ m.evidence.base + span s = f.evidence.end.1.0 in
    subst (λ (y : ℕ × Plan). length y.1.batches ≤ span s) t.2 (omega (arith, count, end))

module _ {S : Type 0} (self : Identity S) where
  abbrev pub Values : History → Type 0
  Values d = Each (HasValues self) d

  brought_short : (x : Entry) (d : History) → Values (x ∷ d) → (p : ℕ × Plan) → plan_in self d (plan_held self d) x ≡ Some p → length p.1.batches ≤ span self.shape
  brought_short (Accepted (message.NewView m)) d a p e = new_view_short self m p (if_some (is_current self d m.view) (plan_in_new_view self m) p e).1
  brought_short (Stamped (stamped.NewView m)) d a p e = new_view_short self m p e
  brought_short (Accepted (message.Open m)) d a p e = open_short self.shape m p a.0 (if_some (gives_plan self d (plan_held self d) m.evidence) (plan_in_open m) p e).1
  brought_short x d a p e = absurd cc

  pub held_short : (d : History) → Values d → (p : ℕ × Plan) → plan_held self d ≡ Some p → length p.1.batches ≤ span self.shape
  held_short d a p e =
      let r = held_from self d p e in
      brought_short r.entry r.before (each_at (HasValues self) (r.entry ∷ r.before) d r.past a) p r.brings

  -- ---- one vote

  module _ (g pos v : ℕ) (e : Evidence) (plan : Plan) (b : Batch) (of_view : e.view ≡ v) (digest : plan_digest plan ≡ e.plan) (allowed : pos < 2 ^ 63) (at : batch_from plan.base.pos pos plan.batches ≡ Some b) where
    near : pos ≤ plan.base.pos + length plan.batches
    near =
        let t = if_some (nat_lt plan.base.pos pos) (slice_get plan.batches (pos - plan.base.pos - 1)) b at in
        let inside = slice_get_within plan.batches (pos - plan.base.pos - 1) b t.1 in
        omega (arith, ltb-true plan.base.pos pos t.0, inside)

    within : (d : History) → Values d → plan_held self d ≡ Some (v, plan) → low_of self d < pos → IsInWindow self d pos
    within d a held above =
        let short : length plan.batches ≤ span self.shape = held_short d a (v, plan) held in
        let below : plan.base.pos ≤ low_of self d = base_below self d (v, plan) held in
        record { above = above; near = omega (arith, near, short, below); allowed = allowed }

    pub counted : (d : History) → Arises self d → Values d → opened_by d g ≡ Some e → view_of self d ≡ v → plan_held self d ≡ Some (v, plan) → low_of self d < pos
        → is_some (vote_of self d g v pos) ≡ true
    unfolding opened_by
    counted [] arises a opened current held above = absurd cc
    counted (x ∷ d) arises a opened current held above = elim (cases_Bool (counts_opens x)) [
      | inl counts ↦
          let there : counts_at self (x ∷ d) v pos ≡ true = and_from _ _ (eq-eqb (view_of self (x ∷ d)) v current) (window_is self (x ∷ d) pos (within (x ∷ d) a held above)) in
          vote_now self x d g v pos (record { counter = e.counter; request = batch_digest b }) counts there (vote_is self (x ∷ d) g v pos e plan b opened held of_view digest at)
      | inr none ↦
          let before : is_some (vote_of self d g v pos) ≡ true = counted d arises.1 a.1 (sym (opened_same x d g none) ∙ opened)
          (sym (view_same self x d arises none) ∙ current) (sym (plan_same self x d none) ∙ held) (omega (arith, above, grown_low self d x)) in
          vote_stays self x d g v pos before
    ]

  counts_opens_in : (d : History) → Arises self d → Values d → CountsOpens self d
  counts_opens_in d arises a g pos e plan b lt opened view held digest inside at =
      counted g pos (view_of self d) e plan b view digest inside.allowed at d arises a opened refl held inside.above

-- In each world, whoever is faulty and whatever is forged, where the order of each sender's messages is checked.
pub counts_opens_of : {S : Type 0} (system : System S) → (k h : ℕ) → CountsOpens (self_of system h) ((world system k).histories h)
counts_opens_of system k h = counts_opens_in (self_of system h) ((world system k).histories h) (world_arises system k h) (values_in_worlds system k h)
