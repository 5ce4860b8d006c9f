-- One certificate more is taken.
use Rattle.std.proofs.Common.{◌≡◌, ℕ, ◌+◌, ◌<◌, ◌^◌, ◌⊎◌, Bool, true, false, cond, eqb, IfSome, List, [], ◌∷◌, ◌++◌, length, set, Option, Some, None, is_none, length-set, refl, sym, ap, subst, ◌∙◌, inl, inr}
use Rattle.std.specs.Prelude.{◌==◌, ◌&&◌, ◌||◌, Contains}
use Rattle.std.specs.Global.{Vec}
use Rattle.std.specs.List.{AllByRecursion}
use Rattle.std.proofs.lemmas.Bool.{cases_Bool, and_parts, eqb-true, eq-eqb}
use Rattle.std.proofs.lemmas.Option.{same_Some}
use Rattle.std.proofs.lemmas.List.Folds.{list_any-append}
use Rattle.std.proofs.lemmas.List.Elements.{Contains-append_left, Contains-push}
use mathlib.Core.Path.{fun_ext}
use Rattle.mb_base.specs.Shapes.{Bytes, host_count}
use Rattle.mb_base.specs.declared.shape.Shape.{Shape}
use Rattle.mb_usig.specs.Tags.{same_bytes}
use Rattle.mb_usig.specs.Trusted.{Trusted}
use Rattle.mb_usig.proofs.Laws.{same_bytes-true}
use Rattle.mb_parts.specs.Bares.{Bare}
use Rattle.mb_parts.specs.Claims.{Claim}
use Rattle.mb_parts.specs.Fits.{FitsBatch}
use Rattle.mb_msg.specs.declared.normal.Checkpoint.{Checkpoint}
use Rattle.mb_msg.specs.declared.stamped.Shown.{Shown}
use Rattle.mb_msg.specs.declared.stamped.Stamped.{Stamped}
use Rattle.mb_msg.specs.declared.stamped.Stamped.TheVariants as stamped
use Rattle.mb_model.specs.GateChecks.{stamp_claim}
use Rattle.mb_model.specs.Verified.{verifies}
use Rattle.mb_learn.specs.declared.batches.Batches.{Batches}
use Rattle.mb_learn.specs.declared.checkpoints.Checkpoints.{Checkpoints}
use Rattle.mb_learn.specs.declared.checkpoints.Said.{Said}
use Rattle.mb_learn.specs.declared.follower.Follower.{Follower}
use Rattle.mb_learn.specs.declared.heard.Heard.{Heard}
use Rattle.mb_learn.specs.declared.heard.Opening.{Opening}
use Rattle.mb_learn.specs.declared.plans.Plans.{Plans as PlanTable}
use Rattle.mb_learn.specs.declared.votes.Votes.{Votes}
use Rattle.mb_learn.specs.Followers.{IsFollowing, Follows, shown_too}
use Rattle.mb_learn.specs.Held.{known_plans}
use Rattle.mb_learn.specs.Hearing.{IsReady, FollowsAll, FollowsWhole, AreWhole, Counts, Shows, Says, Hears, HearsAll, Takes, newly_said, with_list, SaysOnly, SaysToo, CountsOnly, CountsToo}
use Rattle.mb_learn.specs.Lists.{first_of, IsList}
use Rattle.mb_learn.specs.Proved.{is_checkpoint, says_state}
use Rattle.mb_learn.specs.Tables.{plan_at, IsLowPlan, batch_at, AreLow, is_said, said_at, says, AddsSaid}
use Rattle.mb_learn.proofs.Certified.{apart, first_unverified, first_other, first_own, said_more, said_unverified, follows_same, whole_same, follows_set}
use Rattle.mb_learn.proofs.Counted.{with_own, with_other, eqb_turned}
use Rattle.mb_learn.proofs.Going.{keeps_same}
use Rattle.mb_learn.proofs.Set.{all_set}
use Rattle.mb_learn.proofs.Tests.{true_false, or_false, and_false}

-- ---- it says nothing new

-- since it does not verify
pub hears_unverified : (t : Heard) (c : Claim) → verifies t.usig.secret c ≡ false → (s : Shape) (secret : Bytes) (claims : List Claim) (all : List Shown) (lists : ℕ → List Bare) → HearsAll s secret claims all lists t
    → HearsAll s secret (claims ++ c ∷ []) all lists t
hears_unverified t c not_so s secret claims all lists h =
    let fails : verifies secret c ≡ false = ap (λ (k : Bytes). verifies k c) (sym h.hears.secret_is) ∙ not_so in
    record {
      hears = record {
        shape = h.hears.shape;
        secret_is = h.hears.secret_is;
        follows = follows_same secret claims c s lists t.followers.items (first_unverified secret claims c fails) h.hears.follows;
        counts = h.hears.counts;
        shows = h.hears.shows;
        says_all = λ p host state. h.hears.says_all p host state ∙ sym (said_unverified secret claims c fails p state host);
      };
      whole = whole_same secret claims c s lists (first_unverified secret claims c fails) h.whole;
    }

pub takes_known : (t : Heard) (c : Claim) → IsReady t
    → ((s : Shape) (secret : Bytes) (claims : List Claim) (all : List Shown) (lists : ℕ → List Bare) → HearsAll s secret claims all lists t → HearsAll s secret (claims ++ c ∷ []) all lists t) → Takes (c ∷ []) t t
takes_known t c ready known = record { claims_too = λ s secret claims all lists h. (lists, known s secret claims all lists h); keeps = keeps_same t ready }

-- ---- what it says of a state

turned : (a h b : Bool) → (a && (h && b)) ≡ (h && ((a && b) && true))
turned true true true = refl
turned true true false = refl
turned true false b = refl
turned false true b = refl
turned false false b = refl

known_or : (a b : Bool) → (b ≡ true → a ≡ true) → (a || b) ≡ a
known_or true b f = refl
known_or false true f = sym (f refl)
known_or false false f = refl

module _ (secret : Bytes) (claims : List Claim) (t : Checkpoints) (m : Stamped) where
  abbrev extra : ℕ → ℕ → Bytes → Bool
  extra p h state = (stamp_claim m).host == h && (is_checkpoint p state (stamp_claim m).says && verifies secret (stamp_claim m))

  -- where it is known
  pub says_known : newly_said t m ≡ None → Says secret claims t → Says secret (claims ++ stamp_claim m ∷ []) t
  says_known none before p h state =
      before p h state ∙ sym (said_more secret claims (stamp_claim m) p state h ∙ known_or (says_state secret claims p state h) (extra p h state) (λ so. sym (before p h state) ∙ by m none p h state so)) where
        by : (x : Stamped) → newly_said t x ≡ None → (p h : ℕ) (state : Bytes) → ((stamp_claim x).host == h && (is_checkpoint p state (stamp_claim x).says && verifies secret (stamp_claim x))) ≡ true → says (said_at t p) h state ≡ true
        by (stamped.Checkpoint x) none p h state so =
            let first = and_parts (x.ui.host == h) ((x.pos == p && same_bytes x.state state) && verifies secret (stamp_claim (stamped.Checkpoint x))) so in
            let second = and_parts (x.pos == p && same_bytes x.state state) (verifies secret (stamp_claim (stamped.Checkpoint x))) first.1 in
            let third = and_parts (x.pos == p) (same_bytes x.state state) second.0 in
            sym (ap (λ (i : ℕ). says (said_at t i) h state) (eqb-true x.pos p third.0)) ∙ (sym (ap (λ (i : ℕ). says (said_at t x.pos) i state) (eqb-true x.ui.host h first.0))
            ∙ (sym (ap (says (said_at t x.pos) x.ui.host) (same_bytes-true x.state state third.1)) ∙ there (says (said_at t x.pos) x.ui.host x.state) none)) where
              there : (b : Bool) → cond {A = Option (ℕ × Bytes)} b None (Some (x.pos, x.state)) ≡ None → b ≡ true
              there true e = refl
              there false e = absurd cc
        by (stamped.Prepare x) none p h state so = true_false (sym so ∙ and_false ((stamp_claim (stamped.Prepare x)).host == h))
        by (stamped.Commit x) none p h state so = true_false (sym so ∙ and_false ((stamp_claim (stamped.Commit x)).host == h))
        by (stamped.ViewChange x) none p h state so = true_false (sym so ∙ and_false ((stamp_claim (stamped.ViewChange x)).host == h))
        by (stamped.NewView x) none p h state so = true_false (sym so ∙ and_false ((stamp_claim (stamped.NewView x)).host == h))
        by (stamped.Enter x) none p h state so = true_false (sym so ∙ and_false ((stamp_claim (stamped.Enter x)).host == h))
        by (stamped.Open x) none p h state so = true_false (sym so ∙ and_false ((stamp_claim (stamped.Open x)).host == h))
        by (stamped.Join x) none p h state so = true_false (sym so ∙ and_false ((stamp_claim (stamped.Join x)).host == h))

-- What is new is of a CHECKPOINT.
pub record IsNewlySaid (m : Stamped) (pos : ℕ) (state : Bytes) : Type 0 where
  pub checkpoint : Checkpoint
  pub is : m ≡ stamped.Checkpoint checkpoint
  pub pos_is : pos ≡ checkpoint.pos
  pub state_is : state ≡ checkpoint.state

pub newly_is : (t : Checkpoints) (m : Stamped) (pos : ℕ) (state : Bytes) → newly_said t m ≡ Some (pos, state) → IsNewlySaid m pos state
newly_is t (stamped.Checkpoint x) pos state e = by (says (said_at t x.pos) x.ui.host x.state) e where
  by : (b : Bool) → cond {A = Option (ℕ × Bytes)} b None (Some (x.pos, x.state)) ≡ Some (pos, state) → IsNewlySaid (stamped.Checkpoint x) pos state
  by true e = absurd cc
  by false e =
      let both : (x.pos, x.state) ≡ (pos, state) = same_Some (x.pos, x.state) (pos, state) e in
      record { checkpoint = x; is = refl; pos_is = sym (ap (λ (p : ℕ × Bytes). p.0) both); state_is = sym (ap (λ (p : ℕ × Bytes). p.1) both) }
newly_is t (stamped.Prepare x) pos state e = absurd cc
newly_is t (stamped.Commit x) pos state e = absurd cc
newly_is t (stamped.ViewChange x) pos state e = absurd cc
newly_is t (stamped.NewView x) pos state e = absurd cc
newly_is t (stamped.Enter x) pos state e = absurd cc
newly_is t (stamped.Open x) pos state e = absurd cc
newly_is t (stamped.Join x) pos state e = absurd cc

-- one more is said
said_too : (old new : Checkpoints) (pos : ℕ) (x : Said) → AddsSaid old pos x new → (p h : ℕ) (state : Bytes) → says (said_at new p) h state ≡ (says (said_at old p) h state || (p == pos && is_said h state x))
said_too old new pos x adds p h state = ap (λ (l : List Said). says l h state) (adds p) ∙ by (p == pos) where
  by : (b : Bool) → says (cond b (said_at old p ++ x ∷ []) (said_at old p)) h state ≡ (says (said_at old p) h state || (b && is_said h state x))
  by true = list_any-append (is_said h state) (said_at old p) (x ∷ []) ∙ ap (λ b. says (said_at old p) h state || b) (or_false (is_said h state x))
  by false = sym (or_false (says (said_at old p) h state))

module _ (old new : Heard) (only : SaysOnly old new) where
  hears_said : (s : Shape) (secret : Bytes) (claims said more : List Claim) (all : List Shown) (lists : ℕ → List Bare) → Hears s secret claims said all lists old → Says secret more new.checkpoints → Hears s secret claims more all lists new
  hears_said s secret claims said more all lists h says_more = record {
    shape = only.shape ∙ h.shape;
    secret_is = ap (λ (u : Trusted). u.secret) only.usig ∙ h.secret_is;
    follows = subst (λ (v : Vec Follower). FollowsAll s secret claims lists v.items) (sym only.followers) h.follows;
    counts = subst (λ (v : Vec Opening). Counts (known_plans s secret all) lists v.items new.votes) (sym only.openings) (subst (λ (v : Votes). Counts (known_plans s secret all) lists old.openings.items v) (sym only.votes) h.counts);
    shows = subst (λ (b : Batches). Shows s secret all new.plans b) (sym only.batches) (subst (λ (p : PlanTable). Shows s secret all p old.batches) (sym only.plans) h.shows);
    says_all = says_more;
  }

  said_ready : IsReady old → IsReady new
  said_ready ready = record {
    shape = ap (λ (u : Trusted). u.shape) only.usig ∙ ready.shape ∙ sym only.shape;
    count = ap (λ (v : Vec Follower). length v.items) only.followers ∙ ready.count ∙ ap host_count (sym only.shape);
    follow = subst (λ (s : Shape). AllByRecursion (IsFollowing s) new.followers.items) (sym only.shape) (subst (λ (v : Vec Follower). AllByRecursion (IsFollowing old.shape) v.items) (sym only.followers) ready.follow);
    batches = λ d. subst (λ (s : Shape). IfSome (batch_at new.batches d) (FitsBatch s)) (sym only.shape) (subst (λ (b : Batches). IfSome (batch_at b d) (FitsBatch old.shape)) (sym only.batches) (ready.batches d));
    plans = λ d. subst (λ (p : PlanTable). IfSome (plan_at p d) IsLowPlan) (sym only.plans) (ready.plans d);
    votes = subst AreLow (sym only.votes) ready.votes;
    place = subst (λ (v : Votes). v.executed < 2 ^ 63) (sym only.votes) ready.place;
  }

  pub says_one : (m : Stamped) (pos : ℕ) (state : Bytes) → newly_said old.checkpoints m ≡ Some (pos, state) → AddsSaid old.checkpoints pos (record { host = (stamp_claim m).host; state = state }) new.checkpoints
      → new.newly_said.items ≡ old.newly_said.items ++ pos ∷ [] → verifies old.usig.secret (stamp_claim m) ≡ true → IsReady old → SaysToo (stamp_claim m) old new
  says_one m pos state newly adds noted so ready = record {
    says_too = λ s secret claims said all lists h.
        hears_said s secret claims said (said ++ stamp_claim m ∷ []) all lists h
        (λ p host x. said_too old.checkpoints new.checkpoints pos (record { host = (stamp_claim m).host; state = state }) adds p host x
        ∙ (ap (λ b. b || (p == pos && ((stamp_claim m).host == host && same_bytes state x))) (h.says_all p host x)
        ∙ (ap (λ b. says_state secret said p x host || b) (test secret (sym h.secret_is) p host x) ∙ sym (said_more secret said (stamp_claim m) p x host))));
    usig = only.usig;
    keeps = record {
      executed = ap (λ (v : Votes). v.executed) only.votes;
      shape = only.shape;
      news = record {
        kept = λ p there. subst (λ (l : List ℕ). Contains l p) (sym noted) (Contains-append_left old.newly_said.items (pos ∷ []) p there);
        noted = λ p host x. by p host x (cases_Bool (p == pos));
      };
      ready = said_ready ready;
    };
  } where
    is : IsNewlySaid m pos state
    is = newly_is old.checkpoints m pos state newly

    says_so : (p : ℕ) (x : Bytes) → is_checkpoint p x (stamp_claim m).says ≡ (pos == p && same_bytes state x)
    says_so p x =
        ap (λ (z : Stamped). is_checkpoint p x (stamp_claim z).says) is.is
        ∙ (ap (λ (i : ℕ). i == p && same_bytes is.checkpoint.state x) (sym is.pos_is) ∙ ap (λ (b : Bytes). pos == p && same_bytes b x) (sym is.state_is))

    test : (secret : Bytes) → secret ≡ old.usig.secret → (p host : ℕ) (x : Bytes) → (p == pos && ((stamp_claim m).host == host && same_bytes state x))
        ≡ ((stamp_claim m).host == host && (is_checkpoint p x (stamp_claim m).says && verifies secret (stamp_claim m)))
    test secret key p host x =
        turned (p == pos) ((stamp_claim m).host == host) (same_bytes state x)
        ∙ (ap (λ b. (stamp_claim m).host == host && ((b && same_bytes state x) && true)) (eqb_turned p pos)
        ∙ (ap (λ b. (stamp_claim m).host == host && (b && true)) (sym (says_so p x)) ∙ ap (λ b. (stamp_claim m).host == host && (is_checkpoint p x (stamp_claim m).says && b)) (sym (ap (λ (k : Bytes). verifies k (stamp_claim m)) key ∙ so))))

    by : (p host : ℕ) (x : Bytes) → (eqb p pos ≡ true) ⊎ (eqb p pos ≡ false) → (says (said_at new.checkpoints p) host x ≡ says (said_at old.checkpoints p) host x) ⊎ Contains new.newly_said.items p
    by p host x (inl same) = inr (subst (λ (l : List ℕ). Contains l p) (sym noted) (subst (λ (i : ℕ). Contains (old.newly_said.items ++ pos ∷ []) i) (sym (eqb-true p pos same)) (Contains-push old.newly_said.items pos)))
    by p host x (inr other) =
        inl (said_too old.checkpoints new.checkpoints pos (record { host = (stamp_claim m).host; state = state }) adds p host x
        ∙ (ap (λ b. says (said_at old.checkpoints p) host x || (b && ((stamp_claim m).host == host && same_bytes state x))) other ∙ or_false (says (said_at old.checkpoints p) host x)))

-- where nothing is new
pub says_same : (t : Heard) (m : Stamped) → newly_said t.checkpoints m ≡ None → IsReady t → SaysToo (stamp_claim m) t t
says_same t m none ready = record {
  says_too = λ s secret claims said all lists h. record {
    shape = h.shape;
    secret_is = h.secret_is;
    follows = h.follows;
    counts = h.counts;
    shows = h.shows;
    says_all = says_known secret said t.checkpoints m none h.says_all;
  };
  usig = refl;
  keeps = keeps_same t ready;
}

-- since the list of its host does not await it, and it says nothing new
pub hears_known : (t : Heard) (m : Stamped) (s : Shape) (secret : Bytes) (claims : List Claim) (all : List Shown) (lists : ℕ → List Bare) → HearsAll s secret claims all lists t
    → FollowsWhole s secret (claims ++ stamp_claim m ∷ []) lists t.followers.items → (said : Option (ℕ × Bytes)) → said ≡ newly_said t.checkpoints m → is_none said ≡ true → HearsAll s secret (claims ++ stamp_claim m ∷ []) all lists t
hears_known t m s secret claims all lists h fw None is none = record {
  hears = record {
    shape = h.hears.shape;
    secret_is = h.hears.secret_is;
    follows = fw.follows_all;
    counts = h.hears.counts;
    shows = h.hears.shows;
    says_all = says_known secret claims t.checkpoints m (sym is) h.hears.says_all;
  };
  whole = fw.are_whole;
}
hears_known t m s secret claims all lists h fw (Some x) is none = true_false (sym none)

-- ---- the list of its host

-- another follower in the place of one
pub hears_set : (s : Shape) (secret : Bytes) (claims more said : List Claim) (all : List Shown) (lists : ℕ → List Bare) (t : Heard) (followers : Vec Follower) → Hears s secret claims said all lists t
    → FollowsAll s secret more lists followers.items → Hears s secret more said all lists (record t { followers = followers })
hears_set s secret claims more said all lists t followers h follows = record {
  shape = h.shape;
  secret_is = h.secret_is;
  follows = follows;
  counts = h.counts;
  shows = h.shows;
  says_all = h.says_all;
}

pub ready_set : (t : Heard) (host : ℕ) (f : Follower) (followers : Vec Follower) → followers.items ≡ set t.followers.items host f → IsFollowing t.shape f → IsReady t → IsReady (record t { followers = followers })
ready_set t host f followers is following ready = record {
  shape = ready.shape;
  count = ap (λ (l : List Follower). length l) is ∙ length-set t.followers.items host f ∙ ready.count;
  follow = subst (λ (l : List Follower). AllByRecursion (IsFollowing t.shape) l) (sym is) (all_set (IsFollowing t.shape) t.followers.items host f ready.follow following);
  batches = ready.batches;
  plans = ready.plans;
  votes = ready.votes;
  place = ready.place;
}

module _ (s : Shape) (secret : Bytes) (claims : List Claim) (c : Claim) (lists : ℕ → List Bare) (followers : List Follower) where
  -- the follower of its host keeps it
  pub follows_kept : verifies secret c ≡ true → c.host < length followers → (f : Follower) → Follows s secret c.host (shown_too (first_of secret claims c.host) c.counter c.says) f (lists c.host) → FollowsAll s secret claims lists followers
      → FollowsAll s secret (claims ++ c ∷ []) lists (set followers c.host f)
  follows_kept so lt f fo all =
      follows_set s secret c.host (claims ++ c ∷ []) claims lists lists followers f lt
      (subst (λ (k : ℕ → Option Bare). Follows s secret c.host k f (lists c.host)) (sym (first_own secret claims c so)) fo)
      (λ h ne. (first_other secret claims c h ne, refl)) all

  -- All lists are whole where that of its host is.
  pub whole_with : (l : List Bare) → IsList s secret c.host (first_of secret (claims ++ c ∷ []) c.host) l → AreWhole s secret claims lists → AreWhole s secret (claims ++ c ∷ []) (with_list lists c.host l)
  whole_with l is whole h lt = elim (cases_Bool (eqb h c.host)) [
    | inl same ↦
        let e : h ≡ c.host = eqb-true h c.host same in
        subst (λ (x : List Bare). IsList s secret h (first_of secret (claims ++ c ∷ []) h) x) (sym (with_own lists c.host l h same))
        (subst (λ (i : ℕ). IsList s secret i (first_of secret (claims ++ c ∷ []) i) l) (sym e) is)
    | inr other ↦
        subst (λ (x : List Bare). IsList s secret h (first_of secret (claims ++ c ∷ []) h) x) (sym (with_other lists c.host l h other))
        (subst (λ (k : ℕ → Option Bare). IsList s secret h k (lists h)) (sym (first_other secret claims c h (λ e. apart h c.host other (sym e)))) (whole h lt))
  ]

-- ---- a list goes on

module _ (s : Shape) (secret : Bytes) (claims said : List Claim) (all : List Shown) (lists : ℕ → List Bare) (host : ℕ) (l : List Bare) where
  -- with the same list
  pub with_same : with_list lists host (lists host) ≡ lists
  with_same = fun_ext (λ h. by h (cases_Bool (eqb h host))) where
    by : (h : ℕ) → (eqb h host ≡ true) ⊎ (eqb h host ≡ false) → with_list lists host (lists host) h ≡ lists h
    by h (inl same) = with_own lists host (lists host) h same ∙ ap lists (sym (eqb-true h host same))
    by h (inr other) = with_other lists host (lists host) h other

  -- another list in the place of another
  pub with_again : (more : List Bare) → with_list (with_list lists host l) host more ≡ with_list lists host more
  with_again more = fun_ext (λ h. by h (cases_Bool (eqb h host))) where
    by : (h : ℕ) → (eqb h host ≡ true) ⊎ (eqb h host ≡ false) → with_list (with_list lists host l) host more h ≡ with_list lists host more h
    by h (inl same) = with_own (with_list lists host l) host more h same ∙ sym (with_own lists host more h same)
    by h (inr other) = with_other (with_list lists host l) host more h other ∙ (with_other lists host l h other ∙ sym (with_other lists host more h other))

  -- the host's own
  pub own_list : with_list lists host l host ≡ l
  own_list = with_own lists host l host (eq-eqb host host refl)

  -- the follower goes on with another list
  pub follows_on : (followers : List Follower) (more : List Bare) (f : Follower) → host < length followers → Follows s secret host (first_of secret claims host) f more → FollowsAll s secret claims (with_list lists host l) followers
      → FollowsAll s secret claims (with_list lists host more) (set followers host f)
  follows_on followers more f lt fo follows =
      follows_set s secret host claims claims (with_list lists host more) (with_list lists host l) followers f lt
      (subst (λ (x : List Bare). Follows s secret host (first_of secret claims host) f x) (sym (with_own lists host more host (eq-eqb host host refl))) fo)
      (λ h ne. (refl, with_other lists host more h (ne_other h ne) ∙ sym (with_other lists host l h (ne_other h ne)))) follows where
        ne_other : (h : ℕ) → (host ≡ h → ⊥) → eqb h host ≡ false
        ne_other h ne = by (cases_Bool (eqb h host)) where
          by : (eqb h host ≡ true) ⊎ (eqb h host ≡ false) → eqb h host ≡ false
          by (inl same) = absurd (ne (sym (eqb-true h host same)))
          by (inr other) = other

  -- ... and the votes of one message more are counted
  pub hears_on : (mid new : Heard) (m : Bare) (counter : ℕ) → CountsOnly mid new → CountsToo host counter m mid new → counter ≡ length l + 1
      → FollowsAll s secret claims (with_list lists host (m ∷ l)) mid.followers.items → Counts (known_plans s secret all) (with_list lists host l) mid.openings.items mid.votes → Shows s secret all mid.plans mid.batches → Says secret said mid.checkpoints
      → mid.shape ≡ s → mid.usig.secret ≡ secret → Hears s secret claims said all (with_list lists host (m ∷ l)) new
  hears_on mid new m counter only counts at follows counted shows says_all shape key = record {
    shape = only.shape ∙ shape;
    secret_is = ap (λ (u : Trusted). u.secret) only.usig ∙ key;
    follows = subst (λ (v : Vec Follower). FollowsAll s secret claims (with_list lists host (m ∷ l)) v.items) (sym only.followers) follows;
    counts = subst (λ (ls : ℕ → List Bare). Counts (known_plans s secret all) ls new.openings.items new.votes) (with_again (m ∷ l))
        (subst (λ (x : List Bare). Counts (known_plans s secret all) (with_list (with_list lists host l) host (m ∷ x)) new.openings.items new.votes) own_list
        (counts (known_plans s secret all) (with_list lists host l) shows.plans_are counted (at ∙ ap (λ (x : List Bare). length x + 1) (sym own_list))));
    shows = subst (λ (b : Batches). Shows s secret all new.plans b) (sym only.batches) (subst (λ (p : PlanTable). Shows s secret all p mid.batches) (sym only.plans) shows);
    says_all = subst (λ (t : Checkpoints). Says secret said t) (sym only.checkpoints) says_all;
  }
