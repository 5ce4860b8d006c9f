-- What is held of one vote or OPEN more.
use Rattle.std.proofs.Common.{◌≡◌, ℕ, ◌<◌, ◌⊎◌, ◌^◌, Bool, true, false, cond, List, [], ◌∷◌, ◌++◌, length, find, Option, Some, None, option_map, IsSome, IfSome, is_some, refl, sym, ap, subst, ◌∙◌, inl, inr}
use Rattle.std.specs.Prelude.{if◌then◌else◌, Contains}
use Rattle.std.specs.Global.{Vec}
use Rattle.std.specs.Option.{option_or}
use Rattle.std.specs.List.{AllByRecursion}
use Rattle.std.proofs.lemmas.Bool.{cases_Bool}
use Rattle.std.proofs.lemmas.Option.{same_Some, none-some}
use mathlib.Core.Path.{fun_ext}
use Rattle.mb_base.specs.Shapes.{Bytes, host_count}
use Rattle.mb_base.specs.declared.shape.Shape.{Shape}
use Rattle.mb_usig.specs.Tags.{same_bytes}
use Rattle.mb_usig.specs.Trusted.{Trusted}
use Rattle.mb_usig.proofs.Laws.{same_bytes-true, true-same_bytes}
use Rattle.mb_parts.specs.declared.batch.Batch.{Batch}
use Rattle.mb_parts.specs.Bares.{Bare, batch_digest}
use Rattle.mb_parts.specs.Claims.{Claim}
use Rattle.mb_parts.specs.Fits.{FitsBatch}
use Rattle.mb_msg.specs.declared.message.Body.{Body}
use Rattle.mb_msg.specs.declared.message.Body.TheVariants.{Whole}
use Rattle.mb_msg.specs.declared.change.Open.{Open}
use Rattle.mb_msg.specs.declared.change.OpenBody.{OpenBody}
use Rattle.mb_msg.specs.declared.stamped.Shown.{Shown}
use Rattle.mb_msg.specs.declared.stamped.Shown.TheVariants as shown
use Rattle.mb_model.specs.Committed.{Plans, PlanText}
use Rattle.mb_model.specs.Verified.{are_rightly_tagged}
use Rattle.mb_model.specs.Members.{In}
use Rattle.mb_model.proofs.Members.{in_contained, contained, all_in}
use Rattle.mb_learn.specs.declared.batches.Batches.{Batches}
use Rattle.mb_learn.specs.declared.checkpoints.Checkpoints.{Checkpoints}
use Rattle.mb_learn.specs.declared.follower.Follower.{Follower}
use Rattle.mb_learn.specs.declared.heard.Heard.{Heard}
use Rattle.mb_learn.specs.declared.heard.Opening.{Opening}
use Rattle.mb_learn.specs.declared.plans.KnownPlan.{KnownPlan}
use Rattle.mb_learn.specs.declared.plans.Plans.{Plans as PlanTable}
use Rattle.mb_learn.specs.declared.votes.Votes.{Votes}
use Rattle.mb_learn.specs.Followers.{IsFollowing}
use Rattle.mb_learn.specs.Held.{shows_plan, known_plans, HasBatch, ShowsBatch}
use Rattle.mb_learn.specs.Hearing.{IsReady, Counts, FollowsAll, Shows, Says, Hears, KeepsPlace, Holds}
use Rattle.mb_learn.specs.Holding.{plan_by, KeepsHosts, HoldsTagged, HoldsPlan}
use Rattle.mb_learn.specs.Tables.{text_of, plan_at, IsLowPlan, batch_at, AreLow, said_at, says}
use Rattle.mb_learn.proofs.Certified.{both}
use Rattle.mb_learn.proofs.Counted.{counts_plan}
use Rattle.mb_learn.proofs.Finds.{found_there, there_found}
use Rattle.mb_learn.proofs.Going.{keeps_same}
use Rattle.mb_learn.proofs.Showing.{plan_same, plan_known, plan_first, shows_same, shows_found}
use Rattle.mb_learn.proofs.Tests.{true_false}

-- what holds of what either has
either_fits : {A : Type 0} (P : A → Type 0) (a b : Option A) → IfSome a P → IfSome b P → IfSome (option_or a b) P
either_fits P (Some x) b p q = p
either_fits P None b p q = q

fits_if : {A : Type 0} (P : A → Type 0) (b : Bool) (x : A) → P x → IfSome (cond b (Some x) None) P
fits_if P true x p = p
fits_if P false x p = tt

found_fits : {A : Type 0} (P : A → Type 0) (p : A → Bool) (l : List A) → AllByRecursion P l → IfSome (find p l) P
found_fits P p [] all = tt
found_fits P p (x ∷ l) all = by (p x) (found_fits P p l all.1) where
  by : (b : Bool) → IfSome (find p l) P → IfSome (cond b (Some x) (find p l)) P
  by true rest = all.0
  by false rest = rest

-- ---- where all that concerns hosts stays

module _ (old new : Heard) (hosts : KeepsHosts old new) where
  pub hears_by : (s : Shape) (secret : Bytes) (claims said : List Claim) (all more : List Shown) (lists : ℕ → List Bare) → Hears s secret claims said all lists old
      → Counts (known_plans s secret more) lists old.openings.items new.votes → Shows s secret more new.plans new.batches → Hears s secret claims said more lists new
  hears_by s secret claims said all more lists h counts shows = record {
    shape = hosts.shape ∙ h.shape;
    secret_is = ap (λ (u : Trusted). u.secret) hosts.usig ∙ h.secret_is;
    follows = subst (λ (v : Vec Follower). FollowsAll s secret claims lists v.items) (sym hosts.followers) h.follows;
    counts = subst (λ (v : Vec Opening). Counts (known_plans s secret more) lists v.items new.votes) (sym hosts.openings) counts;
    shows = shows;
    says_all = subst (λ (t : Checkpoints). Says secret said t) (sym hosts.checkpoints) h.says_all;
  }

  pub keeps_by : IsReady old → new.votes.executed ≡ old.votes.executed → AreLow new.votes → ((d : Bytes) → IfSome (batch_at new.batches d) (FitsBatch old.shape)) → ((d : Bytes) → IfSome (plan_at new.plans d) IsLowPlan) → KeepsPlace old new
  keeps_by ready executed low fits plans = record {
    executed = executed;
    shape = hosts.shape;
    news = record {
      kept = λ p there. subst (λ (v : Vec ℕ). Contains v.items p) (sym hosts.news) there;
      noted = λ p h state. inl (ap (λ (t : Checkpoints). says (said_at t p) h state) hosts.checkpoints);
    };
    ready = record {
      shape = ap (λ (u : Trusted). u.shape) hosts.usig ∙ ready.shape ∙ sym hosts.shape;
      count = ap (λ (v : Vec Follower). length v.items) hosts.followers ∙ ready.count ∙ ap host_count (sym hosts.shape);
      follow = subst (λ (s : Shape). AllByRecursion (IsFollowing s) new.followers.items) (sym hosts.shape) (subst (λ (v : Vec Follower). AllByRecursion (IsFollowing old.shape) v.items) (sym hosts.followers) ready.follow);
      batches = λ d. subst (λ (s : Shape). IfSome (batch_at new.batches d) (FitsBatch s)) (sym hosts.shape) (fits d);
      plans = plans;
      votes = low;
      place = subst (λ (n : ℕ). n < 2 ^ 63) (sym executed) ready.place;
    };
  }

-- ---- what an entry shows

-- It shows nothing that is not held.
pub holds_nothing : (t : Heard) (e : Shown) → IsReady t
    → ((s : Shape) (secret : Bytes) (all : List Shown) → s ≡ t.shape → secret ≡ t.usig.secret → Shows s secret all t.plans t.batches → (d : Bytes) → known_plans s secret (all ++ e ∷ []) d ≡ known_plans s secret all d)
    → ((s : Shape) (secret : Bytes) → s ≡ t.shape → secret ≡ t.usig.secret → (b : Batch) → ShowsBatch s secret e b → are_rightly_tagged secret b ≡ true → IsSome (batch_at t.batches (batch_digest b)))
    → Holds (e ∷ []) t t
holds_nothing t e ready plans there = record {
  shows_too = λ s secret claims said all lists h.
      let same = plans s secret all (sym h.shape) (sym h.secret_is) h.shows in
      record {
        shape = h.shape;
        secret_is = h.secret_is;
        follows = h.follows;
        counts = subst (λ (p : Plans). Counts p lists t.openings.items t.votes) (sym (fun_ext same)) h.counts;
        shows = shows_same s secret all e t.plans t.batches h.shows same (there s secret (sym h.shape) (sym h.secret_is));
        says_all = h.says_all;
      };
  keeps = keeps_same t ready;
}

-- A vote shows this batch alone.
pub holds_one : (old new : Heard) (e : Shown) (digest : Bytes) (b : Batch) → IsReady old → HoldsTagged digest b old new → digest ≡ batch_digest b → FitsBatch old.shape b
    → ((s : Shape) (secret : Bytes) (d : Bytes) → shows_plan s secret d e ≡ false) → ((s : Shape) (secret : Bytes) → s ≡ old.shape → secret ≡ old.usig.secret → ShowsBatch s secret e b)
    → ((s : Shape) (secret : Bytes) (x : Batch) → ShowsBatch s secret e x → x ≡ b) → Holds (e ∷ []) old new
holds_one old new e digest b ready held digest_is fits no_plan shows only = by (cases_Bool (are_rightly_tagged old.usig.secret b)) where
  votes_same : (s : Shape) (secret : Bytes) (all : List Shown) (lists : ℕ → List Bare) → Counts (known_plans s secret all) lists old.openings.items old.votes → Counts (known_plans s secret (all ++ e ∷ [])) lists old.openings.items new.votes
  votes_same s secret all lists c =
      subst (λ (v : Votes). Counts (known_plans s secret (all ++ e ∷ [])) lists old.openings.items v) (sym held.votes)
      (subst (λ (p : Plans). Counts p lists old.openings.items old.votes) (sym (fun_ext (λ d. plan_same s secret all e d (no_plan s secret d)))) c)

  keeps : ((d : Bytes) → IfSome (batch_at new.batches d) (FitsBatch old.shape)) → KeepsPlace old new
  keeps batches =
      keeps_by old new held.hosts ready (ap (λ (v : Votes). v.executed) held.votes) (subst AreLow (sym held.votes) ready.votes) batches
      (λ d. subst (λ (p : PlanTable). IfSome (plan_at p d) IsLowPlan) (sym held.plans) (ready.plans d))

  by : (are_rightly_tagged old.usig.secret b ≡ true) ⊎ (are_rightly_tagged old.usig.secret b ≡ false) → Holds (e ∷ []) old new
  by (inl tagged) = record {
    shows_too = λ s secret claims said all lists h.
        hears_by old new held.hosts s secret claims said all (all ++ e ∷ []) lists h (votes_same s secret all lists h.counts)
        (shows_found s secret all e old.plans old.batches h.shows new.batches new.plans (λ d. if same_bytes digest d then Some b else None) (held.tagged tagged)
        (λ d. ap (λ (p : PlanTable). option_map text_of (plan_at p d)) held.plans ∙ h.shows.plans_are d ∙ sym (plan_same s secret all e d (no_plan s secret d)))
        (λ d x at. right s secret (sym h.shape) (sym h.secret_is) tagged d x (same_bytes digest d) refl at)
        (λ x shown tags. ap (λ c. is_some (cond c (Some b) None)) (true-same_bytes digest (batch_digest x) (digest_is ∙ ap batch_digest (sym (only s secret x shown))))));
    keeps = keeps (λ d. subst (λ (o : Option Batch). IfSome o (FitsBatch old.shape)) (sym (held.tagged tagged d)) (either_fits (FitsBatch old.shape) (batch_at old.batches d) (if same_bytes digest d then Some b else None) (ready.batches d) (fits_if (FitsBatch old.shape) (same_bytes digest d) b fits)));
  } where
    right : (s : Shape) (secret : Bytes) → s ≡ old.shape → secret ≡ old.usig.secret → are_rightly_tagged old.usig.secret b ≡ true → (d : Bytes) (x : Batch) (c : Bool) → same_bytes digest d ≡ c → cond (same_bytes digest d) (Some b) None ≡ Some x
        → ShowsBatch s secret e x × (are_rightly_tagged secret x ≡ true) × (batch_digest x ≡ d)
    right s secret shape key tags d x true same at =
        let is : b ≡ x = same_Some b x (sym (ap (λ c. cond c (Some b) None) same) ∙ at) in
        subst (λ (z : Batch). ShowsBatch s secret e z × (are_rightly_tagged secret z ≡ true) × (batch_digest z ≡ d)) is
        (shows s secret shape key, ap (λ (k : Bytes). are_rightly_tagged k b) key ∙ tags, sym digest_is ∙ same_bytes-true digest d same)
    right s secret shape key tags d x false other at = absurd (none-some x (sym (ap (λ c. cond c (Some b) None) other) ∙ at))
  by (inr untagged) = record {
    shows_too = λ s secret claims said all lists h.
        hears_by old new held.hosts s secret claims said all (all ++ e ∷ []) lists h (votes_same s secret all lists h.counts)
        (subst (λ (t : Batches). Shows s secret (all ++ e ∷ []) new.plans t) (sym (held.untagged untagged)) (subst (λ (p : PlanTable). Shows s secret (all ++ e ∷ []) p old.batches) (sym held.plans)
        (shows_same s secret all e old.plans old.batches h.shows (λ d. plan_same s secret all e d (no_plan s secret d))
        (λ x shown tags. true_false (sym tags ∙ (ap (are_rightly_tagged secret) (only s secret x shown) ∙ (ap (λ (k : Bytes). are_rightly_tagged k b) (sym h.secret_is) ∙ untagged)))))));
    keeps = keeps (λ d. subst (λ (t : Batches). IfSome (batch_at t d) (FitsBatch old.shape)) (sym (held.untagged untagged)) (ready.batches d));
  }

-- A plan that is in the table is known.
pub known_there : (s : Shape) (secret : Bytes) (all : List Shown) (plans : PlanTable) (batches : Batches) (d : Bytes) → Shows s secret all plans batches → IsSome (plan_at plans d) → IsSome (known_plans s secret all d)
known_there s secret all plans batches d shows some = subst (λ (o : Option PlanText). IsSome o) (shows.plans_are d) (mapped (plan_at plans d) some) where
  mapped : (o : Option KnownPlan) → IsSome o → IsSome (option_map text_of o)
  mapped (Some x) h = refl
  mapped None h = true_false (sym h)

-- An OPEN shows a plan and its batches.
pub holds_plan : (old new : Heard) (e : Shown) (m : Open) (body : OpenBody) → e ≡ shown.Open m → m.body ≡ Whole body → IsReady old → HoldsPlan (plan_by m.evidence.plan body) body.batches old new
    → ((s : Shape) (secret : Bytes) → s ≡ old.shape → secret ≡ old.usig.secret → shows_plan s secret m.evidence.plan (shown.Open m) ≡ true) → AllByRecursion (λ b. are_rightly_tagged old.usig.secret b ≡ true) body.batches
    → AllByRecursion (FitsBatch old.shape) body.batches → IsLowPlan (plan_by m.evidence.plan body) → Holds (e ∷ []) old new
holds_plan old new e m body is whole ready held right tags fits low = record {
  shows_too = λ s secret claims said all lists h.
      hears_by old new held.hosts s secret claims said all (all ++ e ∷ []) lists h (counts s secret claims said all lists h)
      (shows_found s secret all e old.plans old.batches h.shows new.batches new.plans (λ d. find (λ b. same_bytes (batch_digest b) d) body.batches) held.held (plans s secret claims said all lists h)
      (λ d x at. shown_right s secret (sym h.shape) (sym h.secret_is) d x at)
      (λ x shows _. there_found (λ b. same_bytes (batch_digest b) (batch_digest x)) body.batches x (in_body s secret x shows) (true-same_bytes (batch_digest x) (batch_digest x) refl)));
  keeps = keeps_by old new held.hosts ready executed low_votes
      (λ d. subst (λ (o : Option Batch). IfSome o (FitsBatch old.shape)) (sym (held.held d)) (either_fits (FitsBatch old.shape) (batch_at old.batches d) (find (λ b. same_bytes (batch_digest b) d) body.batches) (ready.batches d) (found_fits (FitsBatch old.shape) (λ b. same_bytes (batch_digest b) d) body.batches fits)))
      low_plans;
} where
  known_or : (o : Option KnownPlan) → (o ≡ None) ⊎ IsSome o
  known_or None = inl refl
  known_or (Some x) = inr refl

  either : (plan_at old.plans m.evidence.plan ≡ None) ⊎ IsSome (plan_at old.plans m.evidence.plan)
  either = known_or (plan_at old.plans m.evidence.plan)

  executed : new.votes.executed ≡ old.votes.executed
  executed = by either where
    by : (plan_at old.plans m.evidence.plan ≡ None) ⊎ IsSome (plan_at old.plans m.evidence.plan) → new.votes.executed ≡ old.votes.executed
    by (inl none) = (held.noted none).1.executed
    by (inr some) = ap (λ (v : Votes). v.executed) (held.known some).1

  low_votes : AreLow new.votes
  low_votes = by either where
    by : (plan_at old.plans m.evidence.plan ≡ None) ⊎ IsSome (plan_at old.plans m.evidence.plan) → AreLow new.votes
    by (inl none) = (held.noted none).1.low ready.votes
    by (inr some) = subst AreLow (sym (held.known some).1) ready.votes

  low_plans : (d : Bytes) → IfSome (plan_at new.plans d) IsLowPlan
  low_plans d = by either where
    by : (plan_at old.plans m.evidence.plan ≡ None) ⊎ IsSome (plan_at old.plans m.evidence.plan) → IfSome (plan_at new.plans d) IsLowPlan
    by (inl none) = subst (λ (o : Option KnownPlan). IfSome o IsLowPlan) (sym ((held.noted none).0 d)) (either_fits IsLowPlan (plan_at old.plans d) (if same_bytes m.evidence.plan d then Some (plan_by m.evidence.plan body) else None) (ready.plans d) (fits_if IsLowPlan (same_bytes m.evidence.plan d) (plan_by m.evidence.plan body) low))
    by (inr some) = subst (λ (p : PlanTable). IfSome (plan_at p d) IsLowPlan) (sym (held.known some).0) (ready.plans d)

  in_body : (s : Shape) (secret : Bytes) (x : Batch) → ShowsBatch s secret e x → In body.batches x
  in_body s secret x shows =
      let own = subst (λ (z : Shown). ShowsBatch s secret z x) is shows in
      in_contained body.batches x (subst (λ (b : Body OpenBody). HasBatch s secret b x) whole own.0)

  shown_right : (s : Shape) (secret : Bytes) → s ≡ old.shape → secret ≡ old.usig.secret → (d : Bytes) (x : Batch) → find (λ b. same_bytes (batch_digest b) d) body.batches ≡ Some x
      → ShowsBatch s secret e x × (are_rightly_tagged secret x ≡ true) × (batch_digest x ≡ d)
  shown_right s secret shape key d x at =
      let there = found_there (λ b. same_bytes (batch_digest b) d) body.batches x at in (
        subst (λ (z : Shown). ShowsBatch s secret z x) (sym is) (subst (λ (b : Body OpenBody). HasBatch s secret b x) (sym whole) (contained body.batches x there.0), right s secret shape key),
        ap (λ (k : Bytes). are_rightly_tagged k x) key ∙ all_in (λ (b : Batch). are_rightly_tagged old.usig.secret b ≡ true) body.batches x tags there.0,
        same_bytes-true (batch_digest x) d there.1,
      )

  new_plan : (s : Shape) (secret : Bytes) (all : List Shown) → s ≡ old.shape → secret ≡ old.usig.secret → Shows s secret all old.plans old.batches → plan_at old.plans m.evidence.plan ≡ None
      → (d : Bytes) → known_plans s secret (all ++ e ∷ []) d ≡ option_or (known_plans s secret all d) (if same_bytes m.evidence.plan d then Some (text_of (plan_by m.evidence.plan body)) else None)
  new_plan s secret all shape key shows none =
      plan_first s secret all e m body is whole (ap (shows_plan s secret m.evidence.plan) is ∙ right s secret shape key) (sym (shows.plans_are m.evidence.plan) ∙ ap (option_map text_of) none)

  plans : (s : Shape) (secret : Bytes) (claims said : List Claim) (all : List Shown) (lists : ℕ → List Bare) → Hears s secret claims said all lists old → (d : Bytes) → option_map text_of (plan_at new.plans d) ≡ known_plans s secret (all ++ e ∷ []) d
  plans s secret claims said all lists h d = by either where
    by : (plan_at old.plans m.evidence.plan ≡ None) ⊎ IsSome (plan_at old.plans m.evidence.plan) → option_map text_of (plan_at new.plans d) ≡ known_plans s secret (all ++ e ∷ []) d
    by (inl none) =
        ap (option_map text_of) ((held.noted none).0 d)
        ∙ both text_of (plan_at old.plans d) (plan_by m.evidence.plan body) (same_bytes m.evidence.plan d)
        ∙ ap (λ (o : Option PlanText). option_or o (cond (same_bytes m.evidence.plan d) (Some (text_of (plan_by m.evidence.plan body))) None)) (h.shows.plans_are d)
        ∙ sym (new_plan s secret all (sym h.shape) (sym h.secret_is) h.shows none d)
    by (inr some) =
        ap (λ (p : PlanTable). option_map text_of (plan_at p d)) (held.known some).0 ∙ h.shows.plans_are d
        ∙ sym (plan_known s secret all e m is (known_there s secret all old.plans old.batches m.evidence.plan h.shows some) d)

  counts : (s : Shape) (secret : Bytes) (claims said : List Claim) (all : List Shown) (lists : ℕ → List Bare) → Hears s secret claims said all lists old → Counts (known_plans s secret (all ++ e ∷ [])) lists old.openings.items new.votes
  counts s secret claims said all lists h = by either where
    by : (plan_at old.plans m.evidence.plan ≡ None) ⊎ IsSome (plan_at old.plans m.evidence.plan) → Counts (known_plans s secret (all ++ e ∷ [])) lists old.openings.items new.votes
    by (inl none) =
        counts_plan (known_plans s secret all) (known_plans s secret (all ++ e ∷ [])) lists old.openings.items (plan_by m.evidence.plan body) old.votes new.votes
        (sym (h.shows.plans_are m.evidence.plan) ∙ ap (option_map text_of) none) (new_plan s secret all (sym h.shape) (sym h.secret_is) h.shows none) (held.noted none).1 h.counts
    by (inr some) =
        subst (λ (v : Votes). Counts (known_plans s secret (all ++ e ∷ [])) lists old.openings.items v) (sym (held.known some).1)
        (subst (λ (p : Plans). Counts p lists old.openings.items old.votes) (sym (fun_ext (plan_known s secret all e m is (known_there s secret all old.plans old.batches m.evidence.plan h.shows some)))) h.counts)
