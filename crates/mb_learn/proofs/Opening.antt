-- What is held of one OPEN more.
use Rattle.std.proofs.Common.{◌≡◌, ◌-◌, Bool, true, false, List, [], ◌∷◌, length, find, Option, Some, None, IsSome, refl, sym, ap, subst, ◌∙◌}
use Rattle.std.specs.Prelude.{◌&&◌, ◌==◌}
use Rattle.std.specs.List.{list_all, AllByRecursion}
use Rattle.std.specs.Option.{option_or}
use Rattle.std.proofs.lemmas.Bool.{and_parts, and_from}
use Rattle.std.proofs.lemmas.Option.{none-some}
use Rattle.mb_base.specs.Shapes.{Bytes}
use Rattle.mb_base.specs.declared.shape.Shape.{Shape}
use Rattle.mb_usig.specs.Tags.{same_bytes}
use Rattle.mb_usig.proofs.Laws.{true-same_bytes}
use Rattle.mb_parts.specs.declared.batch.Batch.{Batch}
use Rattle.mb_parts.specs.Bares.{batch_digest}
use Rattle.mb_msg.specs.declared.message.Body.{Body}
use Rattle.mb_msg.specs.declared.message.Body.TheVariants.{Whole, Bare as Short}
use Rattle.mb_msg.specs.declared.change.Open.{Open}
use Rattle.mb_msg.specs.declared.change.OpenBody.{OpenBody}
use Rattle.mb_msg.specs.declared.stamped.Shown.{Shown}
use Rattle.mb_msg.specs.declared.stamped.Shown.TheVariants as shown
use Rattle.mb_model.specs.UsableLogs.{is_plan_body}
use Rattle.mb_model.specs.Verified.{verifies, are_rightly_tagged}
use Rattle.mb_model.proofs.Members.{in_contained, all_in}
use Rattle.mb_learn.specs.declared.batches.Batches.{Batches}
use Rattle.mb_learn.specs.declared.plans.KnownPlan.{KnownPlan}
use Rattle.mb_learn.specs.declared.heard.Heard.{Heard}
use Rattle.mb_learn.specs.Held.{is_stamped, is_body_of_plan, shows_plan, HasBatch}
use Rattle.mb_learn.specs.Hearing.{IsReady, Holds}
use Rattle.mb_learn.specs.Holding.{NotesPlan, HoldsPlan}
use Rattle.mb_learn.specs.Tables.{plan_at, batch_at}
use Rattle.mb_learn.proofs.HeldMore.{holds_nothing, known_there}
use Rattle.mb_learn.proofs.Showing.{plan_same, plan_known}
use Rattle.mb_learn.proofs.Tests.{true_false, and_false}

module _ (t : Heard) (m : Open) (ready : IsReady t) where
  abbrev entry : Shown
  entry = shown.Open m

  -- what makes it show its plan
  abbrev pub is_right : Shape → Bytes → Bool
  is_right s secret = is_stamped s secret entry && is_body_of_plan s secret m m.body

  -- It shows nothing.
  pub open_wrong : ((s : Shape) (secret : Bytes) → s ≡ t.shape → secret ≡ t.usig.secret → is_right s secret ≡ false) → Holds (entry ∷ []) t t
  open_wrong wrong =
      holds_nothing t entry ready
      (λ s secret all shape key shows d. plan_same s secret all entry d (ap (λ b. same_bytes m.evidence.plan d && b) (wrong s secret shape key) ∙ and_false (same_bytes m.evidence.plan d)))
      (λ s secret shape key b shows tags. true_false (sym (and_parts (same_bytes m.evidence.plan m.evidence.plan) _ shows.1).1 ∙ wrong s secret shape key))

  -- since its body isn't whole
  pub open_bare : (digest : Bytes) → m.body ≡ Short digest → Holds (entry ∷ []) t t
  open_bare digest is = open_wrong (λ s secret shape key. ap (λ (x : Body OpenBody). is_stamped s secret entry && is_body_of_plan s secret m x) is ∙ and_false (is_stamped s secret entry))

  pub open_short : ((b : OpenBody) → m.body ≡ Whole b → ⊥) → Holds (entry ∷ []) t t
  open_short not_whole = by m.body refl where
    by : (x : Body OpenBody) → m.body ≡ x → Holds (entry ∷ []) t t
    by (Whole b) is = absurd (not_whole b is)
    by (Short d) is = open_bare d is

  -- since its host didn't stamp it
  pub open_unstamped : is_stamped t.shape t.usig.secret entry ≡ false → Holds (entry ∷ []) t t
  open_unstamped not_so = open_wrong (λ s secret shape key. ap (λ b. b && is_body_of_plan s secret m m.body) (ap (λ (k : Bytes). is_stamped s k entry) key ∙ not_so))

  module _ (body : OpenBody) (whole : m.body ≡ Whole body) where
    abbrev pub is_plans : Shape → Bytes → Bool
    is_plans s secret = is_plan_body s secret (verifies secret) m.evidence.base m.evidence.end m.evidence.plan body

    -- since its body isn't that of its plan
    pub open_false : is_plans t.shape t.usig.secret ≡ false → Holds (entry ∷ []) t t
    open_false not_so = open_wrong (λ s secret shape key.
        ap (λ (x : Body OpenBody). is_stamped s secret entry && is_body_of_plan s secret m x) whole
        ∙ ap (λ b. is_stamped s secret entry && b) (ap (λ (z : Shape). is_plans z secret) shape ∙ ap (is_plans t.shape) key ∙ not_so)
        ∙ and_false (is_stamped s secret entry))

    -- Plan and batches are known.
    pub open_known : IsSome (plan_at t.plans m.evidence.plan) → AllByRecursion (λ b. IsSome (batch_at t.batches (batch_digest b))) body.batches → Holds (entry ∷ []) t t
    open_known plan batches =
        holds_nothing t entry ready (λ s secret all shape key shows d. plan_known s secret all entry m refl (known_there s secret all t.plans t.batches m.evidence.plan shows plan) d)
        (λ s secret shape key b shows tags.
        all_in (λ (x : Batch). IsSome (batch_at t.batches (batch_digest x))) body.batches b batches (in_contained body.batches b (subst (λ (x : Body OpenBody). HasBatch s secret x b) whole shows.0)))

    -- It shows its plan.
    pub open_right : is_stamped t.shape t.usig.secret entry ≡ true → is_plans t.shape t.usig.secret ≡ true → (s : Shape) (secret : Bytes) → s ≡ t.shape → secret ≡ t.usig.secret → shows_plan s secret m.evidence.plan entry ≡ true
    open_right stamped plans s secret shape key =
        and_from (same_bytes m.evidence.plan m.evidence.plan) (is_right s secret) (true-same_bytes m.evidence.plan m.evidence.plan refl)
        (and_from (is_stamped s secret entry) (is_body_of_plan s secret m m.body) (ap (λ (k : Bytes). is_stamped s k entry) key ∙ stamped)
        (ap (is_body_of_plan s secret m) whole ∙ (ap (λ (z : Shape). is_plans z secret) shape ∙ ap (is_plans t.shape) key ∙ plans)))

    -- ... with batches of right tags, from its base on
    open_parts : is_plans t.shape t.usig.secret ≡ true → ((body.stable.pos == m.evidence.base) ≡ true) × ((length body.batches == m.evidence.end - m.evidence.base && list_all (are_rightly_tagged t.usig.secret) body.batches) ≡ true)
    open_parts plans = and_parts (body.stable.pos == m.evidence.base) _ (and_parts _ _ (and_parts _ _ plans).0).1

    pub open_tags : is_plans t.shape t.usig.secret ≡ true → AllByRecursion (λ b. are_rightly_tagged t.usig.secret b ≡ true) body.batches
    open_tags plans = each body.batches (and_parts _ _ (open_parts plans).1).1 where
      each : (l : List Batch) → list_all (are_rightly_tagged t.usig.secret) l ≡ true → AllByRecursion (λ b. are_rightly_tagged t.usig.secret b ≡ true) l
      each [] so = tt
      each (b ∷ l) so = let both = and_parts (are_rightly_tagged t.usig.secret b) (list_all (are_rightly_tagged t.usig.secret) l) so in (both.0, each l both.1)

-- ---- its batches are held, and its plan is noted

not_none : {A B : Type 0} (o : Option A) → IsSome o → o ≡ None → B
not_none (Some x) some none = absurd (none-some x (sym none))
not_none None some none = true_false (sym some)

module _ (old : Heard) (batches : Batches) (plan : KnownPlan) (l : List Batch) (holds : (d : Bytes) → batch_at batches d ≡ option_or (batch_at old.batches d) (find (λ b. same_bytes (batch_digest b) d) l)) where
  -- the plan is known
  pub plan_kept : IsSome (plan_at old.plans plan.digest) → HoldsPlan plan l old (record old { batches = batches })
  plan_kept known = record {
    held = holds;
    known = λ some. (refl, refl);
    noted = λ none. not_none (plan_at old.plans plan.digest) known none;
    hosts = record { shape = refl; usig = refl; followers = refl; openings = refl; checkpoints = refl; news = refl };
  }

  -- it is new
  pub plan_noted : (new : Heard) → plan_at old.plans plan.digest ≡ None → NotesPlan plan (record old { batches = batches }) new → HoldsPlan plan l old new
  plan_noted new none notes = record {
    held = λ d. ap (λ (t : Batches). batch_at t d) notes.batches ∙ holds d;
    known = λ some. not_none (plan_at old.plans plan.digest) some none;
    noted = λ _. (notes.plans, notes.votes);
    hosts = record { shape = notes.hosts.shape; usig = notes.hosts.usig; followers = notes.hosts.followers; openings = notes.hosts.openings; checkpoints = notes.hosts.checkpoints; news = notes.hosts.news };
  }
