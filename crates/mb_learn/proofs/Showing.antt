-- One vote or OPEN more that is shown: the plans that are known, and the batches that are held.
use Rattle.std.proofs.Common.{◌≡◌, ◌⊎◌, true, false, cond, List, [], ◌∷◌, ◌++◌, map, find, Option, Some, None, option_map, IsSome, is_some, refl, sym, ap, subst, ◌∙◌, inl, inr}
use Rattle.std.specs.Prelude.{◌&&◌, if◌then◌else◌}
use Rattle.std.specs.Option.{option_or}
use Rattle.std.proofs.lemmas.Bool.{cases_Bool, and_parts}
use Rattle.std.proofs.lemmas.List.Folds.{find-append}
use Rattle.mb_base.specs.Shapes.{Bytes}
use Rattle.mb_base.specs.declared.shape.Shape.{Shape}
use Rattle.mb_usig.specs.Tags.{same_bytes}
use Rattle.mb_usig.proofs.Laws.{same_bytes-true}
use Rattle.mb_parts.specs.declared.batch.Batch.{Batch}
use Rattle.mb_parts.specs.Bares.{batch_digest}
use Rattle.mb_msg.specs.declared.message.Body.{Body}
use Rattle.mb_msg.specs.declared.message.Body.TheVariants.{Whole, Bare as Short}
use Rattle.mb_msg.specs.declared.change.Open.{Open}
use Rattle.mb_msg.specs.declared.change.OpenBody.{OpenBody}
use Rattle.mb_msg.specs.declared.stamped.Shown.{Shown}
use Rattle.mb_msg.specs.declared.stamped.Shown.TheVariants as shown
use Rattle.mb_model.specs.Committed.{PlanText}
use Rattle.mb_model.specs.Verified.{are_rightly_tagged}
use Rattle.mb_model.specs.Members.{In}
use Rattle.mb_model.proofs.Members.{in_contained, contained, in_left, in_right}
use Rattle.mb_learn.specs.declared.batches.Batches.{Batches}
use Rattle.mb_learn.specs.declared.plans.Plans.{Plans as PlanTable}
use Rattle.mb_learn.specs.Held.{is_stamped, is_body_of_plan, shows_plan, plan_text, plan_shown, plan_of_first, known_plans, ShowsBatch, IsHeld}
use Rattle.mb_learn.specs.Hearing.{Shows}
use Rattle.mb_learn.specs.Tables.{text_of, plan_at, batch_at}
use Rattle.mb_learn.proofs.Finds.{in_either, found_there, or_none}
use Rattle.mb_learn.proofs.Tests.{true_false}

found_or : {A : Type 0} (o : Option A) → (o ≡ None) ⊎ ((x : A) × (o ≡ Some x))
found_or None = inl refl
found_or (Some x) = inr (x, refl)

module _ (s : Shape) (secret : Bytes) where
  -- ---- plans

  -- What shows a plan has its text.
  plan_there : (d : Bytes) (e : Shown) → shows_plan s secret d e ≡ true → IsSome (plan_shown s secret e)
  plan_there d (shown.Open m) so = by m.body refl where
    by : (b : Body OpenBody) → m.body ≡ b → IsSome (plan_text s secret m.body)
    by (Whole b) is = ap (λ (x : Body OpenBody). is_some (plan_text s secret x)) is
    by (Short x) is =
        let named = (and_parts (same_bytes m.evidence.plan d) _ so).1 in
        let right = (and_parts (is_stamped s secret (shown.Open m)) (is_body_of_plan s secret m m.body) named).1 in
        true_false (sym right ∙ ap (is_body_of_plan s secret m) is)
  plan_there d (shown.Prepare m) so = true_false (sym so)
  plan_there d (shown.Commit m) so = true_false (sym so)
  plan_there d (shown.Checkpoint m) so = true_false (sym so)
  plan_there d (shown.ViewChange m) so = true_false (sym so)
  plan_there d (shown.NewView m) so = true_false (sym so)
  plan_there d (shown.Enter m) so = true_false (sym so)
  plan_there d (shown.Join m) so = true_false (sym so)

  module _ (all : List Shown) (e : Shown) where
    first_too : (d : Bytes) (o : Option Shown) → find (shows_plan s secret d) all ≡ o
        → known_plans s secret (all ++ e ∷ []) d ≡ plan_of_first s secret (option_or o (cond (shows_plan s secret d e) (Some e) None))
    first_too d o is =
        ap (plan_of_first s secret) (find-append (shows_plan s secret d) all (e ∷ []) ∙ ap (λ (x : Option Shown). option_or x (cond (shows_plan s secret d e) (Some e) None)) is)

    -- A plan that is known stays.
    pub plan_stays : (d : Bytes) (x : Shown) → find (shows_plan s secret d) all ≡ Some x → known_plans s secret (all ++ e ∷ []) d ≡ known_plans s secret all d
    plan_stays d x is = first_too d (Some x) is ∙ sym (ap (plan_of_first s secret) is)

    -- One that shows no plan of the digest adds none.
    pub plan_same : (d : Bytes) → shows_plan s secret d e ≡ false → known_plans s secret (all ++ e ∷ []) d ≡ known_plans s secret all d
    plan_same d not_so = by (found_or (find (shows_plan s secret d) all)) where
      by : (find (shows_plan s secret d) all ≡ None) ⊎ ((x : Shown) × (find (shows_plan s secret d) all ≡ Some x)) → known_plans s secret (all ++ e ∷ []) d ≡ known_plans s secret all d
      by (inl none) = first_too d None none ∙ ap (λ b. plan_of_first s secret (cond b (Some e) None)) not_so ∙ sym (ap (plan_of_first s secret) none)
      by (inr there) = plan_stays d there.0 there.1

    -- Where the plan of its digest is known, none is added.
    pub plan_known : (m : Open) → e ≡ shown.Open m → IsSome (known_plans s secret all m.evidence.plan) → (d : Bytes) → known_plans s secret (all ++ e ∷ []) d ≡ known_plans s secret all d
    plan_known m is known d = elim (cases_Bool (shows_plan s secret d e)) [
      | inr not_so ↦ plan_same d not_so
      | inl so ↦
          let named : same_bytes m.evidence.plan d ≡ true = (and_parts (same_bytes m.evidence.plan d) _ (sym (ap (shows_plan s secret d) is) ∙ so)).0 in
          let own : m.evidence.plan ≡ d = same_bytes-true m.evidence.plan d named in
          by d (subst (λ (x : Bytes). IsSome (known_plans s secret all x)) own known) (found_or (find (shows_plan s secret d) all))
    ] where
      by : (d : Bytes) → IsSome (known_plans s secret all d) → (find (shows_plan s secret d) all ≡ None) ⊎ ((x : Shown) × (find (shows_plan s secret d) all ≡ Some x))
          → known_plans s secret (all ++ e ∷ []) d ≡ known_plans s secret all d
      by d there (inl none) = true_false (sym there ∙ ap (λ (o : Option Shown). is_some (plan_of_first s secret o)) none)
      by d there (inr x) = plan_stays d x.0 x.1

    -- where it is the first that shows its plan
    pub plan_first : (m : Open) (b : OpenBody) → e ≡ shown.Open m → m.body ≡ Whole b → shows_plan s secret m.evidence.plan e ≡ true → known_plans s secret all m.evidence.plan ≡ None
        → (d : Bytes) → known_plans s secret (all ++ e ∷ []) d ≡ option_or (known_plans s secret all d) (if same_bytes m.evidence.plan d then Some (record { base = b.stable.pos; digests = map batch_digest b.batches }) else None)
    plan_first m b is whole right unknown d = elim (cases_Bool (same_bytes m.evidence.plan d)) [
      | inr other ↦
          let not_so : shows_plan s secret d e ≡ false = ap (shows_plan s secret d) is ∙ ap (λ x. x && (is_stamped s secret (shown.Open m) && is_body_of_plan s secret m m.body)) other in
          plan_same d not_so ∙ sym (ap (λ x. option_or (known_plans s secret all d) (if x then Some (record { base = b.stable.pos; digests = map batch_digest b.batches }) else None)) other ∙ or_none (known_plans s secret all d))
      | inl same ↦ by d (same_bytes-true m.evidence.plan d same) same
    ] where
      has_text : plan_shown s secret e ≡ Some (record { base = b.stable.pos; digests = map batch_digest b.batches })
      has_text = ap (plan_shown s secret) is ∙ ap (plan_text s secret) whole

      nothing : find (shows_plan s secret m.evidence.plan) all ≡ None
      nothing = none (found_or (find (shows_plan s secret m.evidence.plan) all)) where
        none : (find (shows_plan s secret m.evidence.plan) all ≡ None) ⊎ ((x : Shown) × (find (shows_plan s secret m.evidence.plan) all ≡ Some x)) → find (shows_plan s secret m.evidence.plan) all ≡ None
        none (inl is_none) = is_none
        none (inr x) =
            let passes = (found_there (shows_plan s secret m.evidence.plan) all x.0 x.1).1 in
            true_false (sym (plan_there m.evidence.plan x.0 passes) ∙ ap is_some (sym (ap (plan_of_first s secret) x.1) ∙ unknown))

      by : (d : Bytes) → m.evidence.plan ≡ d → same_bytes m.evidence.plan d ≡ true
          → known_plans s secret (all ++ e ∷ []) d ≡ option_or (known_plans s secret all d) (if same_bytes m.evidence.plan d then Some (record { base = b.stable.pos; digests = map batch_digest b.batches }) else None)
      by d own same =
          let known : known_plans s secret (all ++ e ∷ []) m.evidence.plan ≡ Some (record { base = b.stable.pos; digests = map batch_digest b.batches }) =
          first_too m.evidence.plan None nothing ∙ ap (λ x. plan_of_first s secret (cond x (Some e) None)) right ∙ has_text in
          sym (ap (known_plans s secret (all ++ e ∷ [])) own) ∙ known
          ∙ sym (ap (λ x. option_or (known_plans s secret all d) (if x then Some (record { base = b.stable.pos; digests = map batch_digest b.batches }) else None)) same
          ∙ ap (λ (o : Option PlanText). option_or o (Some (record { base = b.stable.pos; digests = map batch_digest b.batches }))) (sym (ap (known_plans s secret all) own) ∙ unknown))

    -- ---- batches

    held_more : (b : Batch) → IsHeld s secret all b → IsHeld s secret (all ++ e ∷ []) b
    held_more b h = record { by = h.by; among = contained (all ++ e ∷ []) h.by (in_left all (e ∷ []) h.by (in_contained all h.by h.among)); shows = h.shows; tags = h.tags }

    held_last : (b : Batch) → ShowsBatch s secret e b → are_rightly_tagged secret b ≡ true → IsHeld s secret (all ++ e ∷ []) b
    held_last b shows tags = record { by = e; among = contained (all ++ e ∷ []) e (in_right all (e ∷ []) e (inl refl)); shows = shows; tags = tags }

    held_either : (b : Batch) → IsHeld s secret (all ++ e ∷ []) b → IsHeld s secret all b ⊎ (ShowsBatch s secret e b × (are_rightly_tagged secret b ≡ true))
    held_either b h = by (in_either all (e ∷ []) h.by (in_contained (all ++ e ∷ []) h.by h.among)) where
      by : In all h.by ⊎ In (e ∷ []) h.by → IsHeld s secret all b ⊎ (ShowsBatch s secret e b × (are_rightly_tagged secret b ≡ true))
      by (inl before) = inl (record { by = h.by; among = contained all h.by before; shows = h.shows; tags = h.tags })
      by (inr (inl is)) = inr (subst (λ (x : Shown). ShowsBatch s secret x b) (sym is) h.shows, h.tags)
      by (inr (inr none)) = absurd none

    module _ (plans : PlanTable) (batches : Batches) (old : Shows s secret all plans batches) where
      -- nothing new is shown
      pub shows_same : ((d : Bytes) → known_plans s secret (all ++ e ∷ []) d ≡ known_plans s secret all d)
          → ((b : Batch) → ShowsBatch s secret e b → are_rightly_tagged secret b ≡ true → IsSome (batch_at batches (batch_digest b))) → Shows s secret (all ++ e ∷ []) plans batches
      shows_same same there = record {
        plans_are = λ d. old.plans_are d ∙ sym (same d);
        held = λ d b at. let h = old.held d b at in (held_more b h.0, h.1);
        all_held = λ b h. by b (held_either b h);
      } where
        by : (b : Batch) → IsHeld s secret all b ⊎ (ShowsBatch s secret e b × (are_rightly_tagged secret b ≡ true)) → IsSome (batch_at batches (batch_digest b))
        by b (inl before) = old.all_held b before
        by b (inr last) = there b last.0 last.1

      -- batches are held that it shows: those that are found for a digest
      pub shows_found : (new : Batches) (more : PlanTable) (found : Bytes → Option Batch) → ((d : Bytes) → batch_at new d ≡ option_or (batch_at batches d) (found d))
          → ((d : Bytes) → option_map text_of (plan_at more d) ≡ known_plans s secret (all ++ e ∷ []) d)
          → ((d : Bytes) (b : Batch) → found d ≡ Some b → ShowsBatch s secret e b × (are_rightly_tagged secret b ≡ true) × (batch_digest b ≡ d))
          → ((b : Batch) → ShowsBatch s secret e b → are_rightly_tagged secret b ≡ true → IsSome (found (batch_digest b))) → Shows s secret (all ++ e ∷ []) more new
      shows_found new more found holds plans_are right there = record {
        plans_are = plans_are;
        held = λ d b at. each d b (batch_at batches d) refl (sym (holds d) ∙ at);
        all_held = λ b h. by b (held_either b h);
      } where
        each : (d : Bytes) (b : Batch) (o : Option Batch) → batch_at batches d ≡ o → option_or (batch_at batches d) (found d) ≡ Some b → IsHeld s secret (all ++ e ∷ []) b × (batch_digest b ≡ d)
        each d b (Some x) is at =
            let before : batch_at batches d ≡ Some b = is ∙ (sym (ap (λ (o : Option Batch). option_or o (found d)) is) ∙ at) in
            let h = old.held d b before in
            (held_more b h.0, h.1)
        each d b None is at =
            let r = right d b (sym (ap (λ (o : Option Batch). option_or o (found d)) is) ∙ at) in
            (held_last b r.0 r.1, r.2)

        some_first : (a b : Option Batch) → IsSome a → IsSome (option_or a b)
        some_first (Some x) b h = refl
        some_first None b h = true_false (sym h)

        some_second : (a b : Option Batch) → IsSome b → IsSome (option_or a b)
        some_second (Some x) b h = refl
        some_second None b h = h

        by : (b : Batch) → IsHeld s secret all b ⊎ (ShowsBatch s secret e b × (are_rightly_tagged secret b ≡ true)) → IsSome (batch_at new (batch_digest b))
        by b (inl before) = subst (λ (o : Option Batch). IsSome o) (sym (holds (batch_digest b))) (some_first (batch_at batches (batch_digest b)) (found (batch_digest b)) (old.all_held b before))
        by b (inr last) = subst (λ (o : Option Batch). IsSome o) (sym (holds (batch_digest b))) (some_second (batch_at batches (batch_digest b)) (found (batch_digest b)) (there b last.0 last.1))
