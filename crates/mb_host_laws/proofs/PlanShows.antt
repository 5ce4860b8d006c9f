-- What holds of all certificates and batches that some logs show holds of the base and of the batches of their plan.
use Rattle.std.proofs.Common.{◌≡◌, ℕ, zero, suc, ◌+◌, List, [], ◌∷◌, refl, subst, inl, inr, Option, Some, None}
use Rattle.std.specs.Prelude.{◌==◌, map, unwrap_or}
use Rattle.std.specs.List.{AllByRecursion, range_with_len}
use Rattle.std.proofs.lemmas.Bool.{cases_Bool}
use Rattle.mb_base.specs.Shapes.{span, host_count}
use Rattle.mb_base.specs.declared.shape.Shape.{Shape}
use Rattle.mb_parts.specs.declared.batch.Batch.{Batch}
use Rattle.mb_parts.specs.declared.certificates.StableCert.{StableCert}
use Rattle.mb_model.specs.Plans.{ShownLog, ShownVote, newest, base_shown, vote_since, log_of, by_host, of_view, highest_view, opened_view, same_view, lowest_vote, if_voted, batches_from, stable_of, opening_bases, greatest_position, cert_at, no_base, all_bases, base_of, plan_in_order, plan_of}
use Rattle.mb_model.proofs.Members.{all_in}
use Rattle.mb_model.proofs.PlanLaws.{lowest_from}
use Rattle.mb_steps.proofs.StepPlanBases.{all_filter, all_append, all_found, all_any}
use Rattle.mb_host_laws.proofs.Cases.{some_is}

module _ (P : StableCert → Type 0) (Q : Batch → Type 0) where
  pub record ShowsSound (log : ShownLog) : Type 0 where
    pub stable : P log.body.stable
    pub base : (c : StableCert) → base_shown (newest log) ≡ Some c → P c
    pub batches : (p : ℕ) (z : ShownVote) → vote_since p (newest log) ≡ Some z → Q z.1

  stables : (logs : List ShownLog) → AllByRecursion ShowsSound logs → AllByRecursion P (map stable_of logs)
  stables [] a = tt
  stables (log ∷ logs) a = (a.0.stable, stables logs a.1)

  found_cert : (p : ℕ) (l : List StableCert) → AllByRecursion P l → (c : StableCert) → cert_at p l ≡ Some c → P c
  found_cert p [] a c e = absurd cc
  found_cert p (x ∷ l) a c e = elim (cases_Bool (x.pos == p)) [
    | inl here ↦ subst P (some_is x c (rw here at e)) a.0
    | inr other ↦ found_cert p l a.1 c (rw other at e)
  ]

  sound_view : (logs : List ShownLog) → AllByRecursion ShowsSound logs → AllByRecursion ShowsSound (of_view (highest_view logs) logs)
  sound_view logs a = all_filter ShowsSound (λ log. same_view (opened_view log) (highest_view logs)) logs a

  base_holds : P no_base → (logs : List ShownLog) → AllByRecursion ShowsSound logs → P (base_of logs)
  base_holds none logs a = go (cert_at (greatest_position (all_bases logs)) (all_bases logs)) refl where
    go : (x : Option StableCert) → cert_at (greatest_position (all_bases logs)) (all_bases logs) ≡ x → P (unwrap_or x no_base)
    go None e = none
    go (Some c) e = found_cert (greatest_position (all_bases logs)) (all_bases logs)
        (all_append P (map stable_of logs) (opening_bases (of_view (highest_view logs) logs)) (stables logs a)
        (all_found ShowsSound P (λ log. base_shown (newest log)) (λ log x b y. b.base x y) (of_view (highest_view logs) logs) (sound_view logs a))) c e

  batch_holds : (logs : List ShownLog) → AllByRecursion ShowsSound logs → (p : ℕ) (z : ShownVote) → lowest_vote p logs ≡ Some z → Q z.1
  batch_holds logs a p z e = let l = lowest_from p z logs e in (all_in ShowsSound logs l.0 a l.1).batches p z l.2

  batches_hold : (logs : List ShownLog) → AllByRecursion ShowsSound logs → (p most : ℕ) → AllByRecursion Q (batches_from logs p most)
  unfolding batches_from
  batches_hold logs a p zero = tt
  batches_hold logs a p (suc most) = go (batches_hold logs a (p + 1) most) (lowest_vote p logs) refl where
    go : AllByRecursion Q (batches_from logs (p + 1) most) → (x : Option ShownVote) → lowest_vote p logs ≡ x → AllByRecursion Q (if_voted x (batches_from logs (p + 1) most))
    go more None e = tt
    go more (Some z) e = (batch_holds logs a p z e, more)

  log_holds : (logs : List ShownLog) → AllByRecursion ShowsSound logs → (h : ℕ) (log : ShownLog) → log_of logs h ≡ Some log → ShowsSound log
  log_holds [] a h log e = absurd cc
  log_holds (x ∷ logs) a h log e = elim (cases_Bool (x.host == h)) [
    | inl here ↦ subst ShowsSound (some_is x log (rw here at e)) a.0
    | inr other ↦ log_holds logs a.1 h log (rw other at e)
  ]

  in_order : (s : Shape) → P no_base → (logs : List ShownLog) → AllByRecursion ShowsSound logs → P (plan_in_order s logs).base × AllByRecursion Q (plan_in_order s logs).batches
  unfolding plan_in_order
  in_order s none logs a = (base_holds none logs a, batches_hold (of_view (highest_view logs) logs) (sound_view logs a) ((base_of logs).pos + 1) (span s))

  -- So it is for the plan of these logs.
  pub plan_holds : (s : Shape) → P no_base → (logs : List ShownLog) → AllByRecursion ShowsSound logs → P (plan_of s logs).base × AllByRecursion Q (plan_of s logs).batches
  unfolding by_host
  plan_holds s none logs a = in_order s none (by_host s logs)
      (all_found (λ (h : ℕ). Unit {0}) ShowsSound (λ h. log_of logs h) (λ h log u e. log_holds logs a h log e) (range_with_len 0 (host_count s)) (all_any (range_with_len 0 (host_count s))))
