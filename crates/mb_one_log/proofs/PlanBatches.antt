-- The batches of a plan are among those that the logs show of which it is made; and those that a usable log shows are rightly tagged.
use Rattle.std.proofs.Common.{◌≡◌, ℕ, zero, suc, ◌+◌, ◌-◌, Bool, true, false, ◌&&◌, not, List, [], ◌∷◌, length, refl, ap, subst, inl, inr, eqb, Option, Some, None}
use Rattle.std.specs.Prelude.{◌==◌, nat_lt, filter_map, slice_get, option_map, if◌then◌else◌}
use Rattle.std.specs.Bool.{then_some}
use Rattle.std.specs.List.{AllByRecursion, list_all, list_any, range_with_len}
use Rattle.std.proofs.lemmas.Bool.{and_parts, cases_Bool}
use Rattle.mb_base.specs.Shapes.{Bytes, span, host_count}
use Rattle.mb_base.specs.declared.shape.Shape.{Shape}
use Rattle.mb_parts.specs.declared.floor.Floor.{Floor}
use Rattle.mb_parts.specs.Claims.{Claim}
use Rattle.mb_parts.specs.Certificates.{is_stable, inner_valid}
use Rattle.mb_parts.specs.Ordered.{permits}
use Rattle.mb_msg.specs.declared.message.Body.{Body}
use Rattle.mb_msg.specs.declared.message.Body.TheVariants.{Whole, Bare as Short}
use Rattle.mb_msg.specs.declared.change.OpenBody.{OpenBody}
use Rattle.mb_msg.specs.declared.change.ChangeBody.{ChangeBody}
use Rattle.mb_msg.specs.declared.stamped.Shown.{Shown}
use Rattle.mb_msg.specs.declared.stamped.Shown.TheVariants as shown
use Rattle.mb_msg.specs.Stamps.{ui_of_shown, bare_of_shown}
use Rattle.mb_model.specs.UsableLogs.{is_opening_entry, shows_body, has_body, same_truth, height, entry_claim, bares, floor_of, is_comparable_body, is_plan_body, is_sound_body, is_ill_founded, is_too_long, entry_fault, entries_fault, fault_from, log_fault, is_sound_plan, is_sound_batch}
use Rattle.mb_model.specs.Plans.{ShownVote, ShownLog, newest, vote_with, plan_vote, vote_since, by_host, of_view, highest_view, lowest_vote, batches_from, plan_in_order, plan_of, log_of, base_of}
use Rattle.mb_model.proofs.Options.{or_none, if_some, map_some}
use Rattle.mb_model.proofs.UsableLaws.{map_none}
use Rattle.mb_model.proofs.PlanLaws.{lowest_from}
use Rattle.mb_steps.proofs.StepPlanBases.{all_filter}
use Rattle.mb_model.proofs.Members.{all_in}
use Rattle.mb_host_laws.proofs.Cases.{some_is}
use Rattle.mb_host_laws.proofs.Found.{all_newest}
use Rattle.mb_model.proofs.Lists.{in_at}
use Rattle.mb_one_log.proofs.Batches.{batch_in, batches_in_open, shown_batches}
use Rattle.mb_model.specs.Verified.{are_rightly_tagged}
use Rattle.mb_parts.specs.declared.batch.Batch.{Batch}

pub of_pair : {A B : Type 0} (a : A) (b : B) (z : A × B) → Some (a, b) ≡ Some z → b ≡ z.1
of_pair {A} {B} a b z e = ap (λ (p : A × B). p.1) (some_is (a, b) z e)

-- ---- the batches of a plan

module _ (R : Batch → Type 0) where
  abbrev pub AllShown : List Shown → Type 0
  AllShown l = AllByRecursion (λ (e : Shown). AllByRecursion R (shown_batches e)) l

  abbrev pub AllOfLogs : List ShownLog → Type 0
  AllOfLogs l = AllByRecursion (λ (log : ShownLog). AllShown log.body.entries) l

  of_body : (c : ℕ) (b : Body Batch) (z : ShownVote) → AllByRecursion R (batch_in b) → vote_with c b ≡ Some z → R z.1
  of_body c (Whole b) z a e = subst R (of_pair c b z e) a.0
  of_body c (Short d) z a e = absurd cc

  of_plan : (base c p : ℕ) (b : Body OpenBody) (z : ShownVote) → AllByRecursion R (batches_in_open b) → plan_vote base c p b ≡ Some z → R z.1
  of_plan base c p (Whole b) z a e =
      let t = if_some (nat_lt base p) (option_map (λ x. (c, x)) (slice_get b.batches (p - base - 1))) z e in
      let r = map_some (λ (x : Batch). (c, x)) (slice_get b.batches (p - base - 1)) z t.1 in
      subst R (ap (λ (y : ShownVote). y.1) r.2) (all_in R b.batches r.0 a (in_at b.batches (p - base - 1) r.0 r.1))
  of_plan base c p (Short d) z a e = absurd cc

  voted : (p : ℕ) (l : List Shown) (z : ShownVote) → AllShown l → vote_since p l ≡ Some z → R z.1
  voted p [] z a e = absurd cc
  voted p (shown.Prepare m ∷ l) z a e = elim (cases_Bool (eqb m.pos p)) [
    | inl here ↦ of_body m.ui.counter m.body z a.0 (rw here at e)
    | inr other ↦ voted p l z a.1 (rw other at e)
  ]
  voted p (shown.Commit m ∷ l) z a e = elim (cases_Bool (eqb m.pos p)) [
    | inl here ↦ of_body m.counter m.body z a.0 (rw here at e)
    | inr other ↦ voted p l z a.1 (rw other at e)
  ]
  voted p (shown.Open m ∷ l) z a e = of_plan m.evidence.base m.evidence.counter p m.body z a.0 e
  voted p (shown.Join m ∷ l) z a e = absurd cc
  voted p (shown.Checkpoint m ∷ l) z a e = voted p l z a.1 e
  voted p (shown.ViewChange m ∷ l) z a e = voted p l z a.1 e
  voted p (shown.NewView m ∷ l) z a e = voted p l z a.1 e
  voted p (shown.Enter m ∷ l) z a e = voted p l z a.1 e

  voted_from : (logs : List ShownLog) (p most : ℕ) → AllOfLogs logs → AllByRecursion R (batches_from logs p most)
  unfolding batches_from
  voted_from logs p zero a = tt
  voted_from logs p (suc most) a = go (lowest_vote p logs) refl (voted_from logs (p + 1) most a) where
    go : (o : Option ShownVote) → lowest_vote p logs ≡ o → AllByRecursion R (batches_from logs (p + 1) most) → AllByRecursion R (batches_from logs p (suc most))
    go None is rest = rw is tt
    go (Some z) is rest =
        let l = lowest_from p z logs is in
        rw is (voted p (newest l.0) z (all_newest (λ (e : Shown). AllByRecursion R (shown_batches e)) [] l.0.body.entries tt (all_in (λ (log : ShownLog). AllShown log.body.entries) logs l.0 a l.1)) l.2, rest)

  found_log : (logs : List ShownLog) (h : ℕ) (log : ShownLog) → AllOfLogs logs → log_of logs h ≡ Some log → AllShown log.body.entries
  found_log [] h log a e = absurd cc
  found_log (x ∷ logs) h log a e = elim (cases_Bool (eqb x.host h)) [
    | inl here ↦ subst (λ (y : ShownLog). AllShown y.body.entries) (some_is x log (rw here at e)) a.0
    | inr other ↦ found_log logs h log a.1 (rw other at e)
  ]

  found_logs : (logs : List ShownLog) (hosts : List ℕ) → AllOfLogs logs → AllOfLogs (filter_map (λ h. log_of logs h) hosts)
  found_logs logs [] a = tt
  found_logs logs (h ∷ hosts) a = go (log_of logs h) refl (found_logs logs hosts a) where
    go : (o : Option ShownLog) → log_of logs h ≡ o → AllOfLogs (filter_map (λ i. log_of logs i) hosts) → AllOfLogs (filter_map (λ i. log_of logs i) (h ∷ hosts))
    go None is rest = rw is rest
    go (Some x) is rest = rw is (found_log logs h x a is, rest)

  -- What holds of all that logs show holds of the batches of their plan.
  pub plan_all : (s : Shape) (logs : List ShownLog) → AllOfLogs logs → AllByRecursion R (plan_of s logs).batches
  unfolding plan_in_order by_host
  plan_all s logs a =
      let l : List ShownLog = by_host s logs in
      voted_from (of_view (highest_view l) l) ((base_of l).pos + 1) (span s) (all_filter (λ (log : ShownLog). AllShown log.body.entries) _ l (found_logs logs (range_with_len 0 (host_count s)) a))

-- ---- what a usable log shows is rightly tagged

module _ (s : Shape) (secret : Bytes) (valid : Claim → Bool) where
  abbrev IsTagged : Batch → Type 0
  IsTagged b = are_rightly_tagged secret b ≡ true

  all_tagged : (l : List Batch) → list_all (are_rightly_tagged secret) l ≡ true → AllByRecursion IsTagged l
  all_tagged [] e = tt
  all_tagged (b ∷ l) e = let a = and_parts (are_rightly_tagged secret b) (list_all (are_rightly_tagged secret) l) e in (a.0, all_tagged l a.1)

  -- those of a plan whose body was found right
  pub plan_body_tagged : (base end : ℕ) (plan : Bytes) (b : OpenBody) → is_plan_body s secret valid base end plan b ≡ true → AllByRecursion IsTagged b.batches
  plan_body_tagged base end plan b e =
      let a = and_parts (is_comparable_body s secret valid base end b) _ e in
      let c = and_parts (is_stable s valid b.stable) _ a.0 in
      let d = and_parts (b.stable.pos == base) _ c.1 in
      all_tagged b.batches (and_parts (length b.batches == end - base) (list_all (are_rightly_tagged secret) b.batches) d.1).1

  body_tagged : (b : Body Batch) → is_sound_batch s secret valid b ≡ true → AllByRecursion IsTagged (batch_in b)
  body_tagged (Whole b) e = (e, tt)
  body_tagged (Short d) e = tt

  open_tagged : (base end : ℕ) (plan : Bytes) (b : Body OpenBody) → is_sound_plan s secret valid base end plan b ≡ true → AllByRecursion IsTagged (batches_in_open b)
  open_tagged base end plan (Whole b) e = plan_body_tagged base end plan b e
  open_tagged base end plan (Short d) e = tt

  entry_tagged : (e : Shown) → is_sound_body s secret valid e ≡ true → AllByRecursion IsTagged (shown_batches e)
  entry_tagged (shown.Prepare m) t = body_tagged m.body t
  entry_tagged (shown.Commit m) t = body_tagged m.body t
  entry_tagged (shown.Open m) t = open_tagged m.evidence.base m.evidence.end m.evidence.plan m.body t
  entry_tagged (shown.Checkpoint m) t = tt
  entry_tagged (shown.ViewChange m) t = tt
  entry_tagged (shown.NewView m) t = tt
  entry_tagged (shown.Enter m) t = tt
  entry_tagged (shown.Join m) t = tt

  refused_not : (b : Bool) (n : ℕ) (o : Option ℕ) → (if b then Some n else o) ≡ None → o ≡ None
  refused_not true n o e = absurd cc
  refused_not false n o e = e

  last_not : (b : Bool) (n : ℕ) → (if not b then Some n else None) ≡ None → b ≡ true
  last_not true n e = refl
  last_not false n e = absurd cc

  sound_entry : (host stable : ℕ) (o : Floor) (before : List Shown) (e : Shown) (behind : List Shown) → entry_fault s secret valid host stable o before e behind ≡ None → is_sound_body s secret valid e ≡ true
  unfolding entry_fault
  sound_entry host stable o before e behind h =
      last_not (is_sound_body s secret valid e) 8
      (refused_not (nat_lt (stable + span s) (height e)) 7 _
      (refused_not (not (same_truth (shows_body e) (has_body e && not (list_any is_opening_entry behind)))) 6 _
      (refused_not (not (permits o s host (inner_valid s valid) (bares before) (bare_of_shown e))) 5 _
      (refused_not (not ((ui_of_shown e).host == host && valid (entry_claim host e))) 4 _
      (refused_not (not ((ui_of_shown e).counter == o.counter + length before + 1)) 3 _ h)))))

  entries_tagged : (host stable : ℕ) (o : Floor) (before es : List Shown) → entries_fault s secret valid host stable o before es ≡ None → AllShown IsTagged es
  unfolding entries_fault
  entries_tagged host stable o before [] h = tt
  entries_tagged host stable o before (e ∷ es) h =
      let parts = or_none (option_map (λ reason. (length before, reason)) (entry_fault s secret valid host stable o before e es)) (entries_fault s secret valid host stable o (e ∷ before) es) h in
      (entry_tagged e (sound_entry host stable o before e es (map_none (λ reason. (length before, reason)) _ parts.0)), entries_tagged host stable o (e ∷ before) es parts.1)

  pub log_tagged : (host view counter : ℕ) (b : ChangeBody) → log_fault s secret valid host view counter b ≡ None → AllShown IsTagged b.entries
  unfolding log_fault
  log_tagged host view counter b none = go (floor_of s valid host b.floor) none where
    go : (o : Option Floor) → fault_from s secret valid host view counter b o ≡ None → AllShown IsTagged b.entries
    go None n = absurd cc
    go (Some o) n =
        let a = or_none (then_some (is_ill_founded s secret valid b) (0, 2)) _ n in
        let c = or_none (then_some (is_too_long s secret valid b.entries) (0, 9)) _ a.1 in
        let d = or_none (entries_fault s secret valid host b.stable.pos o [] b.entries) _ c.1 in
        entries_tagged host b.stable.pos o [] b.entries d.0
