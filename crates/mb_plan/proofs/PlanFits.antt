-- What stands in a plan of logs whose fields have allowed values has allowed values too.
use Rattle.std.proofs.Common.{◌≡◌, ℕ, zero, suc, ◌+◌, ◌≤◌, List, [], ◌∷◌, ◌++◌, length, map, Option, Some, None, sym, subst, inl, inr, arith}
use Rattle.std.specs.Prelude.{IfSome, ◌==◌, filter_map, nat_le, nat_lt, ◌-◌, option_map, slice_get}
use Rattle.std.specs.List.{AllByRecursion, cons_option}
use Rattle.std.proofs.lemmas.Bool.{cases_Bool}
use Rattle.mb_base.specs.Shapes.{span}
use Rattle.mb_base.specs.declared.shape.Shape.{Shape}
use Rattle.mb_parts.specs.declared.batch.Batch.{Batch}
use Rattle.mb_parts.specs.declared.certificates.StableCert.{StableCert}
use Rattle.mb_parts.specs.Fits.{IsPlace, FitsBatch, CanDigest}
use Rattle.mb_msg.specs.declared.message.Body.{Body}
use Rattle.mb_msg.specs.declared.message.Body.TheVariants.{Whole, Bare as Short}
use Rattle.mb_msg.specs.declared.change.OpenBody.{OpenBody}
use Rattle.mb_msg.specs.declared.change.ViewChange.{ViewChange}
use Rattle.mb_msg.specs.declared.change.ChangeBody.{ChangeBody}
use Rattle.mb_msg.specs.declared.stamped.Shown.{Shown}
use Rattle.mb_msg.specs.declared.stamped.Shown.TheVariants as shown
use Rattle.mb_msg.specs.Bodies.{FitsBody, whole_body}
use Rattle.mb_msg.specs.Fits.{FitsShown, FitsOpenParts, FitsOpenBody, FitsChangeBody, FitsMember}
use Rattle.mb_msg.specs.Plans.{CanHash}
use Rattle.mb_msg.proofs.Opened.{has_digest}
use Rattle.mb_model.specs.UsableLogs.{newest_first}
use Rattle.mb_model.specs.Plans.{ShownLog, ShownVote, newest, body_base, base_shown, vote_with, plan_vote, vote_since, log_of, by_host, of_view, same_view, opened_view, highest_view, lower_vote, lowest_vote, if_voted, batches_from, stable_of, opening_bases, greatest_position, all_bases, base_of, plan_in_order}
use Rattle.mb_model.specs.Held.{shown_log, logs_of}
use Rattle.mb_model.proofs.PlanLaws.{base_is_greatest}

-- ---- lists

newest_fit : (P : Shown → Type 0) (l es : List Shown) → AllByRecursion P l → AllByRecursion P es → AllByRecursion P (newest_first l es)
newest_fit P l [] fits more = fits
newest_fit P l (e ∷ es) fits (here, more) = newest_fit P (e ∷ l) es (here, fits) more

both_fit : {A : Type 0} (P : A → Type 0) (a b : List A) → AllByRecursion P a → AllByRecursion P b → AllByRecursion P (a ++ b)
both_fit P [] b fits more = more
both_fit P (x ∷ a) b (here, fits) more = (here, both_fit P a b fits more)

onto_fit : {A : Type 0} (P : A → Type 0) (x : Option A) (l : List A) → IfSome x P → AllByRecursion P l → AllByRecursion P (cons_option x l)
onto_fit P None l here fits = fits
onto_fit P (Some x) l here fits = (here, fits)

found_fit : {A B : Type 0} (P : B → Type 0) (f : A → Option B) (l : List A) → ((x : A) → IfSome (f x) P) → AllByRecursion P (filter_map f l)
found_fit P f [] each = tt
found_fit P f (x ∷ l) each = onto_fit P (f x) (filter_map f l) (each x) (found_fit P f l each)

module _ (s : Shape) where
  -- a log whose fields have allowed values
  abbrev pub FitsLog : ShownLog → Type 0
  FitsLog log = FitsChangeBody s log.body

  abbrev pub AreFit : List ShownLog → Type 0
  AreFit logs = AllByRecursion FitsLog logs

  -- ---- the logs of VIEW_CHANGEs

  abbrev as_log : ℕ → ChangeBody → ShownLog
  as_log host b = record { host = host; body = b }

  shown_fit : (host : ℕ) (b : Body ChangeBody) → FitsBody (FitsChangeBody s) b → IfSome (option_map (as_log host) (whole_body b)) FitsLog
  shown_fit host (Whole b) fits = fits
  shown_fit host (Short digest) fits = tt

  logs_fit : (cs : List ViewChange) → AllByRecursion (FitsMember s) cs → AreFit (logs_of cs)
  logs_fit [] fits = tt
  logs_fit (c ∷ cs) (here, fits) = onto_fit FitsLog (shown_log c) (logs_of cs) (shown_fit c.ui.host c.body here.0.body) (logs_fit cs fits)

  log_fits : (logs : List ShownLog) (h : ℕ) → AreFit logs → IfSome (log_of logs h) FitsLog
  log_fits [] h fits = tt
  log_fits (l ∷ logs) h (here, fits) = elim (cases_Bool (l.host == h)) [ inl at ↦ rw at here | inr other ↦ rw other (log_fits logs h fits) ]

  pub by_host_fit : (cs : List ViewChange) → AllByRecursion (FitsMember s) cs → AreFit (by_host s (logs_of cs))
  unfolding by_host
  by_host_fit cs fits = found_fit FitsLog (λ h. log_of (logs_of cs) h) _ (λ h. log_fits (logs_of cs) h (logs_fit cs fits))

  pub of_view_fit : (u : Option ℕ) (logs : List ShownLog) → AreFit logs → AreFit (of_view u logs)
  of_view_fit u [] fits = tt
  of_view_fit u (l ∷ logs) (here, fits) = elim (cases_Bool (same_view (opened_view l) u)) [
    | inl same ↦ rw same (here, of_view_fit u logs fits)
    | inr other ↦ rw other (of_view_fit u logs fits)
  ]

  newest_of : (log : ShownLog) → FitsLog log → AllByRecursion (FitsShown s) (newest log)
  newest_of log fits = newest_fit (FitsShown s) [] log.body.entries tt fits.entries

  -- ---- the base

  abbrev AtPlace : StableCert → Type 0
  AtPlace c = IsPlace c.pos

  body_base_fit : (b : Body OpenBody) → FitsBody (FitsOpenParts s) b → IfSome (body_base b) AtPlace
  body_base_fit (Whole b) fits = fits.0.pos.0
  body_base_fit (Short digest) fits = tt

  base_fit : (l : List Shown) → AllByRecursion (FitsShown s) l → IfSome (base_shown l) AtPlace
  base_fit [] fits = tt
  base_fit (shown.Open m ∷ l) fits = body_base_fit m.body (parts m.body fits.0.body) where
    parts : (b : Body OpenBody) → FitsBody (FitsOpenBody s m.evidence) b → FitsBody (FitsOpenParts s) b
    parts (Whole b) f = f.0
    parts (Short digest) f = f
  base_fit (shown.Join m ∷ l) fits = fits.0.stable.pos.0
  base_fit (shown.Prepare m ∷ l) fits = base_fit l fits.1
  base_fit (shown.Commit m ∷ l) fits = base_fit l fits.1
  base_fit (shown.Checkpoint m ∷ l) fits = base_fit l fits.1
  base_fit (shown.ViewChange m ∷ l) fits = base_fit l fits.1
  base_fit (shown.NewView m ∷ l) fits = base_fit l fits.1
  base_fit (shown.Enter m ∷ l) fits = base_fit l fits.1

  stables_fit : (logs : List ShownLog) → AreFit logs → AllByRecursion AtPlace (map stable_of logs)
  stables_fit [] fits = tt
  stables_fit (l ∷ logs) (here, fits) = (here.stable.pos.0, stables_fit logs fits)

  openings_fit : (logs : List ShownLog) → AreFit logs → AllByRecursion AtPlace (opening_bases logs)
  openings_fit [] fits = tt
  openings_fit (l ∷ logs) (here, fits) = onto_fit AtPlace (base_shown (newest l)) (opening_bases logs) (base_fit (newest l) (newest_of l here)) (openings_fit logs fits)

  greatest_fit : (cs : List StableCert) → AllByRecursion AtPlace cs → IsPlace (greatest_position cs)
  greatest_fit [] fits = omega arith
  greatest_fit (c ∷ cs) (here, fits) = let more = greatest_fit cs fits in omega (arith, here, more)

  pub base_fits : (logs : List ShownLog) → AreFit logs → IsPlace (base_of logs).pos
  base_fits logs fits =
      let all = both_fit AtPlace (map stable_of logs) (opening_bases (of_view (highest_view logs) logs)) (stables_fit logs fits) (openings_fit _ (of_view_fit (highest_view logs) logs fits)) in
      subst IsPlace (sym (base_is_greatest logs)) (greatest_fit (all_bases logs) all)

  -- ---- the batches

  abbrev FitsVote : ShownVote → Type 0
  FitsVote v = FitsBatch s v.1

  with_fit : (counter : ℕ) (b : Body Batch) → FitsBody (FitsBatch s) b → IfSome (vote_with counter b) FitsVote
  with_fit counter (Whole b) fits = fits
  with_fit counter (Short digest) fits = tt

  at_fit : (counter : ℕ) (bs : List Batch) (i : ℕ) → AllByRecursion (FitsBatch s) bs → IfSome (option_map (λ (x : Batch). (counter, x)) (slice_get bs i)) FitsVote
  at_fit counter [] i fits = tt
  at_fit counter (b ∷ bs) zero (here, fits) = here
  at_fit counter (b ∷ bs) (suc i) (here, fits) = at_fit counter bs i fits

  plan_vote_fit : (base counter p : ℕ) (b : Body OpenBody) → FitsBody (FitsOpenParts s) b → IfSome (plan_vote base counter p b) FitsVote
  plan_vote_fit base counter p (Whole b) fits = elim (cases_Bool (nat_lt base p)) [
    | inl above ↦ rw above (at_fit counter b.batches (p - base - 1) fits.1)
    | inr below ↦ rw below tt
  ]
  plan_vote_fit base counter p (Short digest) fits = tt

  vote_fit : (p : ℕ) (l : List Shown) → AllByRecursion (FitsShown s) l → IfSome (vote_since p l) FitsVote
  vote_fit p [] fits = tt
  vote_fit p (shown.Prepare m ∷ l) fits = elim (cases_Bool (m.pos == p)) [ inl at ↦ rw at (with_fit m.ui.counter m.body fits.0.body) | inr other ↦ rw other (vote_fit p l fits.1) ]
  vote_fit p (shown.Commit m ∷ l) fits = elim (cases_Bool (m.pos == p)) [ inl at ↦ rw at (with_fit m.counter m.body fits.0.body) | inr other ↦ rw other (vote_fit p l fits.1) ]
  vote_fit p (shown.Open m ∷ l) fits = plan_vote_fit m.evidence.base m.evidence.counter p m.body (parts m.body fits.0.body) where
    parts : (b : Body OpenBody) → FitsBody (FitsOpenBody s m.evidence) b → FitsBody (FitsOpenParts s) b
    parts (Whole b) f = f.0
    parts (Short digest) f = f
  vote_fit p (shown.Join m ∷ l) fits = tt
  vote_fit p (shown.Checkpoint m ∷ l) fits = vote_fit p l fits.1
  vote_fit p (shown.ViewChange m ∷ l) fits = vote_fit p l fits.1
  vote_fit p (shown.NewView m ∷ l) fits = vote_fit p l fits.1
  vote_fit p (shown.Enter m ∷ l) fits = vote_fit p l fits.1

  lower_fit : (a b : Option ShownVote) → IfSome a FitsVote → IfSome b FitsVote → IfSome (lower_vote a b) FitsVote
  lower_fit None b x y = y
  lower_fit (Some a) None x y = x
  lower_fit (Some a) (Some b) x y = elim (cases_Bool (nat_le a.0 b.0)) [ inl first ↦ rw first x | inr second ↦ rw second y ]

  lowest_fit : (p : ℕ) (logs : List ShownLog) → AreFit logs → IfSome (lowest_vote p logs) FitsVote
  lowest_fit p [] fits = tt
  lowest_fit p (l ∷ logs) (here, fits) = lower_fit (vote_since p (newest l)) (lowest_vote p logs) (vote_fit p (newest l) (newest_of l here)) (lowest_fit p logs fits)

  -- so many at most, each with allowed values
  abbrev AreBatches : ℕ → List Batch → Type 0
  AreBatches most bs = (length bs ≤ most) × AllByRecursion CanDigest bs

  voted_fit : (v : Option ShownVote) (most : ℕ) (bs : List Batch) → IfSome v FitsVote → AreBatches most bs → AreBatches (suc most) (if_voted v bs)
  voted_fit None most bs fits more = (omega arith, tt)
  voted_fit (Some v) most bs fits more = (omega (arith, more.0), (has_digest s v.1 fits, more.1))

  batches_fit : (logs : List ShownLog) (p most : ℕ) → AreFit logs → AreBatches most (batches_from logs p most)
  unfolding batches_from
  batches_fit logs p zero fits = (omega arith, tt)
  batches_fit logs p (suc most) fits = voted_fit (lowest_vote p logs) most (batches_from logs (p + 1) most) (lowest_fit p logs fits) (batches_fit logs (p + 1) most fits)

  -- The digest of a batch that is voted for can be taken.
  pub voted_can_digest : (p : ℕ) (logs : List ShownLog) (v : ShownVote) → AreFit logs → lowest_vote p logs ≡ Some v → CanDigest v.1
  voted_can_digest p logs v fits is = has_digest s v.1 (subst (λ (x : Option ShownVote). IfSome x FitsVote) is (lowest_fit p logs fits))

  -- Its digest and end can be taken.
  pub plan_fits : (logs : List ShownLog) → AreFit logs → CanHash (plan_in_order s logs)
  unfolding plan_in_order
  plan_fits logs fits =
      let more = batches_fit (of_view (highest_view logs) logs) ((base_of logs).pos + 1) (span s) (of_view_fit (highest_view logs) logs fits) in
      (base_fits logs fits, (omega (arith, more.0, s.interval_in.1), more.1))
