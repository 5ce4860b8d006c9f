-- VIEW_CHANGEs and NEW_VIEWs that a host holds have the values of the grammar, and so have the plans that they make.
use Rattle.std.proofs.Common.{◌≡◌, ℕ, ◌-◌, true, ◌&&◌, List, [], ◌∷◌, refl, subst, inl, inr, Option, Some, None}
use Rattle.std.specs.Prelude.{◌==◌, not, filter, nat_lt, is_none, slice_get, option_map}
use Rattle.std.specs.List.{AllByRecursion}
use Rattle.std.proofs.lemmas.Bool.{and_parts, cases_Bool}
use Rattle.mb_base.specs.declared.shape.Shape.{Shape}
use Rattle.mb_parts.specs.declared.batch.Batch.{Batch}
use Rattle.mb_parts.specs.declared.certificates.Evidence.{Evidence}
use Rattle.mb_parts.specs.Fits.{FitsBatch, FitsStable}
use Rattle.mb_msg.specs.declared.message.Body.{Body}
use Rattle.mb_msg.specs.declared.message.Body.TheVariants.{Whole, Bare as Short}
use Rattle.mb_msg.specs.declared.message.Message.TheVariants as message
use Rattle.mb_msg.specs.declared.change.ChangeBody.{ChangeBody}
use Rattle.mb_msg.specs.declared.change.ViewChange.{ViewChange}
use Rattle.mb_msg.specs.declared.change.NewView.{NewView}
use Rattle.mb_msg.specs.declared.change.NewViewBody.{NewViewBody}
use Rattle.mb_msg.specs.declared.change.OpenBody.{OpenBody}
use Rattle.mb_msg.specs.declared.change.Plan.{Plan}
use Rattle.mb_msg.specs.declared.stamped.Shown.{Shown}
use Rattle.mb_msg.specs.declared.stamped.Shown.TheVariants as shown
use Rattle.mb_msg.specs.declared.stamped.Stamped.TheVariants as stamped
use Rattle.mb_msg.specs.Bodies.{FitsBody, form_of, whole_body}
use Rattle.mb_msg.specs.Fits.{FitsOpenParts, FitsOpenBody, FitsShown, FitsChangeBody, FitsMember, FitsNewViewBody, FitsNewView}
use Rattle.mb_model.specs.Held.{is_current, change_fault, change_in, arrived, changes_of, chosen, new_view_in, new_view_of, shown_log, logs_of, plan_from, plan_in_new_view, plan_in_open, gives_plan, plan_in, plan_held}
use Rattle.mb_model.specs.Histories.{Entry, Accepted, Stamped, History, Identity}
use Rattle.mb_model.specs.Plans.{ShownLog, ShownVote, newest, vote_with, plan_vote, vote_since}
use Rattle.mb_model.specs.UsableLogs.{is_whole}
use Rattle.mb_model.proofs.Options.{or_some, if_some, map_some}
use Rattle.mb_steps.proofs.StepPlanBases.{all_append, all_filter, all_found}
use Rattle.mb_host_laws.proofs.Cases.{some_is, whole_is}
use Rattle.mb_host_laws.proofs.Found.{all_newest}
use Rattle.mb_host_laws.specs.Rests.{Each}
use Rattle.mb_host_laws.proofs.PlanShows.{ShowsSound, plan_holds}
use Rattle.mb_host_laws.proofs.PlanFits.{change_bases, log_has, none_fits}
use Rattle.mb_encodable.specs.Fitting.{HasValues}
use Rattle.mb_encodable.proofs.Batches.{got, body_batch}
use Rattle.mb_host_laws.proofs.DistinctHosts.{chosen_members}

whole_form : {B : Type 0} (x : Body B) → is_whole x ≡ true → form_of x ≡ 1
whole_form (Whole b) e = refl
whole_form (Short d) e = absurd cc

-- ---- the plan of VIEW_CHANGEs that fit

module _ (s : Shape) where
  body_vote : (c : ℕ) (b : Body Batch) → FitsBody (FitsBatch s) b → (z : ShownVote) → vote_with c b ≡ Some z → FitsBatch s z.1
  body_vote c b f z e =
      let r = map_some (λ (x : Batch). (c, x)) (whole_body b) z e in
      subst (λ (y : ShownVote). FitsBatch s y.1) r.2 (body_batch s b f r.0 r.1)

  plan_batch : (e : Evidence) (b : Body OpenBody) (p : ℕ) → FitsBody (FitsOpenBody s e) b → (z : ShownVote) → plan_vote e.base e.counter p b ≡ Some z → FitsBatch s z.1
  plan_batch e (Whole b) p f z is =
      let t = if_some (nat_lt e.base p) (option_map (λ x. (e.counter, x)) (slice_get b.batches (p - e.base - 1))) z is in
      let r = map_some (λ (x : Batch). (e.counter, x)) (slice_get b.batches (p - e.base - 1)) z t.1 in
      subst (λ (y : ShownVote). FitsBatch s y.1) r.2 (got (FitsBatch s) b.batches f.0.1 (p - e.base - 1) r.0 r.1)
  plan_batch e (Short d) p f z is = absurd cc

  vote_batch : (p : ℕ) (l : List Shown) → AllByRecursion (FitsShown s) l → (z : ShownVote) → vote_since p l ≡ Some z → FitsBatch s z.1
  vote_batch p [] a z e = absurd cc
  vote_batch p (shown.Prepare m ∷ l) a z e = elim (cases_Bool (m.pos == p)) [
    | inl here ↦ body_vote m.ui.counter m.body a.0.body z (rw here at e)
    | inr other ↦ vote_batch p l a.1 z (rw other at e)
  ]
  vote_batch p (shown.Commit m ∷ l) a z e = elim (cases_Bool (m.pos == p)) [
    | inl here ↦ body_vote m.counter m.body a.0.body z (rw here at e)
    | inr other ↦ vote_batch p l a.1 z (rw other at e)
  ]
  vote_batch p (shown.Open m ∷ l) a z e = plan_batch m.evidence m.body p a.0.body z e
  vote_batch p (shown.Join m ∷ l) a z e = absurd cc
  vote_batch p (shown.Checkpoint m ∷ l) a z e = vote_batch p l a.1 z e
  vote_batch p (shown.ViewChange m ∷ l) a z e = vote_batch p l a.1 z e
  vote_batch p (shown.NewView m ∷ l) a z e = vote_batch p l a.1 z e
  vote_batch p (shown.Enter m ∷ l) a z e = vote_batch p l a.1 z e

  abbrev FitsLogOf : ShownLog → Type 0
  FitsLogOf log = FitsChangeBody s log.body

  log_shows : (log : ShownLog) → FitsLogOf log → ShowsSound (FitsStable s) (FitsBatch s) log
  log_shows log f = record {
    stable = f.stable;
    base = (log_has s (FitsStable s) (none_fits s) log f.stable (change_bases s log.body f).entries).base;
    batches = λ p z e. vote_batch p (newest log) (all_newest (FitsShown s) [] log.body.entries tt f.entries) z e;
  }

  shown_fits : (m : ViewChange) (log : ShownLog) → FitsMember s m → shown_log m ≡ Some log → ShowsSound (FitsStable s) (FitsBatch s) log
  shown_fits m log f e =
      let r = map_some (λ (b : ChangeBody). record { host = m.ui.host; body = b }) (whole_body m.body) log e in
      let body : FitsChangeBody s r.0 = subst (λ (x : Body ChangeBody). FitsBody (FitsChangeBody s) x) (whole_is m.body r.0 r.1) f.0.body in
      subst (ShowsSound (FitsStable s) (FitsBatch s)) r.2 (log_shows (record { host = m.ui.host; body = r.0 }) body)

  -- what an OPEN shows of a plan
  abbrev pub FitsPlan : Plan → Type 0
  FitsPlan plan = FitsOpenParts s (record { stable = plan.base; batches = plan.batches })

module _ {S : Type 0} (self : Identity S) where
  pub plan_from_fits : (changes : List ViewChange) → AllByRecursion (FitsMember self.shape) changes → FitsPlan self.shape (plan_from self changes)
  plan_from_fits changes a = plan_holds (FitsStable self.shape) (FitsBatch self.shape) self.shape (none_fits self.shape) (logs_of changes)
      (all_found (FitsMember self.shape) (ShowsSound (FitsStable self.shape) (FitsBatch self.shape)) shown_log (λ m log f e. shown_fits self.shape m log f e) changes a)

  -- ---- stored VIEW_CHANGEs

  entry_change : (d : History) (e : Entry) → HasValues self e d → (m : ViewChange) → change_in self d e ≡ Some m → FitsMember self.shape m
  entry_change d (Accepted (message.ViewChange n)) f m e =
      let t = if_some (is_whole n.body && is_current self d n.view) (Some n) m e in
      subst (FitsMember self.shape) (some_is n m t.1) (f, whole_form n.body (and_parts (is_whole n.body) (is_current self d n.view) t.0).0)
  entry_change d (Stamped (stamped.ViewChange n)) f m e =
      let t = if_some (is_whole n.body && is_none (change_fault self n)) (Some n) m e in
      subst (FitsMember self.shape) (some_is n m t.1) (f, whole_form n.body (and_parts (is_whole n.body) (is_none (change_fault self n)) t.0).0)
  entry_change d e f m is = absurd cc

  arrived_fit : (x : Option ViewChange) (l : List ViewChange) → ((m : ViewChange) → x ≡ Some m → FitsMember self.shape m) → AllByRecursion (FitsMember self.shape) l → AllByRecursion (FitsMember self.shape) (arrived self x l)
  arrived_fit None l new a = a
  arrived_fit (Some m) l new a = all_append (FitsMember self.shape) (filter (λ c. not (c.ui.host == m.ui.host)) l) (m ∷ []) (all_filter (FitsMember self.shape) _ l a) (new m refl, tt)

  pub changes_fit : (d : History) → Each (HasValues self) d → AllByRecursion (FitsMember self.shape) (changes_of self d)
  unfolding changes_of
  changes_fit [] a = tt
  changes_fit (e ∷ d) a = arrived_fit (change_in self d e) (changes_of self d) (λ m is. entry_change d e a.0 m is) (changes_fit d a.1)

  -- what a NEW_VIEW may be made of
  pub chosen_fit : (d : History) → Each (HasValues self) d → (v : ℕ) (changes : List ViewChange) → chosen self d v ≡ Some changes → FitsNewViewBody self.shape (record { changes = changes })
  chosen_fit d a v changes e = chosen_members self (FitsMember self.shape) (λ m f. f.0.ui.host) d (changes_fit d a) v changes e

  pub chosen_plan_fits : (d : History) → Each (HasValues self) d → (v : ℕ) (changes : List ViewChange) → chosen self d v ≡ Some changes → FitsPlan self.shape (plan_from self changes)
  chosen_plan_fits d a v changes e = plan_from_fits changes (chosen_fit d a v changes e).1.1

  -- ---- the NEW_VIEW

  entry_new_view : (d : History) (e : Entry) → HasValues self e d → (n : NewView) → new_view_in self d e ≡ Some n → FitsNewView self.shape n
  entry_new_view d (Accepted (message.NewView m)) f n e = let t = if_some (is_whole m.body && is_current self d m.view) (Some m) n e in subst (FitsNewView self.shape) (some_is m n t.1) f
  entry_new_view d (Stamped (stamped.NewView m)) f n e = subst (FitsNewView self.shape) (some_is m n e) f
  entry_new_view d e f n is = absurd cc

  pub new_view_fits : (d : History) → Each (HasValues self) d → (n : NewView) → new_view_of self d ≡ Some n → FitsNewView self.shape n
  unfolding new_view_of
  new_view_fits [] a n e = absurd cc
  new_view_fits (x ∷ d) a n e = elim (or_some (new_view_in self d x) (new_view_of self d) n e) [
    | inl new ↦ entry_new_view d x a.0 n new
    | inr old ↦ new_view_fits d a.1 n old
  ]

  -- ---- the plan

  new_view_plan : (m : NewView) → FitsNewView self.shape m → (p : ℕ × Plan) → plan_in_new_view self m ≡ Some p → FitsPlan self.shape p.1
  new_view_plan m f p e =
      let r = map_some (λ (b : NewViewBody). (m.view, plan_from self b.changes)) (whole_body m.body) p e in
      let body : FitsNewViewBody self.shape r.0 = subst (λ (x : Body NewViewBody). FitsBody (FitsNewViewBody self.shape) x) (whole_is m.body r.0 r.1) f.body in
      subst (λ (q : ℕ × Plan). FitsPlan self.shape q.1) r.2 (plan_from_fits r.0.changes body.1.1)

  entry_plan : (d : History) (e : Entry) → HasValues self e d → (p : ℕ × Plan) → plan_in self d (plan_held self d) e ≡ Some p → FitsPlan self.shape p.1
  entry_plan d (Accepted (message.NewView m)) f p e = new_view_plan m f p (if_some (is_current self d m.view) (plan_in_new_view self m) p e).1
  entry_plan d (Stamped (stamped.NewView m)) f p e = new_view_plan m f p e
  entry_plan d (Accepted (message.Open m)) f p e =
      let t = if_some (gives_plan self d (plan_held self d) m.evidence) (plan_in_open m) p e in
      let r = map_some (λ (b : OpenBody). (m.evidence.view, record { base = b.stable; batches = b.batches })) (whole_body m.body) p t.1 in
      let body : FitsOpenBody self.shape m.evidence r.0 = subst (λ (x : Body OpenBody). FitsBody (FitsOpenBody self.shape m.evidence) x) (whole_is m.body r.0 r.1) f.body in
      subst (λ (q : ℕ × Plan). FitsPlan self.shape q.1) r.2 body.0
  entry_plan d e f p is = absurd cc

  pub held_plan_fits : (d : History) → Each (HasValues self) d → (p : ℕ × Plan) → plan_held self d ≡ Some p → FitsPlan self.shape p.1
  unfolding plan_held
  held_plan_fits [] a p e = absurd cc
  held_plan_fits (x ∷ d) a p e = elim (or_some (plan_in self d (plan_held self d) x) (plan_held self d) p e) [
    | inl new ↦ entry_plan d x a.0 p new
    | inr old ↦ held_plan_fits d a.1 p old
  ]
