-- The last OPEN of a host, the last NEW_VIEW, a plan and evidence stay held until what may take their place.
use Rattle.std.proofs.Common.{◌≡◌, ℕ, Bool, true, false, ◌&&◌, not, [], ◌∷◌, ◌++◌, ◌⊎◌, refl, sym, ap, subst, inl, inr, Option, Some, None}
use Rattle.std.specs.Prelude.{◌==◌, nat_lt, if◌then◌else◌}
use Rattle.std.proofs.lemmas.Bool.{cases_Bool, or_right, eqb-true, eq-eqb, le-leb, lt-ltb}
use Rattle.mb_parts.specs.declared.certificates.Evidence.{Evidence}
use Rattle.mb_msg.specs.declared.message.Message.TheVariants as message
use Rattle.mb_msg.specs.declared.change.NewView.{NewView}
use Rattle.mb_msg.specs.declared.change.Open.{Open}
use Rattle.mb_msg.specs.declared.change.Join.{Join}
use Rattle.mb_msg.specs.declared.change.Plan.{Plan}
use Rattle.mb_msg.specs.declared.transfer.Log.{Log}
use Rattle.mb_msg.specs.declared.stamped.Stamped.TheVariants as stamped
use Rattle.mb_model.specs.Histories.{Entry, Accepted, Stamped, History, Identity, view_of}
use Rattle.mb_model.specs.Held.{opened_by, new_view_in, new_view_of, plan_in, plan_in_open, plan_held, is_plan_of, gives_plan, plan_from, evidence_of, evidence_view, is_current, is_news, with_news}
use Rattle.mb_promise.specs.KeepsTables.{NoneIs, is_open_of, is_new_view, may_bring_plan, may_bring_evidence, IsNews, LacksPlan, KeepsOpens, KeepsNewViews, KeepsOwnNewViews, KeepsPlans, KeepsOwnPlans, KeepsPlansOfOpens, KeepsEvidence, KeepsEvidenceOfJoins, KeepsEvidenceOfLogs, KeepsOwnEvidence}

module _ {S : Type 0} (self : Identity S) where
  -- ---- OPENs

  open_stays : (later d : History) (h : ℕ) (x : Evidence) → NoneIs (is_open_of h) later → opened_by d h ≡ Some x → opened_by (later ++ d) h ≡ Some x
  unfolding opened_by
  open_stays [] d h x none e = e
  open_stays (Accepted (message.Open m) ∷ l) d h x none e = rw none.0 (open_stays l d h x none.1 e)
  open_stays (y ∷ l) d h x none e = open_stays l d h x none.1 e

  open_new : (m : Open) (d : History) → opened_by (Accepted (message.Open m) ∷ d) m.ui.host ≡ Some m.evidence
  unfolding opened_by
  open_new m d = rw (eq-eqb m.ui.host m.ui.host refl) refl

  pub keeps_opens : (d : History) → KeepsOpens self d
  keeps_opens d later before m is none =
      subst (λ (h : History). opened_by h m.ui.host ≡ Some m.evidence) (sym is) (open_stays later (Accepted (message.Open m) ∷ before) m.ui.host m.evidence none (open_new m before))

  -- ---- NEW_VIEWs

  new_view_stays : (later d : History) (m : NewView) → NoneIs is_new_view later → new_view_of self d ≡ Some m → new_view_of self (later ++ d) ≡ Some m
  unfolding new_view_of
  new_view_stays [] d m none e = e
  new_view_stays (Accepted (message.NewView n) ∷ l) d m none e = let never : true ≡ false = none.0 in absurd cc
  new_view_stays (Stamped (stamped.NewView n) ∷ l) d m none e = let never : true ≡ false = none.0 in absurd cc
  new_view_stays (x ∷ l) d m none e = new_view_stays l d m none.1 e

  new_view_new : (e : Entry) (d : History) (m : NewView) → new_view_in self d e ≡ Some m → new_view_of self (e ∷ d) ≡ Some m
  unfolding new_view_of
  new_view_new e d m is = rw is refl

  new_view_since : (d later before : History) (e : Entry) (m : NewView) → d ≡ later ++ e ∷ before → new_view_in self before e ≡ Some m → NoneIs is_new_view later → new_view_of self d ≡ Some m
  new_view_since d later before e m is new none =
      subst (λ (h : History). new_view_of self h ≡ Some m) (sym is) (new_view_stays later (e ∷ before) m none (new_view_new e before m new))

  pub keeps_new_views : (d : History) → KeepsNewViews self d
  keeps_new_views d later before m b is whole current none =
      new_view_since d later before (Accepted (message.NewView m)) m is (rw (whole, le-leb (view_of self before) m.view current) refl) none

  pub keeps_own_new_views : (d : History) → KeepsOwnNewViews self d
  keeps_own_new_views d later before m is none = new_view_since d later before (Stamped (stamped.NewView m)) m is refl none

  -- ---- plans

  plan_stays : (later d : History) (p : ℕ × Plan) → NoneIs may_bring_plan later → plan_held self d ≡ Some p → plan_held self (later ++ d) ≡ Some p
  unfolding plan_held
  plan_stays [] d p none e = e
  plan_stays (Accepted (message.NewView n) ∷ l) d p none e = let never : true ≡ false = none.0 in absurd cc
  plan_stays (Accepted (message.Open n) ∷ l) d p none e = let never : true ≡ false = none.0 in absurd cc
  plan_stays (Stamped (stamped.NewView n) ∷ l) d p none e = let never : true ≡ false = none.0 in absurd cc
  plan_stays (x ∷ l) d p none e = plan_stays l d p none.1 e

  plan_new : (e : Entry) (d : History) (p : ℕ × Plan) → plan_in self d (plan_held self d) e ≡ Some p → plan_held self (e ∷ d) ≡ Some p
  unfolding plan_held
  plan_new e d p is = rw is refl

  plan_since : (d later before : History) (e : Entry) (p : ℕ × Plan) → d ≡ later ++ e ∷ before → plan_in self before (plan_held self before) e ≡ Some p → NoneIs may_bring_plan later → plan_held self d ≡ Some p
  plan_since d later before e p is new none =
      subst (λ (h : History). plan_held self h ≡ Some p) (sym is) (plan_stays later (e ∷ before) p none (plan_new e before p new))

  pub keeps_plans : (d : History) → KeepsPlans self d
  keeps_plans d later before m b is whole current none =
      plan_since d later before (Accepted (message.NewView m)) (m.view, plan_from self b.changes) is (rw (le-leb (view_of self before) m.view current, whole) refl) none

  pub keeps_own_plans : (d : History) → KeepsOwnPlans self d
  keeps_own_plans d later before m b is whole none =
      plan_since d later before (Stamped (stamped.NewView m)) (m.view, plan_from self b.changes) is (rw whole refl) none

  news_is : (d : History) (x : Evidence) → IsNews self d x → is_news self d (evidence_of self d) x ≡ true
  news_is d x news = rw (le-leb (view_of self d) x.view news.0) (lt-ltb (evidence_view (evidence_of self d)) x.view news.1)

  none_of_view : (view : ℕ) (o : Option (ℕ × Plan)) → ((plan : Plan) → o ≡ Some (view, plan) → ⊥) → is_plan_of view o ≡ false
  none_of_view view None lacks = refl
  none_of_view view (Some p) lacks = elim (cases_Bool (p.0 == view)) [
    | inl same ↦ absurd (lacks p.1 (ap (λ (v : ℕ). Some (v, p.1)) (eqb-true p.0 view same)))
    | inr other ↦ other
  ]

  open_gives : (d : History) (x : Evidence) → IsNews self d x ⊎ LacksPlan self d x.view → gives_plan self d (plan_held self d) x ≡ true
  open_gives d x (inl news) = rw (news_is d x news) refl
  open_gives d x (inr l) =
      or_right (is_news self d (evidence_of self d) x) (is_current self d x.view && (evidence_view (evidence_of self d) == x.view && not (is_plan_of x.view (plan_held self d))))
      (rw (le-leb (view_of self d) x.view l.current, eq-eqb (evidence_view (evidence_of self d)) x.view l.evident, none_of_view x.view (plan_held self d) l.lacks) refl)

  where_given : (t : Bool) (o : Option (ℕ × Plan)) (p : ℕ × Plan) → t ≡ true → o ≡ Some p → (if t then o else None) ≡ Some p
  where_given true o p t e = e
  where_given false o p t e = absurd cc

  pub keeps_plans_of_opens : (d : History) → KeepsPlansOfOpens self d
  keeps_plans_of_opens d later before m b is whole why none =
      let p : ℕ × Plan = (m.evidence.view, record { base = b.stable; batches = b.batches }) in
      let given = where_given (gives_plan self before (plan_held self before) m.evidence) (plan_in_open m) p (open_gives before m.evidence why) (rw whole refl) in
      plan_since d later before (Accepted (message.Open m)) p is given none

  -- ---- evidence

  no_news : (d : History) (x : Evidence) (o : Option Evidence) → nat_lt x.view (evidence_view o) ≡ false → with_news self d (Some x) o ≡ Some x
  no_news d x None e = refl
  no_news d x (Some y) e = elim (cases_Bool (is_current self d y.view)) [
    | inl current ↦ rw (current, e) refl
    | inr past ↦ rw past refl
  ]

  evidence_stays : (later d : History) (x : Evidence) → NoneIs (may_bring_evidence x.view) later → evidence_of self d ≡ Some x → evidence_of self (later ++ d) ≡ Some x
  unfolding evidence_of
  evidence_stays [] d x none e = e
  evidence_stays (Accepted (message.Open m) ∷ l) d x none e = rw (evidence_stays l d x none.1 e) (no_news (l ++ d) x (Some m.evidence) none.0)
  evidence_stays (Accepted (message.Join m) ∷ l) d x none e = rw (evidence_stays l d x none.1 e) (no_news (l ++ d) x m.evidence none.0)
  evidence_stays (Accepted (message.Log m) ∷ l) d x none e = rw (evidence_stays l d x none.1 e) (no_news (l ++ d) x m.evidence none.0)
  evidence_stays (Stamped (stamped.Open m) ∷ l) d x none e = let never : true ≡ false = none.0 in absurd cc
  evidence_stays (y ∷ l) d x none e = evidence_stays l d x none.1 e

  with_the_news : (d : History) (x : Evidence) → IsNews self d x → with_news self d (evidence_of self d) (Some x) ≡ Some x
  with_the_news d x news = rw (news_is d x news) refl

  open_shows : (m : Open) (d : History) → IsNews self d m.evidence → evidence_of self (Accepted (message.Open m) ∷ d) ≡ Some m.evidence
  unfolding evidence_of
  open_shows m d news = with_the_news d m.evidence news

  join_shows : (m : Join) (d : History) (x : Evidence) → m.evidence ≡ Some x → IsNews self d x → evidence_of self (Accepted (message.Join m) ∷ d) ≡ Some x
  unfolding evidence_of
  join_shows m d x is news = rw is (with_the_news d x news)

  log_shows : (m : Log) (d : History) (x : Evidence) → m.evidence ≡ Some x → IsNews self d x → evidence_of self (Accepted (message.Log m) ∷ d) ≡ Some x
  unfolding evidence_of
  log_shows m d x is news = rw is (with_the_news d x news)

  own_shows : (m : Open) (d : History) → evidence_of self (Stamped (stamped.Open m) ∷ d) ≡ Some m.evidence
  unfolding evidence_of
  own_shows m d = refl

  evidence_since : (d later before : History) (e : Entry) (x : Evidence) → d ≡ later ++ e ∷ before → evidence_of self (e ∷ before) ≡ Some x → NoneIs (may_bring_evidence x.view) later → evidence_of self d ≡ Some x
  evidence_since d later before e x is new none = subst (λ (h : History). evidence_of self h ≡ Some x) (sym is) (evidence_stays later (e ∷ before) x none new)

  pub keeps_evidence : (d : History) → KeepsEvidence self d
  keeps_evidence d later before m is news none = evidence_since d later before (Accepted (message.Open m)) m.evidence is (open_shows m before news) none

  pub keeps_evidence_of_joins : (d : History) → KeepsEvidenceOfJoins self d
  keeps_evidence_of_joins d later before m x is shown news none = evidence_since d later before (Accepted (message.Join m)) x is (join_shows m before x shown news) none

  pub keeps_evidence_of_logs : (d : History) → KeepsEvidenceOfLogs self d
  keeps_evidence_of_logs d later before m x is shown news none = evidence_since d later before (Accepted (message.Log m)) x is (log_shows m before x shown news) none

  pub keeps_own_evidence : (d : History) → KeepsOwnEvidence self d
  keeps_own_evidence d later before m is none = evidence_since d later before (Stamped (stamped.Open m)) m.evidence is (own_shows m before) none
