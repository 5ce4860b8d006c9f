-- The table of view changes stays true: it stands for the history with one more entry once the calls behind the entry are done. Then entry by entry, by
-- the calls that the code makes; each that is made only where a test holds is put in by a law of its own.
use Rattle.std.proofs.Common.{◌≡◌, ℕ, ◌+◌, Bool, true, false, ◌&&◌, ◌∷◌, refl, sym, ap, ◌∙◌, Option, Some, None}
use Rattle.std.specs.Prelude.{is_none, option_map, if◌then◌else◌}
use Rattle.mb_parts.specs.declared.certificates.Evidence.{Evidence}
use Rattle.mb_msg.specs.declared.message.Body.{Body}
use Rattle.mb_msg.specs.declared.message.Body.TheVariants.{Whole, Bare as Short}
use Rattle.mb_msg.specs.declared.message.Message.TheVariants as message
use Rattle.mb_msg.specs.declared.stamped.Stamped.TheVariants as stamped
use Rattle.mb_msg.specs.declared.change.ReqViewChange.{ReqViewChange}
use Rattle.mb_msg.specs.declared.change.ViewChange.{ViewChange}
use Rattle.mb_msg.specs.declared.change.NewView.{NewView}
use Rattle.mb_msg.specs.declared.change.NewViewBody.{NewViewBody}
use Rattle.mb_msg.specs.declared.change.Enter.{Enter}
use Rattle.mb_msg.specs.declared.change.Open.{Open}
use Rattle.mb_msg.specs.declared.change.OpenBody.{OpenBody}
use Rattle.mb_msg.specs.declared.change.Join.{Join}
use Rattle.mb_msg.specs.declared.change.Plan.{Plan}
use Rattle.mb_msg.specs.declared.transfer.Log.{Log}
use Rattle.mb_msg.specs.Bodies.{whole_body}
use Rattle.mb_model.specs.UsableLogs.{is_whole}
use Rattle.mb_model.specs.Histories.{Entry, Accepted, Stamped, LostPatience, History, Identity, view_of}
use Rattle.mb_model.specs.Held.{is_current, is_news, change_fault, plan_held, plan_from, plan_in_open, gives_plan}
use Rattle.mb_change.specs.Tables.{Table}
use Rattle.mb_change.specs.Searches.{opened_in, with_wish, with_change, with_enter, with_opened, with_new_view, with_evidence, with_plan}
use Rattle.mb_change.specs.Represents.{StandsWith, SameHost, searches_of, RepresentsHistory}
use Rattle.mb_change.specs.Histories.{AnswersFor}
use Rattle.mb_change.specs.Written.{with_planned, with_shown, brought, written}
use Rattle.mb_change.proofs.Following.{tables_follow, tables_answer}
use Rattle.mb_history_laws.specs.Speaks.{speaks_of_change}
use Rattle.mb_history_laws.proofs.Tables.{change_left}
use Rattle.mb_refinement.specs.Stands.{ChangeStands}

-- ---- calls put together

pub same_host : (a b c : Table) → SameHost a b → SameHost b c → SameHost a c
same_host a b c first second = record { shape_is = second.shape_is ∙ first.shape_is; host_is = second.host_is ∙ first.host_is }

-- A plan that an entry brings is held; where it brings none, nothing is called.
pub plan_brought : (a b : Table) (x : Option (ℕ × Plan)) (view : ℕ) (plan : Plan) → x ≡ Some (view, plan) → StandsWith a (with_plan view plan) b → StandsWith a (with_planned x) b
plan_brought a b x view plan is stands = λ s r. rw is (stands s r)

pub no_plan_brought : (a : Table) (x : Option (ℕ × Plan)) → x ≡ None → StandsWith a (with_planned x) a
no_plan_brought a x is = λ s r. rw is r

module _ {S : Type 0} (self : Identity S) where
  -- Evidence that is shown is held where it is news against that of the table.
  pub news_held : (a b : Table) (d : History) (e : Evidence) → is_news self d a.evidence e ≡ true → StandsWith a (with_evidence e) b → StandsWith a (with_shown self d (Some e)) b
  news_held a b d e news stands = λ s r. rw (sym (ap (λ held. is_news self d held e) r.evidence_is) ∙ news) (stands s r)

  pub no_news : (a : Table) (d : History) (e : Evidence) → is_news self d a.evidence e ≡ false → StandsWith a (with_shown self d (Some e)) a
  no_news a d e news = λ s r. rw (sym (ap (λ held. is_news self d held e) r.evidence_is) ∙ news) r

  pub nothing_shown : (a : Table) (d : History) → StandsWith a (with_shown self d None) a
  nothing_shown a d = λ s r. r

  -- ---- the table

  represents : (t : Table) (d : History) → ChangeStands self t d → RepresentsHistory self t d
  represents t d c = record { shape_is = c.shape; host_is = c.host; stands = c.represents }

  -- what it answers of the history
  pub change_answers : (t : Table) (d : History) → ChangeStands self t d → AnswersFor self t d
  change_answers t d c = tables_answer S self t d (represents t d c)

  -- Once the calls behind an entry are done, it stands for the history with the entry.
  pub change_stands : (old new : Table) (e : Entry) (d : History) → SameHost old new → StandsWith old (written self d e) new → ChangeStands self old d → ChangeStands self new (e ∷ d)
  change_stands old new e d same stands c =
      let after : RepresentsHistory self new (e ∷ d) = tables_follow S self new e d (same.shape_is ∙ c.shape) (same.host_is ∙ c.host) (stands (searches_of self d) c.represents) in
      record { shape = after.shape_is; host = after.host_is; represents = after.stands }

  -- It stays where the entry speaks of nothing that it holds.
  pub change_stays : (t : Table) (e : Entry) (d : History) → speaks_of_change e ≡ false → ChangeStands self t d → ChangeStands self t (e ∷ d)
  change_stays t e d s c =
      let same = change_left self e d s in
      let r = c.represents in
      record {
        shape = c.shape;
        host = c.host;
        represents = record {
          wish_is = λ h lt. r.wish_is h lt ∙ sym (same.wishes h);
          changes_are = r.changes_are ∙ sym same.changes;
          enter_is = λ h lt. r.enter_is h lt ∙ sym (same.enters h);
          opened_is = λ h lt. r.opened_is h lt ∙ sym (ap opened_in (same.opened h));
          new_view_is = r.new_view_is ∙ sym same.new_view;
          evidence_is = r.evidence_is ∙ sym same.evidence;
          plan_is = r.plan_is ∙ sym same.plan;
        };
      }

  -- ---- entry by entry

  is_so : {B : Type 0} (body : Body B) (b : B) → whole_body body ≡ Some b → is_whole body ≡ true
  is_so (Whole x) b e = refl
  is_so (Short x) b e = absurd cc

  module _ (old new : Table) (d : History) (same : SameHost old new) (c : ChangeStands self old d) where
    pub wish_taken : (m : ReqViewChange) → StandsWith old (with_wish m.host m.view) new → ChangeStands self new (Accepted (message.ReqViewChange m) ∷ d)
    wish_taken m stands = change_stands old new (Accepted (message.ReqViewChange m)) d same stands c

    pub patience_lost : StandsWith old (with_wish self.host (view_of self d + 1)) new → ChangeStands self new (LostPatience ∷ d)
    patience_lost stands = change_stands old new LostPatience d same stands c

    -- a VIEW_CHANGE that is stored, and one that is not
    pub change_stored : (m : ViewChange) → (is_whole m.body && is_current self d m.view) ≡ true → StandsWith old (λ s. with_change m (with_wish m.ui.host m.view s)) new → ChangeStands self new (Accepted (message.ViewChange m) ∷ d)
    change_stored m test stands = change_stands old new (Accepted (message.ViewChange m)) d same (λ s r. rw test (stands s r)) c

    pub change_not_stored : (m : ViewChange) → (is_whole m.body && is_current self d m.view) ≡ false → StandsWith old (with_wish m.ui.host m.view) new → ChangeStands self new (Accepted (message.ViewChange m) ∷ d)
    change_not_stored m test stands = change_stands old new (Accepted (message.ViewChange m)) d same (λ s r. rw test (stands s r)) c

    pub own_change_stored : (m : ViewChange) → (is_whole m.body && is_none (change_fault self m)) ≡ true → StandsWith old (λ s. with_change m (with_wish m.ui.host m.view s)) new → ChangeStands self new (Stamped (stamped.ViewChange m) ∷ d)
    own_change_stored m test stands = change_stands old new (Stamped (stamped.ViewChange m)) d same (λ s r. rw test (stands s r)) c

    pub own_change_not_stored : (m : ViewChange) → (is_whole m.body && is_none (change_fault self m)) ≡ false → StandsWith old (with_wish m.ui.host m.view) new → ChangeStands self new (Stamped (stamped.ViewChange m) ∷ d)
    own_change_not_stored m test stands = change_stands old new (Stamped (stamped.ViewChange m)) d same (λ s r. rw test (stands s r)) c

    -- a NEW_VIEW that is held with its plan, and the own one
    pub new_view_held : (m : NewView) (b : NewViewBody) → is_current self d m.view ≡ true → whole_body m.body ≡ Some b → StandsWith old (λ s. with_plan m.view (plan_from self b.changes) (with_new_view m s)) new
        → ChangeStands self new (Accepted (message.NewView m) ∷ d)
    new_view_held m b current whole stands = change_stands old new (Accepted (message.NewView m)) d same (λ s r. rw (is_so m.body b whole, current, whole) (stands s r)) c

    pub own_new_view_held : (m : NewView) (b : NewViewBody) → whole_body m.body ≡ Some b → StandsWith old (λ s. with_plan m.view (plan_from self b.changes) (with_new_view m s)) new → ChangeStands self new (Stamped (stamped.NewView m) ∷ d)
    own_new_view_held m b whole stands = change_stands old new (Stamped (stamped.NewView m)) d same (λ s r. rw whole (stands s r)) c

    pub enter_taken : (m : Enter) → StandsWith old (with_enter m) new → ChangeStands self new (Accepted (message.Enter m) ∷ d)
    enter_taken m stands = change_stands old new (Accepted (message.Enter m)) d same stands c

    pub own_enter_held : (m : Enter) → StandsWith old (with_enter m) new → ChangeStands self new (Stamped (stamped.Enter m) ∷ d)
    own_enter_held m stands = change_stands old new (Stamped (stamped.Enter m)) d same stands c

    -- an OPEN: what is kept of it, then its evidence where it is news, then its plan where it gives one
    pub open_taken : (m : Open) (opened shown : Table) → StandsWith old (with_opened m.ui.host (opened_in (Some m.evidence))) opened → StandsWith opened (with_shown self d (Some m.evidence)) shown
        → StandsWith shown (with_planned (brought self d (Accepted (message.Open m)))) new → ChangeStands self new (Accepted (message.Open m) ∷ d)
    open_taken m opened shown first second third = change_stands old new (Accepted (message.Open m)) d same (λ s r. third _ (second _ (first s r))) c

    pub own_open_held : (m : Open) → StandsWith old (with_evidence m.evidence) new → ChangeStands self new (Stamped (stamped.Open m) ∷ d)
    own_open_held m stands = change_stands old new (Stamped (stamped.Open m)) d same stands c

    -- the evidence of a JOIN and of a LOG, where it is news
    pub join_taken : (m : Join) → StandsWith old (with_shown self d m.evidence) new → ChangeStands self new (Accepted (message.Join m) ∷ d)
    join_taken m stands = change_stands old new (Accepted (message.Join m)) d same stands c

    pub log_taken : (m : Log) → StandsWith old (with_shown self d m.evidence) new → ChangeStands self new (Accepted (message.Log m) ∷ d)
    log_taken m stands = change_stands old new (Accepted (message.Log m)) d same stands c

  -- A NEW_VIEW that is not current, or came without its body, leaves the table.
  pub new_view_not_held : (t : Table) (m : NewView) (d : History) → (is_whole m.body && is_current self d m.view) ≡ false → ChangeStands self t d → ChangeStands self t (Accepted (message.NewView m) ∷ d)
  new_view_not_held t m d test c = change_stands t t (Accepted (message.NewView m)) d (record { shape_is = refl; host_is = refl }) (λ s r. rw (test, nothing m.body test) r) c where
    none_where : {A : Type 0} (b : Bool) (x : Option A) → x ≡ None → (if b then x else None) ≡ None
    none_where true x none = none
    none_where false x none = refl

    nothing : (body : Body NewViewBody) → (is_whole body && is_current self d m.view) ≡ false → (if is_current self d m.view then option_map {U = ℕ × Plan} (λ b. (m.view, plan_from self b.changes)) (whole_body body) else None) ≡ None
    nothing (Whole b) past = rw past refl
    nothing (Short x) past = none_where (is_current self d m.view) (option_map {U = ℕ × Plan} (λ (b : NewViewBody). (m.view, plan_from self b.changes)) None) refl

  -- ---- the plan that an OPEN gives

  pub open_gives : (m : Open) (b : OpenBody) (d : History) → gives_plan self d (plan_held self d) m.evidence ≡ true → whole_body m.body ≡ Some b
      → brought self d (Accepted (message.Open m)) ≡ Some (m.evidence.view, record { base = b.stable; batches = b.batches })
  open_gives m b d gives whole = rw (gives, whole) refl

  pub open_gives_none : (m : Open) (d : History) → gives_plan self d (plan_held self d) m.evidence ≡ false → brought self d (Accepted (message.Open m)) ≡ None
  open_gives_none m d gives = rw gives refl

  pub short_open_gives_none : (m : Open) (d : History) → whole_body m.body ≡ None → brought self d (Accepted (message.Open m)) ≡ None
  short_open_gives_none m d short = by_test (gives_plan self d (plan_held self d) m.evidence) where
    by_test : (b : Bool) → (if b then plan_in_open m else None) ≡ None
    by_test true = rw short refl
    by_test false = refl
