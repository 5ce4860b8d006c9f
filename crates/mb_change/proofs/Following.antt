-- A table follows its host's history, and answers for it.
use Rattle.std.proofs.Common.{◌≡◌, ℕ, ◌<◌, Bool, true, false, cond, [], ◌∷◌, Option, Some, refl, sym, ap, ◌∙◌, subst}
use Rattle.std.specs.Prelude.{◌==◌}
use Rattle.mb_base.specs.Shapes.{host_count}
use Rattle.mb_base.specs.declared.shape.Shape.{Shape}
use Rattle.mb_parts.specs.declared.certificates.Evidence.{Evidence}
use Rattle.mb_msg.specs.declared.message.Message.TheVariants as message
use Rattle.mb_msg.specs.declared.stamped.Stamped.TheVariants as stamped
use Rattle.mb_model.specs.Histories.{Entry, Accepted, Stamped, LostPatience, History, Identity, here}
use Rattle.mb_model.specs.Held.{wish_of, changes_of, enter_of, opened_by, new_view_of, evidence_of, plan_held, plan_of_view}
use Rattle.mb_model.specs.OwnLog.{has_other_room}
use Rattle.mb_model.specs.Positions.{exec_of}
use Rattle.mb_model.specs.Stable.{low_of}
use Rattle.mb_history_laws.proofs.Framing.{wishes_stay, changes_stay, enters_stay, opened_stays, new_view_stays, evidence_stays, plan_stays}
use Rattle.mb_history_laws.proofs.ViewChanges.{enter_put, own_enter_put, opened_put, wish_put, change_wish_put, own_change_wish_put, patience_wish_put}
use Rattle.mb_change.specs.declared.due.ChangeDue.{ChangeDue}
use Rattle.mb_change.specs.Tables.{Table, empty_table}
use Rattle.mb_change.specs.Searches.{opened_in}
use Rattle.mb_change.specs.Evidences.{chosen, evidence_for}
use Rattle.mb_change.specs.Rules.{due_with}
use Rattle.mb_change.specs.Represents.{Represents, Answers, searches_of, RepresentsHistory}
use Rattle.mb_change.specs.Written.{written}
use Rattle.mb_change.specs.Histories.{TablesBegin, TablesFollow, IsRule, first_rule, AnswersFor, TablesAnswer}
use Rattle.mb_change.proofs.Standing.{empty_stands}
use Rattle.mb_change.proofs.Agreeing.{rules_agree}

opened_where : (b : Bool) (x y : Option Evidence) → opened_in (cond b x y) ≡ cond b (opened_in x) (opened_in y)
opened_where true x y = refl
opened_where false x y = refl

module _ {S : Type 0} (self : Identity S) where
  -- ---- search by search

  wish_follows : (e : Entry) (d : History) (h : ℕ) → (written self d e (searches_of self d)).wish h ≡ wish_of self (e ∷ d) h
  wish_follows (Accepted (message.ReqViewChange m)) d h = sym (wish_put self m d h)
  wish_follows (Accepted (message.ViewChange m)) d h = sym (change_wish_put self m d h)
  wish_follows (Stamped (stamped.ViewChange m)) d h = sym (own_change_wish_put self m d h)
  wish_follows LostPatience d h = sym (patience_wish_put self d h)
  wish_follows e d h = sym (wishes_stay self e d h refl)

  changes_follow : (e : Entry) (d : History) → (written self d e (searches_of self d)).changes ≡ changes_of self (e ∷ d)
  unfolding changes_of
  changes_follow (Accepted (message.ViewChange m)) d = refl
  changes_follow (Stamped (stamped.ViewChange m)) d = refl
  changes_follow e d = sym (changes_stay self e d refl)

  enter_follows : (e : Entry) (d : History) (h : ℕ) → (written self d e (searches_of self d)).enter h ≡ enter_of (e ∷ d) h
  enter_follows (Accepted (message.Enter m)) d h = sym (enter_put m d h)
  enter_follows (Stamped (stamped.Enter m)) d h = sym (own_enter_put m d h)
  enter_follows e d h = sym (enters_stay e d h refl)

  opened_follows : (e : Entry) (d : History) (h : ℕ) → (written self d e (searches_of self d)).opened h ≡ opened_in (opened_by (e ∷ d) h)
  opened_follows (Accepted (message.Open m)) d h = sym (ap opened_in (opened_put m d h) ∙ opened_where (h == m.ui.host) (Some m.evidence) (opened_by d h))
  opened_follows (Stamped (stamped.Open m)) d h = sym (ap opened_in (opened_stays (Stamped (stamped.Open m)) d h refl))
  opened_follows e d h = sym (ap opened_in (opened_stays e d h refl))

  new_view_follows : (e : Entry) (d : History) → (written self d e (searches_of self d)).new_view ≡ new_view_of self (e ∷ d)
  unfolding new_view_of
  new_view_follows (Accepted (message.NewView m)) d = refl
  new_view_follows (Stamped (stamped.NewView m)) d = refl
  new_view_follows e d = sym (new_view_stays self e d refl)

  evidence_follows : (e : Entry) (d : History) → (written self d e (searches_of self d)).evidence ≡ evidence_of self (e ∷ d)
  unfolding evidence_of
  evidence_follows (Accepted (message.Open m)) d = refl
  evidence_follows (Accepted (message.Join m)) d = refl
  evidence_follows (Accepted (message.Log m)) d = refl
  evidence_follows (Stamped (stamped.Open m)) d = refl
  evidence_follows e d = sym (evidence_stays self e d refl)

  plan_follows : (e : Entry) (d : History) → (written self d e (searches_of self d)).plan ≡ plan_held self (e ∷ d)
  unfolding plan_held
  plan_follows (Accepted (message.NewView m)) d = refl
  plan_follows (Accepted (message.Open m)) d = refl
  plan_follows (Stamped (stamped.NewView m)) d = refl
  plan_follows e d = sym (plan_stays self e d refl)

  -- ---- the table

  follows : (t : Table) (e : Entry) (d : History) → t.shape ≡ self.shape → t.host ≡ self.host → Represents t (written self d e (searches_of self d)) → RepresentsHistory self t (e ∷ d)
  follows t e d shape host r = record {
    shape_is = shape;
    host_is = host;
    stands = record {
      wish_is = λ h lt. r.wish_is h lt ∙ wish_follows e d h;
      changes_are = r.changes_are ∙ changes_follow e d;
      enter_is = λ h lt. r.enter_is h lt ∙ enter_follows e d h;
      opened_is = λ h lt. r.opened_is h lt ∙ opened_follows e d h;
      new_view_is = r.new_view_is ∙ new_view_follows e d;
      evidence_is = r.evidence_is ∙ evidence_follows e d;
      plan_is = r.plan_is ∙ plan_follows e d;
    };
  }

  begins : RepresentsHistory self (empty_table self.shape self.host) []
  unfolding wish_of changes_of enter_of opened_by new_view_of evidence_of plan_held
  begins = record { shape_is = refl; host_is = refl; stands = empty_stands self.shape self.host }

  -- ---- its answers

  module _ (t : Table) (d : History) (r : RepresentsHistory self t d) where
    within : (h : ℕ) → h < host_count self.shape → h < host_count t.shape
    within h lt = subst (λ (s : Shape). h < host_count s) (sym r.shape_is) lt

    due_agrees : (x : ChangeDue) → Answers t x (λ s. due_with t.shape t.host (here self d) s (exec_of d) (low_of self d) (has_other_room self d)) → IsRule self d x (first_rule self d)
    due_agrees x is =
        let first : ChangeDue = due_with self.shape self.host (here self d) (searches_of self d) (exec_of d) (low_of self d) (has_other_room self d) in
        let same : x ≡ first =
        is (searches_of self d) r.stands
        ∙ (ap (λ (s : Shape). due_with s t.host (here self d) (searches_of self d) (exec_of d) (low_of self d) (has_other_room self d)) r.shape_is
        ∙ ap (λ (h : ℕ). due_with self.shape h (here self d) (searches_of self d) (exec_of d) (low_of self d) (has_other_room self d)) r.host_is) in
        subst (λ (y : ChangeDue). IsRule self d y (first_rule self d)) (sym same) (rules_agree S self d)

    answers : AnswersFor self t d
    answers = record {
      wishes = λ h lt. r.stands.wish_is h (within h lt);
      opened = λ h lt. r.stands.opened_is h (within h lt);
      new_view = r.stands.new_view_is;
      evidence = r.stands.evidence_is;
      plan = r.stands.plan_is;
      plans = λ view. ap (plan_of_view view) r.stands.plan_is;
      chosen_for = λ view. ap (chosen t.shape view) r.stands.changes_are ∙ ap (λ (s : Shape). chosen s view (changes_of self d)) r.shape_is;
      evidence_for_view = λ view e is. is (searches_of self d) r.stands ∙ ap (λ (s : Shape). evidence_for s view (searches_of self d)) r.shape_is;
      rule = due_agrees;
    }

pub tables_begin : (S : Type 0) → TablesBegin S
tables_begin S self = begins self

pub tables_follow : (S : Type 0) → TablesFollow S
tables_follow S self t e d shape host r = follows self t e d shape host r

pub tables_answer : (S : Type 0) → TablesAnswer S
tables_answer S self t d r = answers self t d r
