-- What a host holds of view changes, behind an entry.
use Rattle.std.proofs.Common.{◌≡◌, ℕ, ◌+◌, max, true, false, ◌&&◌, [], ◌∷◌, ◌++◌, refl, sym, ap, ◌∙◌, inl, inr, Some}
use Rattle.std.specs.Prelude.{◌==◌, not, filter, if◌then◌else◌, is_none}
use Rattle.std.specs.Option.{option_or}
use Rattle.std.proofs.lemmas.Bool.{cases_Bool, eqb-true, eqb-false, eq-eqb, ne_eqb}
use Rattle.mb_msg.specs.declared.message.Message.TheVariants as message
use Rattle.mb_msg.specs.declared.change.ReqViewChange.{ReqViewChange}
use Rattle.mb_msg.specs.declared.change.ViewChange.{ViewChange}
use Rattle.mb_msg.specs.declared.change.NewView.{NewView}
use Rattle.mb_msg.specs.declared.change.Enter.{Enter}
use Rattle.mb_msg.specs.declared.change.Open.{Open}
use Rattle.mb_msg.specs.declared.change.Join.{Join}
use Rattle.mb_msg.specs.declared.transfer.Log.{Log}
use Rattle.mb_msg.specs.declared.stamped.Stamped.TheVariants as stamped
use Rattle.mb_model.specs.UsableLogs.{is_whole}
use Rattle.mb_model.specs.Histories.{Accepted, Stamped, LostPatience, History, Identity, view_of}
use Rattle.mb_model.specs.Held.{is_current, change_fault, wish_of, changes_of, enter_of, opened_by, new_view_of, evidence_of, with_news, plan_held, plan_in_new_view, plan_in_open, gives_plan}
use Rattle.mb_steps.proofs.StepPotential.{max_none}

same_either_way : (a b : ℕ) → (a == b) ≡ (b == a)
same_either_way a b = elim (cases_Bool (b == a)) [
  | inl same ↦ eq-eqb a b (sym (eqb-true b a same)) ∙ sym same
  | inr other ↦ ne_eqb a b (λ e. eqb-false b a other (sym e)) ∙ sym other
]

at_one : {A : Type 0} (host h : ℕ) (x y : A) → (if host == h then x else y) ≡ (if h == host then x else y)
at_one host h x y = ap (λ b. if b then x else y) (same_either_way host h)

-- ---- ENTERs and OPENs: the last of each host

pub enter_put : (m : Enter) (d : History) (h : ℕ) → enter_of (Accepted (message.Enter m) ∷ d) h ≡ (if h == m.ui.host then Some m else enter_of d h)
unfolding enter_of
enter_put m d h = at_one m.ui.host h (Some m) (enter_of d h)

pub own_enter_put : (m : Enter) (d : History) (h : ℕ) → enter_of (Stamped (stamped.Enter m) ∷ d) h ≡ (if h == m.ui.host then Some m else enter_of d h)
unfolding enter_of
own_enter_put m d h = at_one m.ui.host h (Some m) (enter_of d h)

pub opened_put : (m : Open) (d : History) (h : ℕ) → opened_by (Accepted (message.Open m) ∷ d) h ≡ (if h == m.ui.host then Some m.evidence else opened_by d h)
unfolding opened_by
opened_put m d h = at_one m.ui.host h (Some m.evidence) (opened_by d h)

module _ {S : Type 0} (self : Identity S) where
  -- ---- wishes: the greatest of each host

  more_wish : (wish : ℕ → ℕ) (host view h : ℕ) → max (wish h) (if host == h then view else 0) ≡ (if h == host then max (wish host) view else wish h)
  more_wish wish host view h = elim (cases_Bool (h == host)) [
    | inl same ↦ let here : h ≡ host = eqb-true h host same in rw (here, eq-eqb host host refl) refl
    | inr other ↦ rw (other, same_either_way host h, other) (max_none self (wish h))
  ]

  pub wish_put : (m : ReqViewChange) (d : History) (h : ℕ) → wish_of self (Accepted (message.ReqViewChange m) ∷ d) h ≡ (if h == m.host then max (wish_of self d m.host) m.view else wish_of self d h)
  unfolding wish_of
  wish_put m d h = more_wish (wish_of self d) m.host m.view h

  pub change_wish_put : (m : ViewChange) (d : History) (h : ℕ) → wish_of self (Accepted (message.ViewChange m) ∷ d) h ≡ (if h == m.ui.host then max (wish_of self d m.ui.host) m.view else wish_of self d h)
  unfolding wish_of
  change_wish_put m d h = more_wish (wish_of self d) m.ui.host m.view h

  pub own_change_wish_put : (m : ViewChange) (d : History) (h : ℕ) → wish_of self (Stamped (stamped.ViewChange m) ∷ d) h ≡ (if h == m.ui.host then max (wish_of self d m.ui.host) m.view else wish_of self d h)
  unfolding wish_of
  own_change_wish_put m d h = more_wish (wish_of self d) m.ui.host m.view h

  -- Who loses patience wishes for the view behind its own.
  pub patience_wish_put : (d : History) (h : ℕ) → wish_of self (LostPatience ∷ d) h ≡ (if h == self.host then max (wish_of self d self.host) (view_of self d + 1) else wish_of self d h)
  unfolding wish_of
  patience_wish_put d h = more_wish (wish_of self d) self.host (view_of self d + 1) h

  -- ---- VIEW_CHANGEs: the last of each host, in the order of arrival

  pub change_put : (m : ViewChange) (d : History) → is_whole m.body ≡ true → is_current self d m.view ≡ true
      → changes_of self (Accepted (message.ViewChange m) ∷ d) ≡ filter (λ c. not (c.ui.host == m.ui.host)) (changes_of self d) ++ m ∷ []
  unfolding changes_of
  change_put m d whole current = rw (whole, current) refl

  pub change_not_put : (m : ViewChange) (d : History) → (is_whole m.body && is_current self d m.view) ≡ false → changes_of self (Accepted (message.ViewChange m) ∷ d) ≡ changes_of self d
  unfolding changes_of
  change_not_put m d not_so = rw not_so refl

  pub own_change_put : (m : ViewChange) (d : History) → is_whole m.body ≡ true → is_none (change_fault self m) ≡ true
      → changes_of self (Stamped (stamped.ViewChange m) ∷ d) ≡ filter (λ c. not (c.ui.host == m.ui.host)) (changes_of self d) ++ m ∷ []
  unfolding changes_of
  own_change_put m d whole usable = rw (whole, usable) refl

  pub own_change_not_put : (m : ViewChange) (d : History) → (is_whole m.body && is_none (change_fault self m)) ≡ false → changes_of self (Stamped (stamped.ViewChange m) ∷ d) ≡ changes_of self d
  unfolding changes_of
  own_change_not_put m d not_so = rw not_so refl

  -- ---- the NEW_VIEW: the last one

  pub new_view_put : (m : NewView) (d : History) → is_whole m.body ≡ true → is_current self d m.view ≡ true → new_view_of self (Accepted (message.NewView m) ∷ d) ≡ Some m
  unfolding new_view_of
  new_view_put m d whole current = rw (whole, current) refl

  pub new_view_not_put : (m : NewView) (d : History) → (is_whole m.body && is_current self d m.view) ≡ false → new_view_of self (Accepted (message.NewView m) ∷ d) ≡ new_view_of self d
  unfolding new_view_of
  new_view_not_put m d not_so = rw not_so refl

  pub own_new_view_put : (m : NewView) (d : History) → new_view_of self (Stamped (stamped.NewView m) ∷ d) ≡ Some m
  unfolding new_view_of
  own_new_view_put m d = refl

  -- ---- the evidence: that of the greatest view

  pub evidence_opened : (m : Open) (d : History) → evidence_of self (Accepted (message.Open m) ∷ d) ≡ with_news self d (evidence_of self d) (Some m.evidence)
  unfolding evidence_of
  evidence_opened m d = refl

  pub evidence_joined : (m : Join) (d : History) → evidence_of self (Accepted (message.Join m) ∷ d) ≡ with_news self d (evidence_of self d) m.evidence
  unfolding evidence_of
  evidence_joined m d = refl

  pub evidence_in_log : (m : Log) (d : History) → evidence_of self (Accepted (message.Log m) ∷ d) ≡ with_news self d (evidence_of self d) m.evidence
  unfolding evidence_of
  evidence_in_log m d = refl

  pub own_evidence_put : (m : Open) (d : History) → evidence_of self (Stamped (stamped.Open m) ∷ d) ≡ Some m.evidence
  unfolding evidence_of
  own_evidence_put m d = refl

  -- ---- the plan: the last one

  pub plan_announced : (m : NewView) (d : History) → is_current self d m.view ≡ true → plan_held self (Accepted (message.NewView m) ∷ d) ≡ option_or (plan_in_new_view self m) (plan_held self d)
  unfolding plan_held
  plan_announced m d current = rw current refl

  pub plan_not_current : (m : NewView) (d : History) → is_current self d m.view ≡ false → plan_held self (Accepted (message.NewView m) ∷ d) ≡ plan_held self d
  unfolding plan_held
  plan_not_current m d not_so = rw not_so refl

  pub own_plan_announced : (m : NewView) (d : History) → plan_held self (Stamped (stamped.NewView m) ∷ d) ≡ option_or (plan_in_new_view self m) (plan_held self d)
  unfolding plan_held
  own_plan_announced m d = refl

  pub plan_opened : (m : Open) (d : History) → gives_plan self d (plan_held self d) m.evidence ≡ true → plan_held self (Accepted (message.Open m) ∷ d) ≡ option_or (plan_in_open m) (plan_held self d)
  unfolding plan_held
  plan_opened m d gives = rw gives refl

  pub plan_not_given : (m : Open) (d : History) → gives_plan self d (plan_held self d) m.evidence ≡ false → plan_held self (Accepted (message.Open m) ∷ d) ≡ plan_held self d
  unfolding plan_held
  plan_not_given m d not_so = rw not_so refl
