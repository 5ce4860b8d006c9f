-- A NEW_VIEW, a plan, evidence and a stored VIEW_CHANGE give place only to what an entry brings in time.
use Rattle.std.proofs.Common.{◌≡◌, ℕ, ◌≤◌, ◌<◌, ◌⊎◌, true, ◌&&◌, not, [], ◌∷◌, refl, sym, subst, ◌∙◌, inl, inr, Option, Some, None}
use Rattle.std.specs.Prelude.{◌==◌, nat_lt, filter, Contains}
use Rattle.std.proofs.lemmas.Bool.{cases_Bool, and_parts, eqb-true, leb-true, ltb-true}
use Rattle.mb_parts.specs.declared.certificates.Evidence.{Evidence}
use Rattle.mb_msg.specs.declared.message.Message.TheVariants as message
use Rattle.mb_msg.specs.declared.change.ViewChange.{ViewChange}
use Rattle.mb_msg.specs.declared.change.NewView.{NewView}
use Rattle.mb_msg.specs.declared.change.Plan.{Plan}
use Rattle.mb_msg.specs.declared.stamped.Stamped.TheVariants as stamped
use Rattle.mb_model.specs.UsableLogs.{is_whole}
use Rattle.mb_model.specs.Histories.{Entry, Accepted, Stamped, History, Identity, view_of}
use Rattle.mb_model.specs.Held.{change_in, arrived, changes_of, new_view_in, new_view_of, evidence_shown, evidence_view, with_news, is_news, is_current, evidence_of, plan_in, plan_in_new_view, plan_in_open, gives_plan, plan_held}
use Rattle.mb_model.proofs.Members.{in_left, in_right, contained, in_contained}
use Rattle.mb_model.proofs.Options.{if_some, option_cases}
use Rattle.mb_promise.specs.KeepsTables.{IsChange}
use Rattle.mb_promise.specs.FindsTables.{IsNewView, ShowsEvidence, BringsPlan}
use Rattle.mb_promise.specs.ReplacesTables.{IsInTime, IsInTimeAndAbove, ReplacesTables}
use Rattle.mb_world_model.specs.World.{System, self_of}
use Rattle.mb_world_model.specs.WorldSteps.{world}
use Rattle.mb_host_laws.proofs.Cases.{some_is}
use Rattle.mb_host_laws.proofs.Found.{gives_current}
use Rattle.mb_provenance.proofs.EntriesCame.{change_said, new_view_said, plan_said, shown_said}
use Rattle.mb_provenance.proofs.KeptChanges.{in_filter}

module _ {S : Type 0} (self : Identity S) where
  -- ---- NEW_VIEWs

  new_view_timely : (x : Entry) (d : History) (m : NewView) → new_view_in self d x ≡ Some m → IsInTime self x d m.view
  new_view_timely (Accepted (message.NewView n)) d m e =
      let t = if_some (is_whole n.body && is_current self d n.view) (Some n) m e in
      let a = and_parts (is_whole n.body) (is_current self d n.view) t.0 in
      subst (λ (z : NewView). view_of self d ≤ z.view) (some_is n m t.1) (leb-true (view_of self d) n.view a.1)
  new_view_timely (Stamped (stamped.NewView n)) d m e = tt
  new_view_timely x d m e = absurd cc

  new_view_next : (x : Entry) (d : History) (n : NewView) → new_view_of self d ≡ Some n
      → (new_view_of self (x ∷ d) ≡ Some n) ⊎ ((m : NewView) × (new_view_of self (x ∷ d) ≡ Some m) × IsNewView x m × IsInTime self x d m.view)
  unfolding new_view_of
  new_view_next x d n e = elim (option_cases (new_view_in self d x)) [
    | inl none ↦ inl (rw none e)
    | inr (m, some) ↦ inr (m, rw some refl, new_view_said self x d m some, new_view_timely x d m some)
  ]

  -- ---- plans

  plan_timely : (x : Entry) (d : History) (held : Option (ℕ × Plan)) (v : ℕ) (p : Plan) → plan_in self d held x ≡ Some (v, p) → IsInTime self x d v
  plan_timely (Accepted (message.NewView m)) d held v p e =
      let t = if_some (is_current self d m.view) (plan_in_new_view self m) (v, p) e in
      let b = plan_said self (Accepted (message.NewView m)) d held v p e in
      subst (λ (w : ℕ). view_of self d ≤ w) b.2 (leb-true (view_of self d) m.view t.0)
  plan_timely (Stamped (stamped.NewView m)) d held v p e = tt
  plan_timely (Accepted (message.Open m)) d held v p e =
      let t = if_some (gives_plan self d held m.evidence) (plan_in_open m) (v, p) e in
      let b = plan_said self (Accepted (message.Open m)) d held v p e in
      subst (λ (w : ℕ). view_of self d ≤ w) b.2 (leb-true (view_of self d) m.evidence.view (gives_current self d held m.evidence t.0))
  plan_timely x d held v p e = absurd cc

  plan_next : (x : Entry) (d : History) (v : ℕ) (p : Plan) → plan_held self d ≡ Some (v, p)
      → (plan_held self (x ∷ d) ≡ Some (v, p)) ⊎ ((w : ℕ) × (q : Plan) × (plan_held self (x ∷ d) ≡ Some (w, q)) × BringsPlan self x w q × IsInTime self x d w)
  unfolding plan_held
  plan_next x d v p e = elim (option_cases (plan_in self d (plan_held self d) x)) [
    | inl none ↦ inl (rw none e)
    | inr (q, some) ↦ inr (q.0, q.1, rw some refl, plan_said self x d (plan_held self d) q.0 q.1 some, plan_timely x d (plan_held self d) q.0 q.1 some)
  ]

  -- ---- evidence

  abbrev EvidenceNext : Entry → History → Evidence → Type 0
  EvidenceNext e d x = (evidence_of self (e ∷ d) ≡ Some x) ⊎ ((y : Evidence) × (evidence_of self (e ∷ d) ≡ Some y) × ShowsEvidence e y × IsInTimeAndAbove self e d x.view y.view)

  -- of what is shown, what is news is held
  news_next : (e : Entry) (d : History) (x y : Evidence) → evidence_of self d ≡ Some x → evidence_shown e ≡ Some y → evidence_of self (e ∷ d) ≡ with_news self d (evidence_of self d) (Some y)
      → (is_news self d (Some x) y ≡ true → IsInTimeAndAbove self e d x.view y.view) → EvidenceNext e d x
  news_next e d x y held shown is beyond = elim (cases_Bool (is_news self d (Some x) y)) [
    | inl news ↦ inr (y, is ∙ rw (held, news) refl, shown_said self e y shown, beyond news)
    | inr old ↦ inl (is ∙ rw (held, old) refl)
  ]

  taken_beyond : (d : History) (x y : Evidence) → is_news self d (Some x) y ≡ true → (view_of self d ≤ y.view) × (x.view < y.view)
  taken_beyond d x y e =
      let a = and_parts (is_current self d y.view) (nat_lt (evidence_view (Some x)) y.view) e in
      (leb-true (view_of self d) y.view a.0, ltb-true x.view y.view a.1)

  -- of a message that may show none
  may_show : (e : Entry) (d : History) (x : Evidence) (o : Option Evidence) → evidence_of self d ≡ Some x → evidence_shown e ≡ o → evidence_of self (e ∷ d) ≡ with_news self d (evidence_of self d) o
      → ((y : Evidence) → is_news self d (Some x) y ≡ true → IsInTimeAndAbove self e d x.view y.view) → EvidenceNext e d x
  may_show e d x None held shown is beyond = inl (is ∙ held)
  may_show e d x (Some y) held shown is beyond = news_next e d x y held shown is (beyond y)

  evidence_next : (e : Entry) (d : History) (x : Evidence) → evidence_of self d ≡ Some x → EvidenceNext e d x
  unfolding evidence_of
  evidence_next (Stamped (stamped.Open m)) d x held = inr (m.evidence, refl, refl, tt)
  evidence_next (Accepted (message.Open m)) d x held = may_show (Accepted (message.Open m)) d x (Some m.evidence) held refl refl (λ y news. taken_beyond d x y news)
  evidence_next (Accepted (message.Join m)) d x held = may_show (Accepted (message.Join m)) d x m.evidence held refl refl (λ y news. taken_beyond d x y news)
  evidence_next (Accepted (message.Log m)) d x held = may_show (Accepted (message.Log m)) d x m.evidence held refl refl (λ y news. taken_beyond d x y news)
  evidence_next e d x held = inl held

  -- ---- VIEW_CHANGEs

  abbrev ChangeNext : Entry → History → ViewChange → Type 0
  ChangeNext e d m = Contains (changes_of self (e ∷ d)) m ⊎ ((c : ViewChange) × Contains (changes_of self (e ∷ d)) c × IsChange e c × (c.ui.host ≡ m.ui.host))

  change_next : (e : Entry) (d : History) (m : ViewChange) → Contains (changes_of self d) m → ChangeNext e d m
  unfolding changes_of
  change_next e d m there = elim (option_cases (change_in self d e)) [
    | inl none ↦ inl (subst (λ (o : Option ViewChange). Contains (arrived self o (changes_of self d)) m) (sym none) there)
    | inr (c, some) ↦ elim (cases_Bool (m.ui.host == c.ui.host)) [
      | inl same ↦
          let new = in_right (filter (λ (x : ViewChange). not (x.ui.host == c.ui.host)) (changes_of self d)) (c ∷ []) c (inl refl) in
          inr (c, subst (λ (o : Option ViewChange). Contains (arrived self o (changes_of self d)) c) (sym some) (contained _ c new), change_said self e d c some, sym (eqb-true m.ui.host c.ui.host same))
      | inr other ↦
          let stays : not (m.ui.host == c.ui.host) ≡ true = rw other refl in
          let old = in_left (filter (λ (x : ViewChange). not (x.ui.host == c.ui.host)) (changes_of self d)) (c ∷ []) m
          (in_filter (λ (x : ViewChange). not (x.ui.host == c.ui.host)) (changes_of self d) m (in_contained (changes_of self d) m there) stays) in
          inl (subst (λ (o : Option ViewChange). Contains (arrived self o (changes_of self d)) m) (sym some) (contained _ m old))
    ]
  ]

  pub replaces_tables : (d : History) → ReplacesTables self d
  replaces_tables d = record {
    new_views = λ later before e n is held. new_view_next e before n held;
    plans = λ later before e v p is held. plan_next e before v p held;
    evidence = λ later before e x is held. evidence_next e before x held;
    changes = λ later before e m is there. change_next e before m there;
  }

-- Of any history, so in each world.
pub hosts_replace_tables : {S : Type 0} (system : System S) → (k h : ℕ) → ReplacesTables (self_of system h) ((world system k).histories h)
hosts_replace_tables system k h = replaces_tables (self_of system h) ((world system k).histories h)
