-- What a table stands for, behind each call.
use Rattle.std.proofs.Common.{◌≡◌, ℕ, zero, suc, ◌<◌, Bool, true, false, cond, eqb, List, [], ◌∷◌, ◌++◌, length, filter, set, get_or, replicate, max, Option, Some, None, refl, sym, ap, ◌∙◌, subst, arith, inl, inr, get_or-set_same, get_or-set_other}
use Rattle.std.specs.Prelude.{◌==◌, nat_eq, not}
use Rattle.std.specs.List.{AllByRecursion, IsDistinct}
use Rattle.std.specs.Map.{keys_of, values_of, remove_entry}
use Rattle.std.proofs.lemmas.Bool.{eq-eqb}
use Rattle.std.proofs.lemmas.Bool.Decides.{eqb_tells}
use Rattle.mb_base.specs.Shapes.{host_count}
use Rattle.mb_base.specs.declared.shape.Shape.{Shape}
use Rattle.mb_msg.specs.declared.change.Enter.{Enter}
use Rattle.mb_parts.specs.declared.certificates.Evidence.{Evidence}
use Rattle.mb_msg.specs.declared.change.ViewChange.{ViewChange}
use Rattle.mb_msg.specs.declared.change.NewView.{NewView}
use Rattle.mb_msg.specs.declared.change.Plan.{Plan}
use Rattle.mb_change.specs.Inside.{IsOfHost}
use Rattle.mb_change.specs.declared.opened.Opened.{Opened}
use Rattle.mb_change.specs.Tables.{Table, empty_table, none_opened, wish_at}
use Rattle.mb_change.specs.Searches.{nothing_found, at_host, with_wish, with_change, with_enter, with_opened, with_new_view, with_evidence, with_plan}
use Rattle.mb_change.specs.Represents.{Represents, StandsWith}

empty_at : {A : Type 0} (n h : ℕ) (x : A) → get_or (replicate n x) h x ≡ x
empty_at zero h x = refl
empty_at (suc n) zero x = refl
empty_at (suc n) (suc h) x = empty_at n h x

pub empty_stands : (shape : Shape) (host : ℕ) → Represents (empty_table shape host) nothing_found
empty_stands shape host = record {
  wish_is = λ h lt. empty_at (host_count shape) h 0;
  changes_are = refl;
  enter_is = λ h lt. empty_at {A = Option Enter} (host_count shape) h None;
  opened_is = λ h lt. empty_at (host_count shape) h none_opened;
  new_view_is = refl;
  evidence_is = refl;
  plan_is = refl;
}

-- behind a write of one host's place
set_at_host : {A : Type 0} (xs : List A) (host : ℕ) (x d : A) (search : ℕ → A) (n h : ℕ) → host < length xs → ((g : ℕ) → g < n → get_or xs g d ≡ search g) → h < n → get_or (set xs host x) h d ≡ at_host host x search h
set_at_host xs host x d search n h within same lt = elim (eqb_tells h host) [
  | inl is ↦ rw (is.0) (ap (λ k. get_or (set xs host x) k d) is.1 ∙ get_or-set_same xs host x d within)
  | inr other ↦ rw (other.0) (get_or-set_other xs host h x d other.1 ∙ same h lt)
]

wished_stands : (t : Table) (host view : ℕ) → host < host_count t.shape → length t.wishes ≡ host_count t.shape
    → StandsWith t (with_wish host view) (record t { wishes = set t.wishes host (max (wish_at t host) view) })
wished_stands t host view lt len = λ s r. record {
  wish_is = λ h below. set_at_host t.wishes host (max (wish_at t host) view) 0 s.wish (host_count t.shape) h (omega (arith, lt, len)) r.wish_is below ∙ ap (λ w. at_host host (max w view) s.wish h) (r.wish_is host lt);
  changes_are = r.changes_are;
  enter_is = r.enter_is;
  opened_is = r.opened_is;
  new_view_is = r.new_view_is;
  evidence_is = r.evidence_is;
  plan_is = r.plan_is;
}

entered_stands : (t : Table) (m : Enter) → m.ui.host < host_count t.shape → length t.enters ≡ host_count t.shape
    → StandsWith t (with_enter m) (record t { enters = set t.enters m.ui.host (Some m) })
entered_stands t m lt len = λ s r. record {
  wish_is = r.wish_is;
  changes_are = r.changes_are;
  enter_is = λ h below. set_at_host t.enters m.ui.host (Some m) None s.enter (host_count t.shape) h (omega (arith, lt, len)) r.enter_is below;
  opened_is = r.opened_is;
  new_view_is = r.new_view_is;
  evidence_is = r.evidence_is;
  plan_is = r.plan_is;
}

open_stands : (t : Table) (host : ℕ) (o : Opened) → host < host_count t.shape → length t.opens ≡ host_count t.shape
    → StandsWith t (with_opened host o) (record t { opens = set t.opens host o })
open_stands t host o lt len = λ s r. record {
  wish_is = r.wish_is;
  changes_are = r.changes_are;
  enter_is = r.enter_is;
  opened_is = λ h below. set_at_host t.opens host o none_opened s.opened (host_count t.shape) h (omega (arith, lt, len)) r.opened_is below;
  new_view_is = r.new_view_is;
  evidence_is = r.evidence_is;
  plan_is = r.plan_is;
}

-- ---- VIEW_CHANGEs

none_more : (k : ℕ) (es : List (ℕ × ViewChange)) → AllByRecursion IsOfHost es → AllByRecursion (λ (y : ℕ). nat_eq k y ≡ false) (keys_of es) → filter (λ c. not (c.ui.host == k)) (values_of es) ≡ values_of es
none_more k [] of_hosts apart = refl
none_more k (e ∷ es) of_hosts apart = elim (eqb_tells e.1.ui.host k) [
  | inl is ↦ absurd (let there : eqb k e.0 ≡ true = eq-eqb k e.0 (sym is.1 ∙ sym of_hosts.0) in let not_there = apart.0 in cc)
  | inr other ↦ rw (other.0) (ap (λ l. e.1 ∷ l) (none_more k es of_hosts.1 apart.1))
]

without_host : (k : ℕ) (es : List (ℕ × ViewChange)) → AllByRecursion IsOfHost es → IsDistinct nat_eq (keys_of es) → values_of (remove_entry (nat_eq k) es) ≡ filter (λ c. not (c.ui.host == k)) (values_of es)
unfolding IsDistinct
without_host k [] of_hosts distinct = refl
without_host k (e ∷ es) of_hosts distinct = elim (eqb_tells e.1.ui.host k) [
  | inl is ↦
      let key : e.0 ≡ k = of_hosts.0 ∙ is.1 in
      let there : eqb k e.0 ≡ true = eq-eqb k e.0 (sym key) in
      rw (is.0, there) (sym (none_more k es of_hosts.1 (subst (λ (h : ℕ). AllByRecursion (λ (y : ℕ). nat_eq h y ≡ false) (keys_of es)) key distinct.0)))
  | inr other ↦ elim (eqb_tells k e.0) [
    | inl is ↦ absurd (other.1 (sym of_hosts.0 ∙ sym is.1))
    | inr apart ↦ rw (other.0, apart.0) (ap (λ l. e.1 ∷ l) (without_host k es of_hosts.1 distinct.1))
  ]
]

values_push : (es : List (ℕ × ViewChange)) (e : ℕ × ViewChange) → values_of (es ++ e ∷ []) ≡ values_of es ++ e.1 ∷ []
values_push [] e = refl
values_push (x ∷ es) e = ap (λ l. x.1 ∷ l) (values_push es e)

stored_stands : (t : Table) (es fs : List (ℕ × ViewChange)) (m : ViewChange) → values_of es ≡ t.changes → AllByRecursion IsOfHost es → IsDistinct nat_eq (keys_of es)
    → fs ≡ remove_entry (nat_eq m.ui.host) es ++ (m.ui.host, m) ∷ [] → StandsWith t (with_change m) (record t { changes = values_of fs })
stored_stands t es fs m stored of_hosts distinct is = λ s r. record {
  wish_is = r.wish_is;
  changes_are =
      ap values_of is
      ∙ (values_push (remove_entry (nat_eq m.ui.host) es) (m.ui.host, m)
      ∙ ap (λ l. l ++ m ∷ []) (without_host m.ui.host es of_hosts distinct ∙ ap (filter (λ c. not (c.ui.host == m.ui.host))) (stored ∙ r.changes_are)));
  enter_is = r.enter_is;
  opened_is = r.opened_is;
  new_view_is = r.new_view_is;
  evidence_is = r.evidence_is;
  plan_is = r.plan_is;
}

pub of_hosts_pushed : (es : List (ℕ × ViewChange)) (m : ViewChange) → AllByRecursion IsOfHost es → AllByRecursion IsOfHost (remove_entry (nat_eq m.ui.host) es ++ (m.ui.host, m) ∷ [])
of_hosts_pushed [] m a = (refl, tt)
of_hosts_pushed (e ∷ es) m a = by_test (nat_eq m.ui.host e.0) (of_hosts_pushed es m a.1) where
  pushed : (es : List (ℕ × ViewChange)) → AllByRecursion IsOfHost es → AllByRecursion IsOfHost (es ++ (m.ui.host, m) ∷ [])
  pushed [] a = (refl, tt)
  pushed (e ∷ es) a = (a.0, pushed es a.1)

  by_test : (b : Bool) → AllByRecursion IsOfHost (remove_entry (nat_eq m.ui.host) es ++ (m.ui.host, m) ∷ []) → AllByRecursion IsOfHost (cond b es (e ∷ remove_entry (nat_eq m.ui.host) es) ++ (m.ui.host, m) ∷ [])
  by_test true rest = pushed es a.1
  by_test false rest = (a.0, rest)

-- ---- a table that a call leaves

pub wish_stands : (old new : Table) (host view : ℕ) → new ≡ record old { wishes = set old.wishes host (max (wish_at old host) view) }
    → host < host_count old.shape → length old.wishes ≡ host_count old.shape → StandsWith old (with_wish host view) new
wish_stands old new host view is lt len = subst (λ (t : Table). StandsWith old (with_wish host view) t) (sym is) (wished_stands old host view lt len)

pub enter_stands : (old new : Table) (m : Enter) → new ≡ record old { enters = set old.enters m.ui.host (Some m) }
    → m.ui.host < host_count old.shape → length old.enters ≡ host_count old.shape → StandsWith old (with_enter m) new
enter_stands old new m is lt len = subst (λ (t : Table). StandsWith old (with_enter m) t) (sym is) (entered_stands old m lt len)

pub opened_stands : (old new : Table) (host : ℕ) (o : Opened) → new ≡ record old { opens = set old.opens host o }
    → host < host_count old.shape → length old.opens ≡ host_count old.shape → StandsWith old (with_opened host o) new
opened_stands old new host o is lt len = subst (λ (t : Table). StandsWith old (with_opened host o) t) (sym is) (open_stands old host o lt len)

pub change_stands : (was old new : Table) (es fs : List (ℕ × ViewChange)) (m : ViewChange) → was ≡ old → new ≡ record was { changes = values_of fs } → values_of es ≡ was.changes
    → AllByRecursion IsOfHost es → IsDistinct nat_eq (keys_of es) → fs ≡ remove_entry (nat_eq m.ui.host) es ++ (m.ui.host, m) ∷ [] → StandsWith old (with_change m) new
change_stands was old new es fs m seen is stored of_hosts distinct pushed =
    subst (λ (t : Table). StandsWith t (with_change m) new) seen (subst (λ (t : Table). StandsWith was (with_change m) t) (sym is) (stored_stands was es fs m stored of_hosts distinct pushed))

pub new_view_stands : (old new : Table) (n : NewView) → new ≡ record old { new_view = Some n } → StandsWith old (with_new_view n) new
new_view_stands old new n is = subst (λ (t : Table). StandsWith old (with_new_view n) t) (sym is) (λ s r. record {
  wish_is = r.wish_is;
  changes_are = r.changes_are;
  enter_is = r.enter_is;
  opened_is = r.opened_is;
  new_view_is = refl;
  evidence_is = r.evidence_is;
  plan_is = r.plan_is;
})

pub evidence_stands : (old new : Table) (e : Evidence) → new ≡ record old { evidence = Some e } → StandsWith old (with_evidence e) new
evidence_stands old new e is = subst (λ (t : Table). StandsWith old (with_evidence e) t) (sym is) (λ s r. record {
  wish_is = r.wish_is;
  changes_are = r.changes_are;
  enter_is = r.enter_is;
  opened_is = r.opened_is;
  new_view_is = r.new_view_is;
  evidence_is = refl;
  plan_is = r.plan_is;
})

pub plan_stands : (old new : Table) (view : ℕ) (plan : Plan) → new ≡ record old { plan = Some (view, plan) } → StandsWith old (with_plan view plan) new
plan_stands old new view plan is = subst (λ (t : Table). StandsWith old (with_plan view plan) t) (sym is) (λ s r. record {
  wish_is = r.wish_is;
  changes_are = r.changes_are;
  enter_is = r.enter_is;
  opened_is = r.opened_is;
  new_view_is = r.new_view_is;
  evidence_is = r.evidence_is;
  plan_is = refl;
})

pub made_stands : (t : Table) (shape : Shape) (host : ℕ) → t ≡ empty_table shape host → Represents t nothing_found
made_stands t shape host is = subst (λ (x : Table). Represents x nothing_found) (sym is) (empty_stands shape host)
