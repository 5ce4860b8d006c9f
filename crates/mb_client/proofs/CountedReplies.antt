-- What the table of counted replies tells of the list that it represents: whether a host is in it, how many agree, and the greatest such number.
--
-- Each count goes by the list: where its newest reply is taken away, the table has no reply of that host any more.
use Rattle.std.proofs.Common.{◌≡◌, ℕ, zero, suc, ◌+◌, ◌<◌, ◌≤◌, Bool, true, false, cond, List, [], ◌∷◌, length, set, get_or, Option, Some, None, is_some, not, max, drop, inl, inr, refl, sym, ap, ◌∙◌, arith, eqb}
use Rattle.std.specs.Prelude.{count_by, if◌then◌else◌}
use Rattle.std.proofs.lemmas.Bool.{cases_Bool, cases_lt, eqb-true, eqb-false, eq-eqb}
use Rattle.std.proofs.lemmas.List.{get_or_past, get_or-set_same, get_or-set_other, set-get_or, drop_all}
use Rattle.std.proofs.lemmas.List.Sums.{sum_by-cons, sum_by-set}
use Rattle.std.proofs.lemmas.Option.{slice_get_read, get_or_from_slice_get}
use Rattle.mb_usig.proofs.Laws.{true-same_bytes}
use Rattle.mb_msg.specs.declared.normal.Reply.{Reply}
use Rattle.mb_model.specs.Clients.{agrees, agreeing, most_agreeing, counted}
use Rattle.mb_client.specs.Replies.{of_host, has_host, RepresentsReplies, kept_agrees}

-- ---- one host

-- a host has a reply where one is found
found : (replies : List Reply) (h : ℕ) → is_some (of_host replies h) ≡ has_host replies h
found [] h = refl
found (x ∷ xs) h = elim (cases_Bool (eqb x.host h)) [
  | inl same ↦ rw same refl
  | inr other ↦ rw other (found xs h)
]

not_found : (replies : List Reply) (h : ℕ) → has_host replies h ≡ false → of_host replies h ≡ None
not_found [] h none = refl
not_found (x ∷ xs) h none = elim (cases_Bool (eqb x.host h)) [
  | inl same ↦ let e = rw same at none in absurd cc
  | inr other ↦ rw other (not_found xs h (rw other at none))
]

first_is : (x : Reply) (xs : List Reply) → of_host (x ∷ xs) x.host ≡ Some x
first_is x xs = rw (eq-eqb x.host x.host refl) refl

module _ (table : List (Option Reply)) where
  pub has_told : (replies : List Reply) (h : ℕ) → RepresentsReplies table replies → is_some (get_or table h None) ≡ has_host replies h
  has_told replies h stands = ap is_some (stands.kept h) ∙ found replies h

  -- the newest reply stands at the place of its host
  newest_kept : (x : Reply) (xs : List Reply) → RepresentsReplies table (x ∷ xs) → get_or table x.host None ≡ Some x
  newest_kept x xs stands = stands.kept x.host ∙ first_is x xs

  newest_in : (x : Reply) (xs : List Reply) → RepresentsReplies table (x ∷ xs) → x.host < length table
  newest_in x xs stands = elim (cases_lt x.host (length table)) [
    | inl lt ↦ lt
    | inr past ↦ let e = sym (get_or_past table x.host None past) ∙ newest_kept x xs stands in absurd cc
  ]

  -- the newest one is taken away
  newest_away : (x : Reply) (xs : List Reply) → RepresentsReplies table (x ∷ xs) → RepresentsReplies (set table x.host None) xs
  newest_away x xs stands = record {
    kept = λ h. elim (cases_Bool (eqb x.host h)) [
      | inl same ↦
          let e : x.host ≡ h = eqb-true x.host h same in
          rw (← e) (get_or-set_same table x.host None None (newest_in x xs stands) ∙ sym (not_found xs x.host stands.different.0))
      | inr other ↦
          get_or-set_other table x.host h None None (λ e. eqb-false x.host h other (sym e)) ∙ (rw other at (stands.kept h))
    ];
    different = stands.different.1;
  }

-- what was read at the place of a host
pub read_is : (table : List (Option Reply)) (at h : ℕ) (o : Option Reply) → at ≡ h → h < length table → o ≡ get_or table at o → get_or table h None ≡ o
read_is table at h o place lt read = get_or_from_slice_get table h o None (slice_get_read table (length table) h o refl lt (rw place at read))

-- ---- one more is counted

-- its place was read
module _ (table : List (Option Reply)) (replies : List Reply) (r : Reply) (stands : RepresentsReplies table replies) (at : ℕ) (place : at ≡ r.host) (lt : r.host < length table) (o : Option Reply) (read : o ≡ get_or table at o) (is_none : Bool) (told : is_some o ≡ not is_none) where
  is : get_or table r.host None ≡ o
  is = read_is table at r.host o place lt read

  has : has_host replies r.host ≡ not is_none
  has = sym (has_told table replies r.host stands) ∙ ap is_some is ∙ told

  put : has_host replies r.host ≡ false → RepresentsReplies (set table r.host (Some r)) (r ∷ replies)
  put new = record {
    kept = λ h. elim (cases_Bool (eqb r.host h)) [
      | inl same ↦
          let e : r.host ≡ h = eqb-true r.host h same in
          rw same (ap (λ k. get_or (set table r.host (Some r)) k None) (sym e) ∙ get_or-set_same table r.host (Some r) None lt)
      | inr other ↦
          rw other (get_or-set_other table r.host h (Some r) None (λ e. eqb-false r.host h other (sym e)) ∙ stands.kept h)
    ];
    different = (new, stands.different);
  }

  -- of a host that has none yet
  pub first_counts : is_none ≡ true → RepresentsReplies (set table at (Some r)) (counted replies r)
  first_counts none = let new : has_host replies r.host ≡ false = rw none at has in rw (place, new) (put new)

  -- of a host that has one
  pub later_is_dropped : is_none ≡ false → RepresentsReplies (set table at o) (counted replies r)
  later_is_dropped some =
      let old : has_host replies r.host ≡ true = rw some at has in
      let same : set table r.host o ≡ table = rw (← is) (set-get_or table r.host None) in
      rw (place, old, same) stands

-- ---- nothing is counted

-- 1 for what agrees
abbrev one : Reply → Option Reply → ℕ
one r o = cond (kept_agrees r o) 1 0

none_agree : (r : Reply) (table : List (Option Reply)) → ((h : ℕ) → get_or table h None ≡ None) → count_by (kept_agrees r) table ≡ 0
none_agree r [] none = refl
none_agree r (o ∷ table) none =
    let first : one r o ≡ 0 = ap (one r) (none 0) in
    let rest = none_agree r table (λ h. none (suc h)) in
    omega (arith, first, rest, sum_by-cons (one r) o table)

-- ---- how many agree

-- by the table, as by the list
pub agreeing_told : (r : Reply) (replies : List Reply) (table : List (Option Reply)) → RepresentsReplies table replies → count_by (kept_agrees r) table ≡ agreeing replies r
agreeing_told r [] table stands = none_agree r table stands.kept
agreeing_told r (x ∷ xs) table stands =
    let rest = agreeing_told r xs (set table x.host None) (newest_away table x xs stands) in
    let away = sum_by-set (one r) table x.host None None (newest_in table x xs stands) in
    let here : one r (get_or table x.host None) ≡ cond (agrees r x) 1 0 = ap (one r) (newest_kept table x xs stands) in
    let more = sum_by-cons (λ (y : Reply). cond (agrees r y) 1 0) x xs in
    omega (arith, rest, away, here, more)

-- ---- the greatest number that agree

-- the greatest of what a function gives for the kept replies
abbrev pub greatest_kept : (Reply → ℕ) → List (Option Reply) → ℕ
greatest_kept f [] = 0
greatest_kept f (None ∷ table) = greatest_kept f table
greatest_kept f (Some x ∷ table) = max (f x) (greatest_kept f table)

module _ (f : Reply → ℕ) where
  none_greatest : (table : List (Option Reply)) → ((h : ℕ) → get_or table h None ≡ None) → greatest_kept f table ≡ 0
  none_greatest [] none = refl
  none_greatest (None ∷ table) none = none_greatest table (λ h. none (suc h))
  none_greatest (Some x ∷ table) none = let e = none 0 in absurd cc

  greatest_away : (table : List (Option Reply)) (h : ℕ) (x : Reply) → get_or table h None ≡ Some x → greatest_kept f table ≡ max (f x) (greatest_kept f (set table h None))
  greatest_away [] h x is = absurd cc
  greatest_away (o ∷ table) zero x is = rw is refl
  greatest_away (None ∷ table) (suc h) x is = greatest_away table h x is
  greatest_away (Some y ∷ table) (suc h) x is = let rest = greatest_away table h x is in omega arith

-- by the table, as by the list
pub most_told : (all replies : List Reply) (table : List (Option Reply)) → RepresentsReplies table replies → greatest_kept (agreeing all) table ≡ most_agreeing all replies
unfolding most_agreeing
most_told all [] table stands = none_greatest (agreeing all) table stands.kept
most_told all (x ∷ xs) table stands =
    greatest_away (agreeing all) table x.host x (newest_kept table x xs stands)
    ∙ ap (max (agreeing all x)) (most_told all xs (set table x.host None) (newest_away table x xs stands))

-- the same function by another name
pub greatest_same : (f g : Reply → ℕ) (table : List (Option Reply)) → ((x : Reply) → f x ≡ g x) → greatest_kept f table ≡ greatest_kept g table
greatest_same f g [] same = refl
greatest_same f g (None ∷ table) same = greatest_same f g table same
greatest_same f g (Some x ∷ table) same = rw (same x, greatest_same f g table same) refl

-- all places were looked at
pub all_seen : (replies : List Reply) (table : List (Option Reply)) (i most : ℕ) → length table ≤ i
    → max most (greatest_kept (λ r. count_by (kept_agrees r) table) (drop i table)) ≡ greatest_kept (λ r. count_by (kept_agrees r) table) table
    → RepresentsReplies table replies → most ≡ most_agreeing replies replies
all_seen replies table i most end seen stands =
    let by_table : Reply → ℕ = λ r. count_by (kept_agrees r) table in
    let whole : most ≡ greatest_kept by_table table = omega (arith, rw (drop_all i table end) at seen) in
    whole ∙ greatest_same by_table (agreeing replies) table (λ r. agreeing_told r replies table stands) ∙ most_told replies replies table stands

-- ---- the reply itself

agrees_itself : (r : Reply) → agrees r r ≡ true
agrees_itself r = rw (eq-eqb r.pos r.pos refl, true-same_bytes r.result r.result refl) refl

-- it is one more where it is the first of its host
pub agreeing_counted : (replies : List Reply) (r : Reply) (before now : ℕ) → before ≡ agreeing replies r → now ≡ (if has_host replies r.host then before else before + 1) → now ≡ agreeing (counted replies r) r
agreeing_counted replies r before now is more = elim (cases_Bool (has_host replies r.host)) [
  | inl old ↦ rw old ((rw old at more) ∙ is)
  | inr new ↦
      let one_more : now ≡ before + 1 = rw new at more in
      let itself : one r (Some r) ≡ 1 = ap (λ b. cond b 1 0) (agrees_itself r) in
      let list = sum_by-cons (λ (y : Reply). cond (agrees r y) 1 0) r replies in
      rw new (omega (arith, one_more, itself, list, is))
]
