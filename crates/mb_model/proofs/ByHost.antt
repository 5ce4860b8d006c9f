-- Logs by rising host: a list that stands so stays as it is, and the order in which logs are given does not matter.
--
-- Asked host by host, a rising list gives its own logs again (`by_host_rising`). Two lists of the same logs, of each host at most one, give the same log
-- for each host, and so the same plan (`plans_ignore_order`).
use Rattle.std.proofs.Common.{◌≡◌, ℕ, zero, suc, ◌+◌, ◌≤◌, ◌<◌, true, false, List, [], ◌∷◌, map, refl, sym, ap, ◌∙◌, inl, inr, arith, eqb, Option, Some, None}
use Rattle.std.specs.Prelude.{filter_map, Contains, nat_lt}
use Rattle.std.specs.List.{AllByRecursion, range_with_len, cons_option}
use Rattle.std.proofs.lemmas.Bool.{and_parts, cases_Bool, eqb-true, eqb-false, ne_eqb, ltb-true}
use Rattle.std.proofs.lemmas.Option.{none-some, same_Some}
use Rattle.mb_base.specs.Shapes.{host_count}
use Rattle.mb_base.specs.declared.shape.Shape.{Shape}
use Rattle.mb_parts.specs.Claims.{are_rising}
use Rattle.mb_model.specs.Plans.{ShownLog, log_of, by_host, plan_in_order}
use Rattle.mb_model.specs.PlanOrder.{AreOfOneEach, PlansIgnoreOrder}
use Rattle.mb_model.proofs.Options.{option_cases}
use Rattle.mb_model.specs.Members.{In}
use Rattle.mb_model.proofs.Members.{in_contained, contained}

-- ---- a rising list

-- the hosts of a list are above this one
above_all : (a : ℕ) (logs : List ShownLog) → are_rising (a ∷ map (λ l. l.host) logs) ≡ true → AllByRecursion (λ (l : ShownLog). a < l.host) logs
above_all a [] h = tt
above_all a (l ∷ logs) h =
    let parts = and_parts (nat_lt a l.host) _ h in
    let lt = ltb-true a l.host parts.0 in
    (lt, more a l.host lt logs (above_all l.host logs parts.1)) where
      more : (a b : ℕ) → a < b → (logs : List ShownLog) → AllByRecursion (λ (l : ShownLog). b < l.host) logs → AllByRecursion (λ (l : ShownLog). a < l.host) logs
      more a b lt [] all = tt
      more a b lt (x ∷ logs) (here, all) = (omega arith, more a b lt logs all)

pub rising_tail : (a : ℕ) (l : List ℕ) → are_rising (a ∷ l) ≡ true → are_rising l ≡ true
rising_tail a [] h = refl
rising_tail a (b ∷ l) h = (and_parts (nat_lt a b) (are_rising (b ∷ l)) h).1

-- no log is that of a host that all are above
pub none_of : (logs : List ShownLog) (h : ℕ) → AllByRecursion (λ (l : ShownLog). h < l.host) logs → log_of logs h ≡ None
none_of [] h all = refl
none_of (l ∷ logs) h (lt, all) = rw (ne_eqb l.host h (λ e. omega arith)) (none_of logs h all)

-- The logs of so many hosts, from this one on, are the list.
abbrev AreFrom : ℕ → ℕ → List ShownLog → Type 0
AreFrom a n logs = AllByRecursion (λ (l : ShownLog). (a ≤ l.host) × (l.host < a + n)) logs

collects : (n a : ℕ) (logs : List ShownLog) (f : ℕ → Option ShownLog) → are_rising (map (λ l. l.host) logs) ≡ true → AreFrom a n logs
    → ((h : ℕ) → a ≤ h → f h ≡ log_of logs h) → filter_map f (range_with_len a n) ≡ logs
collects zero a [] f r all same = refl
collects zero a (l ∷ logs) f r (here, all) same = absurd (omega arith)
collects (suc n) a [] f r all same = rw (same a (omega arith)) (collects n (a + 1) [] f r tt (λ h le. same h (omega arith)))
collects (suc n) a (l ∷ logs) f r (here, all) same = elim (cases_Bool (eqb l.host a)) [
  | inl at ↦
      let is : l.host ≡ a = eqb-true l.host a at in
      let first : f a ≡ Some l = same a (omega arith) ∙ rw at refl in
      rw first (ap (λ (x : List ShownLog). l ∷ x) (collects n (a + 1) logs f (rising_tail l.host _ r) (later l.host logs is (above_all l.host logs r) all) (λ h le. same h (omega arith) ∙ rw (ne_eqb l.host h (λ e. omega arith)) refl)))
  | inr other ↦
      let lt : a < l.host = above l.host (eqb-false l.host a other) here.0 in
      let none : f a ≡ None = same a (omega arith) ∙ none_of (l ∷ logs) a (lt, beyond l.host logs lt (above_all l.host logs r)) in
      rw none (collects n (a + 1) (l ∷ logs) f r ((omega arith, omega (arith, here.1)), up l.host logs lt (above_all l.host logs r) all) (λ h le. same h (omega arith)))
] where
  above : (b : ℕ) → (b ≡ a → ⊥) → a ≤ b → a < b
  above b ne le = omega arith

  later : (b : ℕ) (logs : List ShownLog) → b ≡ a → AllByRecursion (λ (l : ShownLog). b < l.host) logs → AreFrom a (suc n) logs → AreFrom (a + 1) n logs
  later b [] is more all = tt
  later b (x ∷ logs) is (lt, more) (here, all) = ((omega arith, omega (arith, here.1)), later b logs is more all)

  beyond : (b : ℕ) (logs : List ShownLog) → a < b → AllByRecursion (λ (l : ShownLog). b < l.host) logs → AllByRecursion (λ (l : ShownLog). a < l.host) logs
  beyond b [] lt more = tt
  beyond b (x ∷ logs) lt (here, more) = (omega arith, beyond b logs lt more)

  up : (b : ℕ) (logs : List ShownLog) → a < b → AllByRecursion (λ (l : ShownLog). b < l.host) logs → AreFrom a (suc n) logs → AreFrom (a + 1) n logs
  up b [] lt more all = tt
  up b (x ∷ logs) lt (next, more) (here, all) = ((omega arith, omega (arith, here.1)), up b logs lt more all)

from_zero : (n : ℕ) (logs : List ShownLog) → AllByRecursion (λ (l : ShownLog). l.host < n) logs → AreFrom 0 n logs
from_zero n [] all = tt
from_zero n (l ∷ logs) (here, all) = ((omega arith, omega arith), from_zero n logs all)

-- a list that stands by rising host stays as it is
pub by_host_rising : (s : Shape) (logs : List ShownLog) → are_rising (map (λ l. l.host) logs) ≡ true → AllByRecursion (λ (l : ShownLog). l.host < host_count s) logs → by_host s logs ≡ logs
unfolding by_host
by_host_rising s logs r all = collects (host_count s) 0 logs (λ h. log_of logs h) r (from_zero (host_count s) logs all) (λ h le. refl)

-- ---- the order does not matter

log_is_in : (logs : List ShownLog) (h : ℕ) (x : ShownLog) → log_of logs h ≡ Some x → In logs x × (x.host ≡ h)
log_is_in [] h x e = absurd cc
log_is_in (l ∷ logs) h x e = elim (cases_Bool (eqb l.host h)) [
  | inl at ↦ let is : l ≡ x = same_Some l x (rw at at e) in (inl is, ap (λ (y : ShownLog). y.host) (sym is) ∙ eqb-true l.host h at)
  | inr other ↦ let r = log_is_in logs h x (rw other at e) in (inr r.0, r.1)
]

log_is_there : (logs : List ShownLog) (h : ℕ) (x : ShownLog) → In logs x → x.host ≡ h → (y : ShownLog) × (log_of logs h ≡ Some y)
log_is_there [] h x i e = absurd i
log_is_there (l ∷ logs) h x i e = elim (cases_Bool (eqb l.host h)) [
  | inl at ↦ (l, rw at refl)
  | inr other ↦ let r = log_is_there logs h x (behind other i) e in (r.0, rw other r.1)
] where
  behind : eqb l.host h ≡ false → In (l ∷ logs) x → In logs x
  behind other (inl is) = absurd (eqb-false l.host h other (ap (λ (y : ShownLog). y.host) is ∙ e))
  behind other (inr i) = i

module _ (a b : List ShownLog) (one : AreOfOneEach a) (into : (x : ShownLog) → Contains a x → Contains b x) (back : (x : ShownLog) → Contains b x → Contains a x) where
  moved : (x : ShownLog) → In a x → In b x
  moved x i = in_contained b x (into x (contained a x i))

  moved_back : (x : ShownLog) → In b x → In a x
  moved_back x i = in_contained a x (back x (contained b x i))

  same_log : (h : ℕ) → log_of a h ≡ log_of b h
  same_log h = elim (option_cases (log_of a h)) [
    | inl none ↦ elim (option_cases (log_of b h)) [
      | inl none_too ↦ none ∙ sym none_too
      | inr (y, is) ↦
          let at = log_is_in b h y is in
          let r = log_is_there a h y (moved_back y at.0) at.1 in
          absurd (none-some r.0 (sym none ∙ r.1))
    ]
    | inr (x, is) ↦
        let at = log_is_in a h x is in
        let r = log_is_there b h x (moved x at.0) at.1 in
        let there = log_is_in b h r.0 r.1 in
        let same : x ≡ r.0 = one x r.0 (contained a x at.0) (back r.0 (contained b r.0 there.0)) (at.1 ∙ sym there.1) in
        is ∙ ap Some same ∙ sym r.1
  ]

  same_collected : (r : List ℕ) → filter_map (λ h. log_of a h) r ≡ filter_map (λ h. log_of b h) r
  same_collected [] = refl
  same_collected (h ∷ r) = rw (same_log h) (ap (λ (x : List ShownLog). cons_option (log_of b h) x) (same_collected r))

  same_by_host : (s : Shape) → by_host s a ≡ by_host s b
  unfolding by_host
  same_by_host s = same_collected (range_with_len 0 (host_count s))

-- the plan of the same logs in another order is the same
pub plans_ignore_order : PlansIgnoreOrder
plans_ignore_order s a b one into back = ap (λ (logs : List ShownLog). plan_in_order s logs) (same_by_host a b one into back s)
