-- What the search over all the shown logs finds.
--
-- Hosts: a rising list is as many hosts as it is long. Base: it is the greatest of all that it can be. View: the highest opened one is that of
-- some log. Votes: the lowest one is some log's, and none is lower. Batches: where each position has a vote, the k-th batch is that of the
-- lowest vote for the k-th position.
use Rattle.std.proofs.Common.{◌≡◌, ℕ, zero, suc, ◌+◌, ◌≤◌, ◌<◌, Bool, true, false, ◌||◌, cond, List, [], ◌∷◌, length, refl, sym, ap, subst, ◌∙◌, inl, inr, ◌⊎◌, arith, eqb, Option, Some, None, max, add-zero}
use Rattle.std.specs.Prelude.{◌==◌, nat_lt, nat_le, slice_get, map, unwrap_or}
use Rattle.std.specs.List.{list_any, AllByRecursion, cons_option}
use Rattle.std.proofs.lemmas.Bool.{and_parts, cases_Bool, eqb-true, eqb-false, eq-eqb, ne_eqb, ltb-true, leb-true, leb-false, cases_lt}
use Rattle.std.proofs.lemmas.Option.{none-some, same_Some}
use Rattle.mb_base.specs.Shapes.{tally}
use Rattle.mb_parts.specs.declared.certificates.StableCert.{StableCert}
use Rattle.mb_parts.specs.Claims.{are_rising}
use Rattle.mb_model.specs.Plans.{ShownLog, ShownVote, newest, opened_view, same_view, greater, highest_view, of_view, lower_vote, lowest_vote, vote_since, batches_from, base_shown, stable_of, opening_bases, greatest_position, cert_at, no_base, all_bases, base_of}
use Rattle.mb_model.specs.Members.{In}
use Rattle.mb_model.proofs.Members.{in_left, in_right, in_map}
use Rattle.mb_model.proofs.ByHost.{rising_tail}

-- ---- a rising list of hosts is as many hosts as it is long

-- Among the logs is one of this host.
abbrev pub has_host : List ShownLog → ℕ → Bool
has_host logs h = list_any (λ l. l.host == h) logs

pub one_more : (p : ℕ → Bool) (a n : ℕ) → p a ≡ false → a < n → tally (λ h. (a == h) || p h) n ≡ 1 + tally p n
one_more p a zero none lt = absurd (omega arith)
one_more p a (suc n) none lt = elim (cases_Bool (eqb a n)) [
  | inl same ↦
      let e : a ≡ n = eqb-true a n same in
      let here : p n ≡ false = rw e at none in
      let rest : tally (λ h. (a == h) || p h) n ≡ tally p n = unchanged p a n (omega (arith, eqb-true a n same)) in
      rw (same, here, rest) (omega arith)
  | inr other ↦
      let ne = eqb-false a n other in
      rw (other, one_more p a n none (smaller a n lt ne)) (omega arith)
] where
  unchanged : (p : ℕ → Bool) (a n : ℕ) → n ≤ a → tally (λ h. (a == h) || p h) n ≡ tally p n
  unchanged p a zero le = refl
  unchanged p a (suc n) le = rw (ne_eqb a n (λ e. omega arith), unchanged p a n (omega arith)) refl

  smaller : (a n : ℕ) → a < suc n → (a ≡ n → ⊥) → a < n
  smaller a n lt ne = elim (cases_lt a n) [ inl less ↦ less | inr ge ↦ absurd (ne (omega arith)) ]

rising_none : (a : ℕ) (logs : List ShownLog) → are_rising (a ∷ map (λ l. l.host) logs) ≡ true → (b : ℕ) → b ≤ a → has_host logs b ≡ false
rising_none a [] h b le = refl
rising_none a (l ∷ logs) h b le =
    let parts = and_parts (nat_lt a l.host) _ h in
    let lt = ltb-true a l.host parts.0 in
    rw (ne_eqb l.host b (λ e. omega arith)) (rising_none l.host logs parts.1 b (omega arith))

pub as_many : (n : ℕ) (logs : List ShownLog) → are_rising (map (λ l. l.host) logs) ≡ true → AllByRecursion (λ (l : ShownLog). l.host < n) logs → length logs ≤ tally (has_host logs) n
as_many n [] r all = omega arith
as_many n (l ∷ logs) r all =
    let rest = as_many n logs (rising_tail l.host _ r) all.1 in
    let none = rising_none l.host logs r l.host (omega arith) in
    let more = one_more (has_host logs) l.host n none all.0 in
    omega arith

-- ---- the base

cert_at_pos : (p : ℕ) (cs : List StableCert) (c : StableCert) → cert_at p cs ≡ Some c → c.pos ≡ p
cert_at_pos p [] c e = absurd cc
cert_at_pos p (d ∷ cs) c e = elim (cases_Bool (eqb d.pos p)) [
  | inl same ↦ let is : d ≡ c = same_Some d c (rw same at e) in ap (λ (x : StableCert). x.pos) (sym is) ∙ eqb-true _ _ same
  | inr other ↦ cert_at_pos p cs c (rw other at e)
]

none_there : (p : ℕ) (cs : List StableCert) → greatest_position cs ≡ p → cert_at p cs ≡ None → p ≡ 0
none_there p [] g e = sym g
none_there p (c ∷ cs) g e = elim (cases_Bool (eqb c.pos p)) [
  | inl same ↦ absurd (none-some c (sym (rw same at e)))
  | inr other ↦
      let ne = eqb-false c.pos p other in
      none_there p cs (rest ne g) (rw other at e)
] where
  rest : (c.pos ≡ p → ⊥) → max c.pos (greatest_position cs) ≡ p → greatest_position cs ≡ p
  rest ne g = elim (cases_lt c.pos (greatest_position cs)) [ inl lt ↦ omega arith | inr ge ↦ absurd (ne (omega arith)) ]

pub base_is_greatest : (logs : List ShownLog) → (base_of logs).pos ≡ greatest_position (all_bases logs)
base_is_greatest logs = go (cert_at (greatest_position (all_bases logs)) (all_bases logs)) refl where
  go : (x : Option StableCert) → cert_at (greatest_position (all_bases logs)) (all_bases logs) ≡ x → (unwrap_or x no_base).pos ≡ greatest_position (all_bases logs)
  go None e = sym (none_there _ (all_bases logs) refl e)
  go (Some c) e = cert_at_pos _ (all_bases logs) c e

pub at_most_greatest : (c : StableCert) (cs : List StableCert) → In cs c → c.pos ≤ greatest_position cs
at_most_greatest c [] h = absurd h
at_most_greatest c (d ∷ cs) (inl e) = rw (← e) (omega arith)
at_most_greatest c (d ∷ cs) (inr h) = omega (arith, at_most_greatest c cs h)

pub stable_below : (log : ShownLog) (logs : List ShownLog) → In logs log → log.body.stable.pos ≤ (base_of logs).pos
stable_below log logs h =
    let a = at_most_greatest (stable_of log) (all_bases logs) (in_left (map stable_of logs) (opening_bases (of_view (highest_view logs) logs)) (stable_of log) (in_map stable_of logs log h)) in
    omega (arith, base_is_greatest logs)

in_some : (c : StableCert) (log : ShownLog) (logs : List ShownLog) → In logs log → base_shown (newest log) ≡ Some c → In (opening_bases logs) c
in_some c log [] h e = absurd h
in_some c log (l ∷ logs) (inl is) e = rw (ap (λ (x : ShownLog). base_shown (newest x)) is ∙ e) (inl refl)
in_some c log (l ∷ logs) (inr h) e = onto (base_shown (newest l)) (in_some c log logs h e) where
  onto : (x : Option StableCert) → In (opening_bases logs) c → In (cons_option x (opening_bases logs)) c
  onto None h = h
  onto (Some d) h = inr h

pub opening_below : (c : StableCert) (log : ShownLog) (logs : List ShownLog) → In (of_view (highest_view logs) logs) log → base_shown (newest log) ≡ Some c → c.pos ≤ (base_of logs).pos
opening_below c log logs h e =
    let a = at_most_greatest c (all_bases logs) (in_right (map stable_of logs) (opening_bases (of_view (highest_view logs) logs)) c (in_some c log (of_view (highest_view logs) logs) h e)) in
    omega (arith, base_is_greatest logs)

-- ---- the highest opened view

same_view_is : (x : Option ℕ) (u : ℕ) → same_view x (Some u) ≡ true → x ≡ Some u
same_view_is None u e = absurd cc
same_view_is (Some v) u e = ap Some (eqb-true v u e)

pub of_view_in : (u : ℕ) (log : ShownLog) (logs : List ShownLog) → In logs log → opened_view log ≡ Some u → In (of_view (Some u) logs) log
of_view_in u log [] h e = absurd h
of_view_in u log (l ∷ logs) (inl is) e =
    let yes_u : same_view (opened_view l) (Some u) ≡ true = rw (ap opened_view is ∙ e) (eq-eqb u u refl) in
    rw yes_u (inl is)
of_view_in u log (l ∷ logs) (inr h) e = kept (same_view (opened_view l) (Some u)) (of_view_in u log logs h e) where
  kept : (b : Bool) → In (of_view (Some u) logs) log → In (cond b (l ∷ of_view (Some u) logs) (of_view (Some u) logs)) log
  kept true h = inr h
  kept false h = h

pub of_view_is : (u : ℕ) (log : ShownLog) (logs : List ShownLog) → In (of_view (Some u) logs) log → (In logs log) × (opened_view log ≡ Some u)
of_view_is u log [] h = absurd h
of_view_is u log (l ∷ logs) h = elim (cases_Bool (same_view (opened_view l) (Some u))) [
  | inl same ↦ first (λ later. of_view_is u log logs later) (rw same at h) (same_view_is (opened_view l) u same)
  | inr other ↦ let r = of_view_is u log logs (rw other at h) in (inr r.0, r.1)
] where
  first : (In (of_view (Some u) logs) log → (In logs log) × (opened_view log ≡ Some u)) → In (l ∷ of_view (Some u) logs) log → opened_view l ≡ Some u → (In (l ∷ logs) log) × (opened_view log ≡ Some u)
  first more (inl e) is = (inl e, ap opened_view (sym e) ∙ is)
  first more (inr h) is = let r = more h in (inr r.0, r.1)

greater_left : (a : ℕ) (y : Option ℕ) → (u : ℕ) × (greater (Some a) y ≡ Some u) × (a ≤ u)
greater_left a None = (a, refl, omega arith)
greater_left a (Some b) = (max a b, refl, omega arith)

greater_right : (x : Option ℕ) (b : ℕ) → (u : ℕ) × (greater x (Some b) ≡ Some u) × (b ≤ u)
greater_right None b = (b, refl, omega arith)
greater_right (Some a) b = (max a b, refl, omega arith)

pub highest_above : (v : ℕ) (log : ShownLog) (logs : List ShownLog) → In logs log → opened_view log ≡ Some v → (u : ℕ) × (highest_view logs ≡ Some u) × (v ≤ u)
highest_above v log [] h e = absurd h
highest_above v log (l ∷ logs) (inl is) e =
    let here : opened_view l ≡ Some v = ap opened_view is ∙ e in
    let g = greater_left v (highest_view logs) in
    (g.0, rw here g.1, g.2)
highest_above v log (l ∷ logs) (inr h) e =
    let r = highest_above v log logs h e in
    let g = greater_right (opened_view l) r.0 in
    (g.0, rw r.1 g.1, omega (arith, r.2, g.2))

greater_from : (x y : Option ℕ) (u : ℕ) → greater x y ≡ Some u → (x ≡ Some u) ⊎ (y ≡ Some u)
greater_from None y u e = inr e
greater_from (Some a) None u e = inl e
greater_from (Some a) (Some b) u e = elim (cases_lt a b) [ inl lt ↦ inr (ap Some (both a b u lt (max_is (max a b) u e))) | inr ge ↦ inl (ap Some (one a b u ge (max_is (max a b) u e))) ] where
  max_is : (m u : ℕ) → Some m ≡ Some u → m ≡ u
  max_is m u e = cc

  both : (a b u : ℕ) → a < b → max a b ≡ u → b ≡ u
  both a b u lt e = omega arith

  one : (a b u : ℕ) → b ≤ a → max a b ≡ u → a ≡ u
  one a b u le e = omega arith

pub highest_from : (u : ℕ) (logs : List ShownLog) → highest_view logs ≡ Some u → (log : ShownLog) × (In logs log) × (opened_view log ≡ Some u)
highest_from u [] e = absurd cc
highest_from u (l ∷ logs) e = elim (greater_from (opened_view l) (highest_view logs) u e) [
  | inl here ↦ (l, inl refl, here)
  | inr later ↦ let r = highest_from u logs later in (r.0, inr r.1, r.2)
]

-- ---- the lowest vote for a position

lower_left : (a : ShownVote) (y : Option ShownVote) → (z : ShownVote) × (lower_vote (Some a) y ≡ Some z) × (z.0 ≤ a.0)
lower_left a None = (a, refl, omega arith)
lower_left a (Some b) = elim (cases_Bool (nat_le a.0 b.0)) [
  | inl first ↦ (a, rw first refl, omega arith)
  | inr second ↦ (b, rw second refl, let lt = leb-false _ _ second in omega arith)
]

lower_right : (x : Option ShownVote) (b : ShownVote) → (z : ShownVote) × (lower_vote x (Some b) ≡ Some z) × (z.0 ≤ b.0)
lower_right None b = (b, refl, omega arith)
lower_right (Some a) b = elim (cases_Bool (nat_le a.0 b.0)) [
  | inl first ↦ (a, rw first refl, leb-true _ _ first)
  | inr second ↦ (b, rw second refl, omega arith)
]

pub lowest_found : (p : ℕ) (y : ShownVote) (log : ShownLog) (logs : List ShownLog) → In logs log → vote_since p (newest log) ≡ Some y → (z : ShownVote) × (lowest_vote p logs ≡ Some z) × (z.0 ≤ y.0)
lowest_found p y log [] h e = absurd h
lowest_found p y log (l ∷ logs) (inl is) e =
    let here : vote_since p (newest l) ≡ Some y = ap (λ (x : ShownLog). vote_since p (newest x)) is ∙ e in
    let g = lower_left y (lowest_vote p logs) in
    (g.0, rw here g.1, g.2)
lowest_found p y log (l ∷ logs) (inr h) e =
    let r = lowest_found p y log logs h e in
    let g = lower_right (vote_since p (newest l)) r.0 in
    (g.0, rw r.1 g.1, omega (arith, r.2, g.2))

lower_from : (x y : Option ShownVote) (z : ShownVote) → lower_vote x y ≡ Some z → (x ≡ Some z) ⊎ (y ≡ Some z)
lower_from None y z e = inr e
lower_from (Some a) None z e = inl e
lower_from (Some a) (Some b) z e = elim (cases_Bool (nat_le a.0 b.0)) [
  | inl first ↦ inl (rw first at e)
  | inr second ↦ inr (rw second at e)
]

pub lowest_from : (p : ℕ) (z : ShownVote) (logs : List ShownLog) → lowest_vote p logs ≡ Some z → (log : ShownLog) × (In logs log) × (vote_since p (newest log) ≡ Some z)
lowest_from p z [] e = absurd cc
lowest_from p z (l ∷ logs) e = elim (lower_from (vote_since p (newest l)) (lowest_vote p logs) z e) [
  | inl here ↦ (l, inl refl, here)
  | inr later ↦ let r = lowest_from p z logs later in (r.0, inr r.1, r.2)
]

-- ---- the batches of the plan

-- where each position up to the k-th from p on has a vote, the k-th batch is that of its vote
pub batch_at : (logs : List ShownLog) (p most k : ℕ) (z : ShownVote) → k < most → ((q : ℕ) → p ≤ q → q < p + k → (y : ShownVote) × (lowest_vote q logs ≡ Some y)) → lowest_vote (p + k) logs ≡ Some z
    → slice_get (batches_from logs p most) k ≡ Some z.1
unfolding batches_from
batch_at logs p zero k z lt all e = absurd (omega arith)
batch_at logs p (suc most) zero z lt all e =
    let here : lowest_vote p logs ≡ Some z = rw add-zero at e in
    rw here refl
batch_at logs p (suc most) (suc k) z lt all e =
    let first = all p (omega arith) (omega arith) in
    let next : lowest_vote (p + 1 + k) logs ≡ Some z = subst (λ (n : ℕ). lowest_vote n logs ≡ Some z) (shift p k) e in
    let rest = batch_at logs (p + 1) most k z (omega arith) (λ q le less. all q (omega arith) (omega arith)) next in
    rw first.1 rest where
      shift : (p k : ℕ) → p + suc k ≡ p + 1 + k
      shift p k = omega arith
