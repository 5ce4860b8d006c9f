-- VIEW_CHANGEs that a host holds are of different hosts: as many of them as are taken are found by rising host.
use Rattle.std.proofs.Common.{◌≡◌, ℕ, zero, suc, ◌+◌, ◌<◌, ◌≤◌, Bool, true, false, ◌||◌, List, [], ◌∷◌, ◌++◌, length, refl, sym, ap, subst, ◌∙◌, inl, inr, eqb, arith, Option, Some, None}
use Rattle.std.specs.Prelude.{map, take, filter, filter_map, find, not, nat_le, if◌then◌else◌, ◌==◌}
use Rattle.std.specs.List.{AllByRecursion, range_with_len, list_any}
use Rattle.std.proofs.lemmas.Bool.{cases_Bool, eqb-true, eqb-false, ne_eqb, leb-true, cases_lt}
use Rattle.std.proofs.lemmas.List.{length-take-le}
use Rattle.mb_base.specs.Shapes.{host_count, quorum}
use Rattle.mb_base.specs.Spelling.{Rises}
use Rattle.mb_parts.specs.Fits.{AreMembers}
use Rattle.mb_msg.specs.declared.change.ViewChange.{ViewChange}
use Rattle.mb_model.specs.Histories.{History, Identity}
use Rattle.mb_model.specs.Held.{change_in, arrived, changes_of, by_rising_host, chosen}
use Rattle.mb_model.proofs.Options.{if_some}
use Rattle.mb_model.proofs.RisingLists.{RiseFrom, rise_found}
use Rattle.mb_steps.proofs.StepPlanBases.{all_filter}
use Rattle.mb_host_laws.proofs.Cases.{all_taken, or_false, some_is}

-- ---- VIEW_CHANGEs of different hosts, by rising host, are as many

abbrev has_host : List ViewChange → ℕ → Bool
has_host l h = list_any (λ c. c.ui.host == h) l

-- Of each host there is one at most.
abbrev AreDistinct : List ViewChange → Type 0
AreDistinct [] = Unit {0}
AreDistinct (m ∷ l) = (has_host l m.ui.host ≡ false) × AreDistinct l

from_false : (a b : Bool) → a ≡ false → b ≡ false → (a || b) ≡ false
from_false false b e f = f
from_false true b e f = absurd cc

less_host : (t : ViewChange → Bool) (l : List ViewChange) (h : ℕ) → has_host l h ≡ false → has_host (filter t l) h ≡ false
less_host t [] h e = refl
less_host t (x ∷ l) h e = let b = or_false (x.ui.host == h) (has_host l h) e in elim (cases_Bool (t x)) [
  | inl stays ↦ rw stays (from_false (x.ui.host == h) (has_host (filter t l) h) b.0 (less_host t l h b.1))
  | inr goes ↦ rw goes (less_host t l h b.1)
]

filtered_distinct : (t : ViewChange → Bool) (l : List ViewChange) → AreDistinct l → AreDistinct (filter t l)
filtered_distinct t [] a = tt
filtered_distinct t (x ∷ l) a = elim (cases_Bool (t x)) [
  | inl stays ↦ rw stays (less_host t l x.ui.host a.0, filtered_distinct t l a.1)
  | inr goes ↦ rw goes (filtered_distinct t l a.1)
]

taken_host : (n : ℕ) (l : List ViewChange) (h : ℕ) → has_host l h ≡ false → has_host (take n l) h ≡ false
taken_host zero l h e = refl
taken_host (suc n) [] h e = refl
taken_host (suc n) (x ∷ l) h e = let b = or_false (x.ui.host == h) (has_host l h) e in from_false (x.ui.host == h) (has_host (take n l) h) b.0 (taken_host n l h b.1)

taken_distinct : (n : ℕ) (l : List ViewChange) → AreDistinct l → AreDistinct (take n l)
taken_distinct zero l a = tt
taken_distinct (suc n) [] a = tt
taken_distinct (suc n) (x ∷ l) a = (taken_host n l x.ui.host a.0, taken_distinct n l a.1)

more_host : (l : List ViewChange) (m : ViewChange) (h : ℕ) → has_host l h ≡ false → (m.ui.host == h) ≡ false → has_host (l ++ m ∷ []) h ≡ false
more_host [] m h e o = from_false (m.ui.host == h) false o refl
more_host (x ∷ l) m h e o = let b = or_false (x.ui.host == h) (has_host l h) e in from_false (x.ui.host == h) (has_host (l ++ m ∷ []) h) b.0 (more_host l m h b.1 o)

pushed_distinct : (l : List ViewChange) (m : ViewChange) → AreDistinct l → AllByRecursion (λ (x : ViewChange). (m.ui.host == x.ui.host) ≡ false) l → AreDistinct (l ++ m ∷ [])
pushed_distinct [] m a o = (refl, tt)
pushed_distinct (x ∷ l) m a o = (more_host l m x.ui.host a.0 o.0, pushed_distinct l m a.1 o.1)

others : (m : ViewChange) (l : List ViewChange) → AllByRecursion (λ (x : ViewChange). (m.ui.host == x.ui.host) ≡ false) (filter (λ c. not (c.ui.host == m.ui.host)) l)
others m [] = tt
others m (x ∷ l) = elim (cases_Bool (eqb x.ui.host m.ui.host)) [
  | inl same ↦ rw same (others m l)
  | inr other ↦ rw other (ne_eqb m.ui.host x.ui.host (λ e. eqb-false x.ui.host m.ui.host other (sym e)), others m l)
]

-- how many of the numbers from one on have a property
abbrev many_of : (ℕ → Bool) → ℕ → ℕ → ℕ
many_of p a zero = 0
many_of p a (suc n) = (if p a then 1 else 0) + many_of p (a + 1) n

found_any : (t : ViewChange → Bool) (l : List ViewChange) → (list_any t l ≡ true → (m : ViewChange) × (find t l ≡ Some m)) × (list_any t l ≡ false → find t l ≡ None)
found_any t [] = (λ e. absurd cc, λ e. refl)
found_any t (x ∷ l) = let r = found_any t l in elim (cases_Bool (t x)) [
  | inl here ↦ rw here (λ e. (x, refl), λ e. absurd cc)
  | inr other ↦ rw other (r.0, r.1)
]

count_found : (l : List ViewChange) (a n : ℕ) → length (filter_map (λ h. find (λ c. c.ui.host == h) l) (range_with_len a n)) ≡ many_of (has_host l) a n
count_found l a zero = refl
count_found l a (suc n) = let r = found_any (λ c. c.ui.host == a) l in elim (cases_Bool (has_host l a)) [
  | inl there ↦ let m = r.0 there in rw (m.1, there) (omega (arith, count_found l (a + 1) n))
  | inr none ↦ rw (r.1 none, none) (omega (arith, count_found l (a + 1) n))
]

unchanged : (p : ℕ → Bool) (k a n : ℕ) → k < a → many_of (λ h. (k == h) || p h) a n ≡ many_of p a n
unchanged p k a zero lt = refl
unchanged p k a (suc n) lt = rw (ne_eqb k a (λ e. omega arith), unchanged p k (a + 1) n (omega (arith, lt))) refl

one_more : (p : ℕ → Bool) (k a n : ℕ) → p k ≡ false → a ≤ k → k < a + n → many_of (λ h. (k == h) || p h) a n ≡ 1 + many_of p a n
one_more p k a zero none low high = absurd (omega (arith, low, high))
one_more p k a (suc n) none low high = elim (cases_Bool (eqb k a)) [
  | inl same ↦
      let e : k ≡ a = eqb-true k a same in
      let here : p a ≡ false = subst (λ (i : ℕ). p i ≡ false) e none in
      rw (same, here, unchanged p k (a + 1) n (omega (arith, e))) (omega arith)
  | inr other ↦ rw (other, one_more p k (a + 1) n none (above k a low (eqb-false k a other)) (omega (arith, high))) (omega arith)
] where
  above : (k a : ℕ) → a ≤ k → (k ≡ a → ⊥) → a + 1 ≤ k
  above k a le ne = elim (cases_lt a k) [ inl lt ↦ omega (arith, lt) | inr ge ↦ absurd (ne (omega (arith, le, ge))) ]

rising_count : (l : List ViewChange) (n : ℕ) → AreDistinct l → AllByRecursion (λ (m : ViewChange). m.ui.host < n) l → many_of (has_host l) 0 n ≡ length l
rising_count [] n d a = empty 0 n where
  empty : (a n : ℕ) → many_of (λ h. false) a n ≡ 0
  empty a zero = refl
  empty a (suc n) = omega (arith, empty (a + 1) n)
rising_count (m ∷ l) n d a =
    let low : m.ui.host < n = a.0 in
    one_more (has_host l) m.ui.host 0 n d.0 (omega arith) (omega (arith, low)) ∙ ap (λ (k : ℕ). 1 + k) (rising_count l n d.1 a.1) ∙ omega arith

pub find_good : (P : ViewChange → Type 0) (t : ViewChange → Bool) (l : List ViewChange) → AllByRecursion P l → (m : ViewChange) → find t l ≡ Some m → P m × (t m ≡ true)
find_good P t [] a m e = absurd cc
find_good P t (x ∷ l) a m e = elim (cases_Bool (t x)) [
  | inl here ↦ let is : x ≡ m = some_is x m (rw here at e) in (subst P is a.0, subst (λ (y : ViewChange). t y ≡ true) is here)
  | inr other ↦ find_good P t l a.1 m (rw other at e)
]

-- ---- so it is with what a host holds

rising : (P : ViewChange → Type 0) (n : ℕ) (l : List ViewChange) → RiseFrom (λ (m : ViewChange). m.ui.host) P n l → Rises n (map (λ (m : ViewChange). m.ui.host) l) × AllByRecursion P l
rising P n [] r = (tt, tt)
rising P n (m ∷ l) r = let more = rising P (m.ui.host + 1) l r.2 in ((r.0, more.0), (r.1, more.1))

module _ {S : Type 0} (self : Identity S) where
  arrived_distinct : (x : Option ViewChange) (l : List ViewChange) → AreDistinct l → AreDistinct (arrived self x l)
  arrived_distinct None l a = a
  arrived_distinct (Some m) l a = pushed_distinct (filter (λ c. not (c.ui.host == m.ui.host)) l) m (filtered_distinct (λ c. not (c.ui.host == m.ui.host)) l a) (others m l)

  held_distinct : (d : History) → AreDistinct (changes_of self d)
  unfolding changes_of
  held_distinct [] = tt
  held_distinct (e ∷ d) = arrived_distinct (change_in self d e) (changes_of self d) (held_distinct d)

  -- Those that are chosen are f+1, of rising hosts, where each that is held is of a host of the system.
  pub chosen_members : (P : ViewChange → Type 0) → ((m : ViewChange) → P m → m.ui.host < host_count self.shape) → (d : History) → AllByRecursion P (changes_of self d)
      → (v : ℕ) (changes : List ViewChange) → chosen self d v ≡ Some changes → AreMembers (λ (m : ViewChange). m.ui.host) P (quorum self.shape) changes
  chosen_members P there d all v changes e =
      let n : ℕ = host_count self.shape in
      let l : List ViewChange = filter (λ c. c.view == v) (changes_of self d) in
      let t = if_some (nat_le (quorum self.shape) (length l)) (Some (by_rising_host self (take (quorum self.shape) l))) changes e in
      let first : List ViewChange = take (quorum self.shape) l in
      let is : by_rising_host self first ≡ changes = cc t.1 in
      let taken : AllByRecursion P first = all_taken P (quorum self.shape) l (all_filter P (λ c. c.view == v) (changes_of self d) all) in
      let distinct : AreDistinct first = taken_distinct (quorum self.shape) l (filtered_distinct (λ c. c.view == v) (changes_of self d) (held_distinct d)) in
      let count : length (by_rising_host self first) ≡ quorum self.shape =
      count_found first 0 n ∙ rising_count first n distinct (below first taken) ∙ length-take-le (quorum self.shape) l (leb-true (quorum self.shape) (length l) t.0) in
      let rise : RiseFrom (λ (m : ViewChange). m.ui.host) P 0 (by_rising_host self first) = rise_found (λ (m : ViewChange). m.ui.host) P (λ h. find (λ c. c.ui.host == h) first)
      (λ h m f. let g = find_good P (λ c. c.ui.host == h) first taken m f in (eqb-true m.ui.host h g.1, g.0)) 0 n in
      let r = rising P 0 (by_rising_host self first) rise in
      subst (AreMembers (λ (m : ViewChange). m.ui.host) P (quorum self.shape)) is (count, (r.0, r.1))
    where
      below : (l : List ViewChange) → AllByRecursion P l → AllByRecursion (λ (m : ViewChange). m.ui.host < host_count self.shape) l
      below [] a = tt
      below (m ∷ l) a = (there m a.0, below l a.1)
