-- The greatest number in slots, behind each call.
use Rattle.std.proofs.Common.{◌≡◌, ℕ, zero, suc, ◌+◌, ◌-◌, ◌<◌, ◌≤◌, cond, List, [], ◌∷◌, length, map, max, set, get_or, drop, replicate, Option, Some, None, refl, sym, ap, ◌∙◌, add-one, arith}
use Rattle.std.specs.Prelude.{slice_get}
use Rattle.std.specs.List.{range_with_len}
use Rattle.std.proofs.lemmas.Bool.{lt-leb, eq-eqb}
use Rattle.std.proofs.lemmas.Option.{slice_get-get_or, slice_get_read, get_or_from_slice_get}
use Rattle.mb_model.specs.EnabledRules.{greatest}
use Rattle.mb_base.specs.declared.shape.Shape.{Shape}
use Rattle.mb_base.specs.Shapes.{span}
use Rattle.mb_model.specs.declared.known.KnownSlot.{KnownSlot}
use Rattle.mb_normal.specs.Ordered.{AreMore, IsGreatest, greatest_in_known, greatest_in_window}
use Rattle.mb_window.specs.Places.{Places, places, flat, item_at}
use Rattle.mb_window.specs.Represents.{Represents, StandsWith}

module _ {K : Type 0} (f : Option K → ℕ) where
  -- one slot more, in an empty place
  pub greatest_set : f None ≡ 0 → (items : List (Option K)) (i : ℕ) (k : K) → i < length items → flat (slice_get items i) ≡ None
      → greatest (map f (set items i (Some k))) ≡ max (f (Some k)) (greatest (map f items))
  unfolding greatest
  greatest_set none [] i k lt free = absurd (omega arith)
  greatest_set none (x ∷ items) zero k lt free =
      let gone : f x ≡ 0 = ap f free ∙ none in
      omega (arith, gone)
  greatest_set none (x ∷ items) (suc i) k lt free =
      let rest = greatest_set none items i k (omega arith) free in
      omega (arith, rest)

  -- no slots
  pub greatest_empty : f None ≡ 0 → (n : ℕ) → greatest (map f (replicate n None)) ≡ 0
  unfolding greatest
  greatest_empty none zero = refl
  greatest_empty none (suc n) = let rest = greatest_empty none n in omega (arith, none, rest)

  -- by position
  pub by_position : (search : ℕ → Option K) (items : List (Option K)) (a : ℕ) → ((i : ℕ) → i < length items → flat (slice_get items i) ≡ search (a + i)) → map (λ p. f (search p)) (range_with_len a (length items)) ≡ map f items
  by_position search [] a same = refl
  by_position search (x ∷ items) a same =
      let here : search a ≡ x = ap search (let e : a ≡ a + 0 = omega arith in e) ∙ sym (same 0 (omega arith)) in
      let rest = by_position search items (a + 1) (λ i lt. same (suc i) (omega (arith, lt)) ∙ ap search (let e : a + suc i ≡ (a + 1) + i = omega arith in e)) in
      ap (λ o. f o ∷ map (λ p. f (search p)) (range_with_len (a + 1) (length items))) here ∙ ap (λ l. f x ∷ l) rest

  -- in what a window stands for
  pub greatest_found : (w : Places K) (low n : ℕ) (search : ℕ → Option K) → length w.items ≡ n → Represents w low search
      → greatest (map f w.items) ≡ greatest (map (λ p. f (search p)) (range_with_len (low + 1) n))
  greatest_found w low n search width st =
      sym (ap greatest (ap (λ m. map (λ p. f (search p)) (range_with_len (low + 1) m)) (sym width) ∙ by_position search w.items (low + 1) (λ i lt. at i ∙ st.finds (low + 1 + i)))) where
        at : (i : ℕ) → flat (slice_get w.items i) ≡ item_at w (low + 1 + i)
        at i =
            let low_is : w.low ≡ low = st.low_is in
            let above : w.low < low + 1 + i = omega (arith, low_is) in
            let index : low + 1 + i - w.low - 1 ≡ i = omega (arith, low_is) in
            sym (ap (λ b. cond b None (flat (slice_get w.items (low + 1 + i - w.low - 1)))) (lt-leb (low + 1 + i) w.low above) ∙ ap (λ k. flat (slice_get w.items k)) index)

-- ---- one after the other

greatest_drop : {A : Type 0} (f : A → ℕ) (xs : List A) (i : ℕ) (x : A) → slice_get xs i ≡ Some x → greatest (map f (drop i xs)) ≡ max (f x) (greatest (map f (drop (suc i) xs)))
unfolding greatest
greatest_drop f [] i x e = absurd cc
greatest_drop f (y ∷ ys) zero x e = let same : y ≡ x = cc in ap (λ z. max (f z) (greatest (map f ys))) same
greatest_drop f (y ∷ ys) (suc i) x e = greatest_drop f ys i x e

pub greatest_more : {A : Type 0} (f : A → ℕ) (xs : List A) (i : ℕ) (x : A) → slice_get xs i ≡ Some x → greatest (map f (drop i xs)) ≡ max (f x) (greatest (map f (drop (i + 1) xs)))
greatest_more f xs i x e = greatest_drop f xs i x e ∙ ap (λ k. max (f x) (greatest (map f (drop k xs)))) (sym (add-one i))

pub greatest_done : {A : Type 0} (f : A → ℕ) (xs : List A) (i : ℕ) → length xs ≤ i → greatest (map f (drop i xs)) ≡ 0
unfolding greatest
greatest_done f [] zero le = refl
greatest_done f [] (suc i) le = refl
greatest_done f (x ∷ xs) zero le = absurd (omega arith)
greatest_done f (x ∷ xs) (suc i) le = greatest_done f xs i (omega arith)

-- with those from a place on, the numbers are more by all of these
abbrev pub StillMore : {A : Type 0} → (ℕ → A → ℕ) → List A → ℕ → List ℕ → List ℕ → Type 0
StillMore f xs i old new = (c : ℕ) → c < length new → max (get_or new c 0) (greatest (map (f c) (drop i xs))) ≡ max (get_or old c 0) (greatest (map (f c) xs))

pub one_more : {A : Type 0} (f : ℕ → A → ℕ) (xs : List A) (i : ℕ) (x : A) (old now new : List ℕ) → slice_get xs i ≡ Some x → length new ≡ length now → AreMore (λ c. f c x) now new → StillMore f xs i old now → StillMore f xs (i + 1) old new
one_more f xs i x old now new there same more before c lt =
    let here : get_or new c 0 ≡ max (get_or now c 0) (f c x) = more c lt in
    let was : max (get_or now c 0) (greatest (map (f c) (drop i xs))) ≡ max (get_or old c 0) (greatest (map (f c) xs)) = before c (omega (arith, same, lt)) in
    let split : greatest (map (f c) (drop i xs)) ≡ max (f c x) (greatest (map (f c) (drop (i + 1) xs))) = greatest_more (f c) xs i x there in
    omega (arith, here, was, split)

pub all_seen : {A : Type 0} (f : ℕ → A → ℕ) (xs : List A) (i : ℕ) (old new : List ℕ) → length xs ≤ i → StillMore f xs i old new → AreMore (λ c. greatest (map (f c) xs)) old new
all_seen f xs i old new le more c lt =
    let rest : greatest (map (f c) (drop i xs)) ≡ 0 = greatest_done (f c) xs i le in
    let was : max (get_or new c 0) (greatest (map (f c) (drop i xs))) ≡ max (get_or old c 0) (greatest (map (f c) xs)) = more c lt in
    omega (arith, rest, was)

-- ---- all slots anew

-- those from a place on are still to be counted
abbrev pub CountedTo : List (Option KnownSlot) → ℕ → List ℕ → Type 0
CountedTo items i numbers = (c : ℕ) → c < length numbers → max (get_or numbers c 0) (greatest (map (greatest_in_known c) (drop i items))) ≡ greatest (map (greatest_in_known c) items)

pub none_counted : (items : List (Option KnownSlot)) (numbers : List ℕ) → ((c : ℕ) → c < length numbers → get_or numbers c 0 ≡ 0) → CountedTo items 0 numbers
none_counted items numbers zeros c lt = let none : get_or numbers c 0 ≡ 0 = zeros c lt in omega (arith, none)

pub one_counted : (w : Places KnownSlot) (i pos : ℕ) (numbers new : List ℕ) → i < length w.items → pos ≡ w.low + 1 + i → length new ≡ length numbers → AreMore (λ c. greatest_in_known c (item_at w pos)) numbers new
    → CountedTo w.items i numbers → CountedTo w.items (i + 1) new
one_counted w i pos numbers new lt is same more before c within =
    let x = get_or w.items i None in
    let there : slice_get w.items i ≡ Some x = slice_get-get_or w.items i None lt in
    let index : pos - w.low - 1 ≡ i = omega (arith, is) in
    let found : item_at w pos ≡ x = ap (λ b. cond b None (flat (slice_get w.items (pos - w.low - 1)))) (lt-leb pos w.low (omega (arith, is))) ∙ ap (λ k. flat (slice_get w.items k)) index ∙ ap flat there in
    let here : get_or new c 0 ≡ max (get_or numbers c 0) (greatest_in_known c x) = more c within ∙ ap (λ o. max (get_or numbers c 0) (greatest_in_known c o)) found in
    let was : max (get_or numbers c 0) (greatest (map (greatest_in_known c) (drop i w.items))) ≡ greatest (map (greatest_in_known c) w.items) = before c (omega (arith, same, within)) in
    let split : greatest (map (greatest_in_known c) (drop i w.items)) ≡ max (greatest_in_known c x) (greatest (map (greatest_in_known c) (drop (i + 1) w.items))) = greatest_more (greatest_in_known c) w.items i x there in
    omega (arith, here, was, split)

pub all_counted : (items : List (Option KnownSlot)) (i : ℕ) (numbers : List ℕ) → length items ≤ i → CountedTo items i numbers → IsGreatest items numbers
all_counted items i numbers le counted c lt =
    let rest : greatest (map (greatest_in_known c) (drop i items)) ≡ 0 = greatest_done (greatest_in_known c) items i le in
    let was : max (get_or numbers c 0) (greatest (map (greatest_in_known c) (drop i items))) ≡ greatest (map (greatest_in_known c) items) = counted c lt in
    omega (arith, rest, was)

-- ---- behind the calls of the table

-- no slots
pub empty_greatest : (n : ℕ) (numbers : List ℕ) → ((c : ℕ) → c < length numbers → get_or numbers c 0 ≡ 0) → IsGreatest (replicate n None) numbers
empty_greatest n numbers zeros c lt = zeros c lt ∙ sym (greatest_empty (greatest_in_known c) refl n)

-- no slots from the start
zeros_read : (n k : ℕ) → get_or (replicate {A = ℕ} n 0) k 0 ≡ 0
zeros_read zero k = refl
zeros_read (suc n) zero = refl
zeros_read (suc n) (suc k) = zeros_read n k

pub cleared_greatest : (w : Places KnownSlot) (low n : ℕ) (numbers : List ℕ) → w ≡ places low (replicate n None) → ((c : ℕ) → c < length numbers → get_or numbers c 0 ≡ 0) → IsGreatest w.items numbers
cleared_greatest w low n numbers is zeros c lt = empty_greatest n numbers zeros c lt ∙ sym (ap (λ (v : Places KnownSlot). greatest (map (greatest_in_known c) v.items)) is)

pub made_greatest : (w : Places KnownSlot) (low n m : ℕ) (numbers : List ℕ) → w ≡ places low (replicate n None) → numbers ≡ replicate m 0 → IsGreatest w.items numbers
made_greatest w low n m numbers is zeros = cleared_greatest w low n numbers is (λ c lt. ap (λ l. get_or l c 0) zeros ∙ zeros_read m c)

-- one slot more
pub put_greatest : (old new : Places KnownSlot) (pos : ℕ) (slot : KnownSlot) (numbers more : List ℕ) → new ≡ places old.low (set old.items (pos - old.low - 1) (Some slot)) → old.low < pos → pos ≤ old.low + length old.items
    → item_at old pos ≡ None → StandsWith old pos slot new → length more ≡ length numbers → IsGreatest old.items numbers → AreMore (λ c. greatest_in_known c (item_at new pos)) numbers more → IsGreatest new.items more
put_greatest old new pos slot numbers more is lt le none stands same before adds c within =
    let i = pos - old.low - 1 in
    let found : item_at new pos ≡ Some slot =
    (stands old.low (item_at old) (record { low_is = refl; finds = λ p. refl })).finds pos ∙ ap (λ b. cond b (Some slot) (item_at old pos)) (eq-eqb pos pos refl) in
    let free : flat (slice_get old.items i) ≡ None = sym (ap (λ b. cond b None (flat (slice_get old.items i))) (lt-leb pos old.low lt)) ∙ none in
    let here : get_or more c 0 ≡ max (get_or numbers c 0) (greatest_in_known c (Some slot)) = adds c within ∙ ap (λ o. max (get_or numbers c 0) (greatest_in_known c o)) found in
    let was : get_or numbers c 0 ≡ greatest (map (greatest_in_known c) old.items) = before c (omega (arith, same, within)) in
    let put : greatest (map (greatest_in_known c) (set old.items i (Some slot))) ≡ max (greatest_in_known c (Some slot)) (greatest (map (greatest_in_known c) old.items)) =
    greatest_set (greatest_in_known c) refl old.items i slot (omega (arith, lt, le)) free in
    let all : greatest (map (greatest_in_known c) new.items) ≡ greatest (map (greatest_in_known c) (set old.items i (Some slot))) = ap (λ (w : Places KnownSlot). greatest (map (greatest_in_known c) w.items)) is in
    omega (arith, here, was, put, all)

-- what is read of it
pub greatest_read : (s : Shape) (w : Places KnownSlot) (numbers : List ℕ) (at client number low : ℕ) (search : ℕ → Option KnownSlot) → at ≡ client → client < length numbers → number ≡ get_or numbers at number → length w.items ≡ span s
    → IsGreatest w.items numbers → Represents w low search → number ≡ greatest_in_window s low search client
greatest_read s w numbers at client number low search is lt read width all st =
    sym (get_or_from_slice_get numbers client number 0 (slice_get_read numbers (length numbers) client number refl lt (rw is at read)))
    ∙ all client lt ∙ greatest_found (greatest_in_known client) w low (span s) search width st
