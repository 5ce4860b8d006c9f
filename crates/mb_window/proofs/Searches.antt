-- What a window finds at each position, behind each call.
use Rattle.std.proofs.Common.{◌≡◌, ◌≢◌, ℕ, zero, suc, ◌+◌, ◌-◌, ◌<◌, ◌≤◌, cond, leb, eqb, List, [], ◌∷◌, ◌++◌, length, set, drop, replicate, min, Option, Some, None, refl, sym, ap, ◌∙◌, arith, inl, inr}
use Rattle.std.specs.Prelude.{slice_get}
use Rattle.std.proofs.lemmas.Bool.{cases_lt, lt-leb, le-leb}
use Rattle.std.proofs.lemmas.Bool.Decides.{eqb_tells}
use Rattle.circular_buffer.proofs.Places.{slice_get-set_same, slice_get-set_other, slice_get-drop}
use Rattle.mb_window.specs.Places.{Places, places, flat, item_at, raised}
use Rattle.mb_window.specs.Represents.{Represents, StandsWith, StandsAbove, StandsForNothing}

module _ {X : Type 0} where
  -- ---- places

  empty_places : (m j : ℕ) → flat (slice_get (replicate {A = Option X} m None) j) ≡ None
  empty_places zero j = refl
  empty_places (suc m) zero = refl
  empty_places (suc m) (suc j) = empty_places m j

  empty_behind : (xs : List (Option X)) (m j : ℕ) → flat (slice_get (xs ++ replicate m None) j) ≡ flat (slice_get xs j)
  empty_behind [] m j = empty_places m j
  empty_behind (x ∷ xs) m zero = refl
  empty_behind (x ∷ xs) m (suc j) = empty_behind xs m j

  -- ---- positions

  item_below : (s : Places X) (p : ℕ) → p ≤ s.low → item_at s p ≡ None
  item_below s p le = rw (le-leb p s.low le) refl

  item_above : (s : Places X) (p : ℕ) → s.low < p → item_at s p ≡ flat (slice_get s.items (p - s.low - 1))
  item_above s p lt = rw (lt-leb p s.low lt) refl

  -- behind a write
  put_here : (s : Places X) (pos : ℕ) (item : X) → s.low < pos → pos ≤ s.low + length s.items → item_at (places s.low (set s.items (pos - s.low - 1) (Some item))) pos ≡ Some item
  put_here s pos item lt le = item_above (places s.low (set s.items (pos - s.low - 1) (Some item))) pos lt ∙ ap flat (slice_get-set_same s.items (pos - s.low - 1) (Some item) (omega arith))

  put_elsewhere : (s : Places X) (pos : ℕ) (item : X) (p : ℕ) → s.low < pos → p ≢ pos → item_at (places s.low (set s.items (pos - s.low - 1) (Some item))) p ≡ item_at s p
  put_elsewhere s pos item p lt other =
      let new = places s.low (set s.items (pos - s.low - 1) (Some item)) in
      elim (cases_lt s.low p) [
        | inr low_down ↦ item_below new p low_down ∙ sym (item_below s p low_down)
        | inl high_up ↦
            let index : p - s.low - 1 ≢ pos - s.low - 1 = λ e. other (omega (arith, e)) in
            item_above new p high_up ∙ ap flat (slice_get-set_other s.items (pos - s.low - 1) (p - s.low - 1) (Some item) index) ∙ sym (item_above s p high_up)
      ]

  put_finds : (s : Places X) (pos : ℕ) (item : X) (p : ℕ) → s.low < pos → pos ≤ s.low + length s.items
      → item_at (places s.low (set s.items (pos - s.low - 1) (Some item))) p ≡ cond (eqb p pos) (Some item) (item_at s p)
  put_finds s pos item p lt le = elim (eqb_tells p pos) [
    | inl same ↦ rw (same.0) (ap (item_at (places s.low (set s.items (pos - s.low - 1) (Some item)))) same.1 ∙ put_here s pos item lt le)
    | inr other ↦ rw (other.0) (put_elsewhere s pos item p lt other.1)
  ]

  -- behind a raise
  raise_finds : (s : Places X) (low p : ℕ) → s.low ≤ low → item_at (places low (raised (low - s.low) s.items)) p ≡ cond (leb p low) None (item_at s p)
  raise_finds s low p le =
      let n = low - s.low in
      let new = places low (raised n s.items) in
      elim (cases_lt low p) [
        | inr low_down ↦ rw (le-leb p low low_down) refl
        | inl high_up ↦
            let j = p - low - 1 in
            rw (lt-leb p low high_up) (
            empty_behind (drop n s.items) (min n (length s.items)) j
            ∙ ap flat (slice_get-drop n s.items j (p - s.low - 1) (omega arith))
            ∙ sym (item_above s p (omega arith))
            )
      ]

  -- where all places are empty
  empty_finds : (low m p : ℕ) → item_at (places low (replicate {A = Option X} m None)) p ≡ None
  empty_finds low m p =
      let new = places low (replicate {A = Option X} m None) in
      elim (cases_lt low p) [
        | inr low_down ↦ item_below new p low_down
        | inl high_up ↦ item_above new p high_up ∙ empty_places m (p - low - 1)
      ]

  -- ---- the search that a window stands for

  pub put_stands : (s new : Places X) (pos : ℕ) (item : X) → new ≡ places s.low (set s.items (pos - s.low - 1) (Some item)) → s.low < pos → pos ≤ s.low + length s.items → StandsWith s pos item new
  put_stands s new pos item is lt le = λ low search stands. record {
    low_is = ap (λ (w : Places X). w.low) is ∙ stands.low_is;
    finds = λ p. ap (λ (w : Places X). item_at w p) is ∙ put_finds s pos item p lt le ∙ ap (cond (eqb p pos) (Some item)) (stands.finds p);
  }

  pub raise_stands : (s new : Places X) (low : ℕ) → new ≡ places low (raised (low - s.low) s.items) → s.low ≤ low → StandsAbove s low new
  raise_stands s new low is le = λ before search stands. record {
    low_is = ap (λ (w : Places X). w.low) is;
    finds = λ p. ap (λ (w : Places X). item_at w p) is ∙ raise_finds s low p le ∙ ap (cond (leb p low) None) (stands.finds p);
  }

  pub empty_stands : (new : Places X) (low m : ℕ) → new ≡ places low (replicate m None) → StandsForNothing new low
  empty_stands new low m is = record {
    low_is = ap (λ (w : Places X). w.low) is;
    finds = λ p. ap (λ (w : Places X). item_at w p) is ∙ empty_finds low m p;
  }
