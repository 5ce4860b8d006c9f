-- The greatest of some numbers, one more at a time.
use Rattle.std.proofs.Common.{◌≡◌, ℕ, zero, suc, ◌+◌, ◌<◌, ◌≤◌, List, [], ◌∷◌, length, get_or, drop, map, refl, sym, ap, ◌∙◌, add-one, arith}
use Rattle.std.specs.Prelude.{max}
use Rattle.mb_model.specs.EnabledRules.{greatest}

-- from a place on
greatest_suc : {X : Type 0} (f : X → ℕ) (xs : List X) (i : ℕ) (d : X) → i < length xs → greatest (map f (drop i xs)) ≡ max (f (get_or xs i d)) (greatest (map f (drop (suc i) xs)))
unfolding greatest
greatest_suc f [] i d lt = absurd (omega (arith, lt))
greatest_suc f (y ∷ ys) zero d lt = refl
greatest_suc f (y ∷ ys) (suc i) d lt = greatest_suc f ys i d (omega (arith, lt))

greatest_past : {X : Type 0} (f : X → ℕ) (xs : List X) (i : ℕ) → length xs ≤ i → greatest (map f (drop i xs)) ≡ 0
unfolding greatest
greatest_past f [] zero le = refl
greatest_past f [] (suc i) le = refl
greatest_past f (x ∷ xs) zero le = absurd (omega (arith, le))
greatest_past f (x ∷ xs) (suc i) le = greatest_past f xs i (omega (arith, le))

module _ {X : Type 0} (f : X → ℕ) (xs : List X) (i : ℕ) where
  -- one more is compared
  pub greatest_more : (d : X) (v old new whole : ℕ) → i < length xs → v ≡ f (get_or xs i d) → new ≡ max v old → max old (greatest (map f (drop i xs))) ≡ whole
      → max new (greatest (map f (drop (i + 1) xs))) ≡ whole
  greatest_more d v old new whole lt is next before =
      let step : greatest (map f (drop i xs)) ≡ max (f (get_or xs i d)) (greatest (map f (drop (i + 1) xs))) =
      greatest_suc f xs i d lt ∙ ap (λ (n : ℕ). max (f (get_or xs i d)) (greatest (map f (drop n xs)))) (sym (add-one i)) in
      omega (arith, step, is, next, before)

  -- all are
  pub greatest_whole : (old whole : ℕ) → length xs ≤ i → max old (greatest (map f (drop i xs))) ≡ whole → old ≡ whole
  greatest_whole old whole le before = omega (arith, greatest_past f xs i le, before)
