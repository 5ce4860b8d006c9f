-- A window: the items of the positions above low.
use Rattle.std.specs.Prelude.{ℕ, ◌+◌, ◌-◌, min, List, [], ◌∷◌, ◌++◌, length, drop, replicate, slice_get, Option, Some, None, refl, nat_le, if◌then◌else◌}
use Rattle.std.specs.Coded.{Coded, code_by, coded×, coded_list, coded_option, coded_ℕ}

-- the item at index i belongs to position low + 1 + i
pub record Places (X : Type 0) : Type 0 where
  pub low : ℕ
  pub items : List (Option X)

module _ {X : Type 0} where
  abbrev pub places : ℕ → List (Option X) → Places X
  places low items = record { low = low; items = items }

  abbrev pub places_code : Coded X → Coded (Places X)
  places_code c = code_by (ℕ × List (Option X)) (coded× coded_ℕ (coded_list (coded_option c))) (λ s. (s.low, s.items)) (λ p. places p.0 p.1) (λ _. refl)

  -- the item at a position, if it is in the window and held
  abbrev pub flat : Option (Option X) → Option X
  flat None = None
  flat (Some o) = o

  abbrev pub item_at : Places X → ℕ → Option X
  item_at s pos = if nat_le pos s.low then None else flat (slice_get s.items (pos - s.low - 1))

  -- the places that n steps up leave
  abbrev pub raised : ℕ → List (Option X) → List (Option X)
  raised n items = drop n items ++ replicate (min n (length items)) None

  abbrev pub first_none : List (Option X) → ℕ
  first_none [] = 0
  first_none (None ∷ xs) = 0
  first_none (Some x ∷ xs) = first_none xs + 1
