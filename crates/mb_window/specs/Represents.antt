-- A window stands for a search by positions: its low end is this one, and the item of each position is what the search finds there.
use Rattle.std.specs.Prelude.{ℕ, ◌≡◌, ◌==◌, nat_le, Option, Some, None, if◌then◌else◌}
use Rattle.mb_window.specs.Places.{Places, item_at}

module _ {X : Type 0} where
  pub record Represents (window : Places X) (low : ℕ) (search : ℕ → Option X) : Type 0 where
    pub low_is : window.low ≡ low
    pub finds : (pos : ℕ) → item_at window pos ≡ search pos

  -- a search that finds one item more
  abbrev pub found_at : (ℕ → Option X) → ℕ → X → ℕ → Option X
  found_at search pos item p = if p == pos then Some item else search p

  -- a search that finds nothing up to a low end
  abbrev pub above : ℕ → (ℕ → Option X) → ℕ → Option X
  above low search p = if nat_le p low then None else search p

  -- what each call makes of the search that a window stands for

  abbrev pub StandsWith : Places X → ℕ → X → Places X → Type 0
  StandsWith old pos item new = (low : ℕ) (search : ℕ → Option X) → Represents old low search → Represents new low (found_at search pos item)

  abbrev pub StandsAbove : Places X → ℕ → Places X → Type 0
  StandsAbove old raised new = (low : ℕ) (search : ℕ → Option X) → Represents old low search → Represents new raised (above raised search)

  abbrev pub StandsForNothing : Places X → ℕ → Type 0
  StandsForNothing new low = Represents new low (λ p. None)
