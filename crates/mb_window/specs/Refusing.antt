-- When an item is refused.
use Rattle.std.specs.Prelude.{◌≡◌, ◌≢◌, ℕ, ◌+◌, ◌<◌, ◌≤◌, length, None, Result, Ok, Err}
use Rattle.mb_window.specs.declared.refused.Refused.{Refused}
use Rattle.mb_window.specs.declared.refused.Refused.TheVariants.{Below, Beyond, Filled}
use Rattle.mb_window.specs.Places.{Places, item_at}

-- each refusal exactly where it says, with the item
abbrev pub Refuses : {X : Type 0} → Places X → ℕ → X → Result (Unit {0}) (Refused X) → Type 0
Refuses s pos item (Ok u) = (s.low < pos) × (pos ≤ s.low + length s.items) × (item_at s pos ≡ None)
Refuses s pos item (Err (Below low back)) = (pos ≤ s.low) × (low ≡ s.low) × (back ≡ item)
Refuses s pos item (Err (Beyond low back)) = (s.low + length s.items < pos) × (low ≡ s.low) × (back ≡ item)
Refuses s pos item (Err (Filled back)) = (s.low < pos) × (pos ≤ s.low + length s.items) × (item_at s pos ≢ None) × (back ≡ item)
