-- The greatest number of a client's requests in slots.
use Rattle.std.specs.Prelude.{ℕ, ◌≡◌, ◌+◌, ◌<◌, List, length, map, max, Option, option_and_then, slice_index_or}
use Rattle.std.specs.List.{range_with_len}
use Rattle.mb_base.specs.Shapes.{span}
use Rattle.mb_base.specs.declared.shape.Shape.{Shape}
use Rattle.mb_model.specs.declared.known.KnownSlot.{KnownSlot}
use Rattle.mb_model.specs.EnabledRules.{greatest, greatest_in}

-- in what is known of one position, 0 where there is none
abbrev pub greatest_in_known : ℕ → Option KnownSlot → ℕ
greatest_in_known c slot = greatest_in c (option_and_then (λ k. k.batch) slot)

-- in what a search finds in the window above a stable position
abbrev pub greatest_in_window : Shape → ℕ → (ℕ → Option KnownSlot) → ℕ → ℕ
greatest_in_window s low slots c = greatest (map (λ p. greatest_in_known c (slots p)) (range_with_len (low + 1) (span s)))

-- ---- of all clients

-- The numbers are the greatest in these places.
abbrev pub IsGreatest : List (Option KnownSlot) → List ℕ → Type 0
IsGreatest places numbers = (c : ℕ) → c < length numbers → slice_index_or numbers c 0 ≡ greatest (map (greatest_in_known c) places)

-- Each number is the greater of what it was and of another number of that client.
abbrev pub AreMore : (ℕ → ℕ) → List ℕ → List ℕ → Type 0
AreMore other old new = (c : ℕ) → c < length new → slice_index_or new c 0 ≡ max (slice_index_or old c 0) (other c)
