-- What is seen of devices behind one use of them.
use Rattle.std.specs.Prelude.{◌≡◌, ℕ, List, [], ◌∷◌, map, codes, Option, option_to_list}
use Rattle.mb_base.specs.Shapes.{Bytes}
use Rattle.mb_edge.specs.Children.{start_of}
use Rattle.mb_edge.specs.Seen.{LinkState, SpawnerState}
use Rattle.mb_edge.specs.Told.{with_more}

-- One datagram came, or none, and it was sent back to peer 0.
abbrev pub SentBack : LinkState → LinkState → Type 0
SentBack old new = (came : Option Bytes) × (new.received ≡ with_more old.received (came ∷ []))
    × (new.sent ≡ with_more old.sent (map (λ bytes. (0, bytes)) (option_to_list came)))

-- A child was started with these words, and waited for, which ended with this status.
abbrev pub Ended : List Bytes → ℕ → SpawnerState → SpawnerState → Type 0
Ended words status old new = (child : ℕ) × (new.starts ≡ with_more old.starts ((child, start_of words (codes "in") (codes "out")) ∷ []))
    × (new.waits ≡ with_more old.waits ((child, status) ∷ []))
