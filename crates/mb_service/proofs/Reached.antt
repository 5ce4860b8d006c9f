-- Whatever operations came, a state is a state.
use Rattle.std.proofs.Common.{List, [], ◌∷◌}
use Rattle.std.specs.List.{fold}
use Rattle.mb_base.specs.Shapes.{Bytes}

pub reached : {S : Type 0} (is_state : S → Type 0) (after : S → Bytes → S) → ((s : S) (op : Bytes) → is_state s → is_state (after s op))
    → (s : S) (ops : List Bytes) → is_state s → is_state (fold after s ops)
reached is_state after stays s [] h = h
reached is_state after stays s (op ∷ ops) h = reached is_state after stays (after s op) ops (stays s op h)
