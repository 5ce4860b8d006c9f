-- Messages with one mark: the rules ask the same of them, and they lead to the same floor.
use Rattle.std.proofs.Common.{◌≡◌, ℕ, Bool, [], ◌∷◌, refl}
use Rattle.mb_base.specs.declared.shape.Shape.{Shape}
use Rattle.mb_parts.specs.declared.floor.Floor.{Floor}
use Rattle.mb_parts.specs.declared.floor.Mark.{Mark}
use Rattle.mb_parts.specs.Bares.{Bare}
use Rattle.mb_parts.specs.Bares as bare
use Rattle.mb_parts.specs.Ordered.{current_view, is_opened, is_entered, last_position, top_position, last_checkpoint, permits, floor_after}
use Rattle.mb_gate.specs.Kinds.{kind_of, message_with}
use Rattle.mb_gate.specs.Marks.{IsMarkOf}

module _ (o : Floor) (s : Shape) (host : ℕ) (inner : Bool) where
  pub same_rule : (mark : Mark) (m : Bare) → IsMarkOf mark m → permits o s host (λ b. inner) [] (message_with (kind_of m) mark) ≡ permits o s host (λ b. inner) [] m
  unfolding permits
  same_rule mark (bare.Prepare view pos digest) is = rw (is.1, is.2) refl
  same_rule mark (bare.Commit view pos counter cert digest) is = rw (is.1, is.2) refl
  same_rule mark (bare.Open evidence digest) is = rw is.1 refl
  same_rule mark (bare.Join view evidence stable) is = rw (is.1, is.2, is.3) refl
  same_rule mark m is = rw is.1 refl

pub same_floor_behind : (o : Floor) (mark : Mark) (m : Bare) → IsMarkOf mark m → floor_after o (message_with (kind_of m) mark ∷ []) ≡ floor_after o (m ∷ [])
unfolding current_view is_opened is_entered last_position top_position last_checkpoint
same_floor_behind o mark (bare.Prepare view pos digest) is = rw (is.1, is.2) refl
same_floor_behind o mark (bare.Commit view pos counter cert digest) is = rw (is.1, is.2) refl
same_floor_behind o mark (bare.Open evidence digest) is = rw (is.1, is.2) refl
same_floor_behind o mark (bare.Join view evidence stable) is = rw (is.1, is.2) refl
same_floor_behind o mark m is = rw is.1 refl
