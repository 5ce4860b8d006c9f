-- The mark of a shown message is the mark of what it says.
use Rattle.std.proofs.Common.{◌≡◌, true, refl}
use Rattle.mb_msg.specs.declared.stamped.Shown.{Shown}
use Rattle.mb_msg.specs.declared.stamped.Shown.TheVariants as shown
use Rattle.mb_msg.specs.Stamps.{bare_of_shown, mark_of_shown}
use Rattle.mb_gate.specs.Marks.{IsMarkOf, is_stamped_kind}

pub stamped : (e : Shown) → is_stamped_kind (mark_of_shown e).kind ≡ true
stamped (shown.Prepare m) = refl
stamped (shown.Commit m) = refl
stamped (shown.Checkpoint m) = refl
stamped (shown.ViewChange m) = refl
stamped (shown.NewView m) = refl
stamped (shown.Enter m) = refl
stamped (shown.Open m) = refl
stamped (shown.Join m) = refl

pub marked : (e : Shown) → IsMarkOf (mark_of_shown e) (bare_of_shown e)
marked (shown.Prepare m) = (refl, refl, refl)
marked (shown.Commit m) = (refl, refl, refl)
marked (shown.Checkpoint m) = (refl, refl)
marked (shown.ViewChange m) = (refl, refl)
marked (shown.NewView m) = (refl, refl)
marked (shown.Enter m) = (refl, refl)
marked (shown.Open m) = (refl, refl, refl)
marked (shown.Join m) = (refl, refl, refl, refl)
