-- What a window ends as, once a `&mut` into it has ended.
use Rattle.std.specs.Prelude.{ℕ, ◌-◌, slice_set, Option, Some}
use Rattle.std.specs.Borrow.{Fml, RattleType, MutBor, LendsIf}
use Rattle.mb_window.specs.Places.{Places, places}
use Rattle.mb_window.specs.contracts.window.Window.{the_row}

abbrev pub lends_item : (R : RattleType) (w : MutBor (Places R.Denot)) → ℕ → Option (MutBor R.Denot) → Fml
lends_item R w pos r = LendsIf (the_row R) R w r (λ x. places w.now.low (slice_set w.now.items (pos - w.now.low - 1) (Some x))) w.now
