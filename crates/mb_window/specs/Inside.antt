-- What a window's fields are.
use Rattle.std.specs.Prelude.{◌≡◌, ◌+◌, ◌-◌, ◌≤◌, ◌^◌, length}
use Rattle.mb_window.specs.declared.window.Window.TheInside.{Inside}
use Rattle.mb_window.specs.Places.{Places, places}

abbrev pub seen : {X : Type 0} → Inside X → Places X
seen w = places w.low w.ring.items

pub record IsWindow {X : Type 0} (w : Inside X) : Type 0 where
  pub full : length w.ring.items ≡ w.ring.capacity
  pub some : 1 ≤ length w.ring.items
  pub top : w.low + length w.ring.items ≤ 2 ^ 64 - 2
