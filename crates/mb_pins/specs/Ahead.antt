-- How far ahead of what it executed a primary orders, both ways: no PREPARE is more than four positions above the last executed one; and while fewer are ordered and
-- not executed, no request waits that is in no slot of the view.
use Rattle.std.specs.Prelude.{◌≡◌, ℕ, ◌+◌, ◌≤◌, ◌<◌, true, ◌∷◌, ◌++◌}
use Rattle.mb_parts.specs.declared.request.Request.{Request}
use Rattle.mb_msg.specs.declared.normal.Prepare.{Prepare}
use Rattle.mb_msg.specs.declared.stamped.Stamped.TheVariants as stamped
use Rattle.mb_model.specs.Histories.{Stamped, History, Identity, here, is_open, is_primary}
use Rattle.mb_model.specs.Positions.{exec_of}
use Rattle.mb_promise.specs.NothingLeft.{IsInWindow}
use Rattle.mb_world_model.specs.World.{System, self_of}
use Rattle.mb_world_model.specs.WorldSteps.{world}
use Rattle.mb_pins.specs.Batches.{Waits}
use Rattle.mb_pins.specs.Rooms.{HasVotesRoom}

module _ {S : Type 0} (self : Identity S) (d : History) where
  -- So it is of each PREPARE that the host stamped, behind what stood before it.
  abbrev pub OrdersAtMostFour : Type 0
  OrdersAtMostFour = (later before : History) (m : Prepare) → d ≡ later ++ Stamped (stamped.Prepare m) ∷ before → m.pos ≤ exec_of before + 4

  -- The host is the primary of an open view, has room, and fewer than four positions above the last executed one are ordered, with the next one in the window.
  pub record MayOrder : Type 0 where
    pub opened : is_open self d ≡ true
    pub leads : is_primary self d ≡ true
    pub room : HasVotesRoom self d
    pub window : IsInWindow self d ((here self d).last + 1)
    pub few : (here self d).last < exec_of d + 4

  -- Then nothing waits.
  abbrev pub OrdersBelowFour : Type 0
  OrdersBelowFour = (c : ℕ) (r : Request) → MayOrder → Waits self d c r → ⊥

  pub record OrdersFourAhead : Type 0 where
    pub most : OrdersAtMostFour
    pub below : OrdersBelowFour

-- So it is of each host after any events, whoever is faulty and whatever is forged.
abbrev pub HostsOrderFourAhead : Type 0 → Type 0
HostsOrderFourAhead S = (system : System S) (k h : ℕ) → OrdersFourAhead (self_of system h) ((world system k).histories h)
