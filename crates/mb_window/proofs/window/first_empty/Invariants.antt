use Rattle.std.proofs.Common.{◌≡◌, ◌+◌, drop}
use Rattle.mb_window.specs.Places.{first_none}
use Rattle.mb_window.proofs.window.first_empty.Given as goal

abbrev pub invariant-loop-i : goal.invariant-loop-i
invariant-loop-i g l = l.i + first_none (drop l.i l.ring.items) ≡ first_none l.ring.items
