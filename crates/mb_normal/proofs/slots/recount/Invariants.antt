use Rattle.std.proofs.Common.{◌≡◌, length}
use Rattle.mb_normal.proofs.Greatest.{CountedTo}
use Rattle.mb_normal.proofs.slots.recount.Given as goal

abbrev pub invariant-loop-step : goal.invariant-loop-step
invariant-loop-step l = record {
  places : length l.numbers.items ≡ length l.fn.numbers.items;
  counted : CountedTo l.window.items l.step l.numbers.items;
}
