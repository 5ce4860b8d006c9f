use Rattle.std.proofs.Common.{◌≡◌, ◌<◌, ℕ, length, get_or}
use Rattle.mb_normal.proofs.slots.forget.Given as goal

abbrev pub invariant-loop-number : goal.invariant-loop-number
invariant-loop-number l = record {
  places : length l.number-items ≡ length l.fn.numbers.items;
  zero : (c : ℕ) → c < l.number-index → get_or l.number-items c 0 ≡ 0;
}
