use Rattle.std.proofs.Common.{◌≡◌, ◌≤◌, true, drop}
use Rattle.std.specs.Char.{is_ascii_digit}
use Rattle.std.specs.List.{list_all}
use Rattle.mb_sched.specs.Words.{decimal_value}
use Rattle.mb_sched.proofs.Numbers.{value_from}
use Rattle.mb_sched.proofs.words.value_up_to.Given as goal

abbrev pub invariant-loop-digit : goal.invariant-loop-digit
invariant-loop-digit l = record {
  low : l.value ≤ l.high;
  value : value_from l.value (drop l.digit-index l.digits) ≡ decimal_value l.digits;
  digits : list_all is_ascii_digit (drop l.digit-index l.digits) ≡ true;
}
