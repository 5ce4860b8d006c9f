use Rattle.std.proofs.Common.{◌≡◌, ◌++◌, take, string_bytes}
use Rattle.std.specs.List.{flat_map}
use Rattle.mb_sched.specs.Printing.{spaced_number}
use Rattle.mb_sched.proofs.printing.print_numbers.Given as goal

abbrev pub invariant-loop-number : goal.invariant-loop-number
invariant-loop-number l = string_bytes l.out ≡ string_bytes l.fn.out ++ flat_map spaced_number (take l.number-index l.numbers)
