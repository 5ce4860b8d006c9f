use Rattle.std.proofs.Common.{◌≡◌, ◌++◌, take, string_bytes}
use Rattle.std.specs.List.{flat_map}
use Rattle.mb_sched.specs.Report.{refused_line}
use Rattle.mb_sched.proofs.printing.print_refusals.Given as goal

abbrev pub invariant-loop-line : goal.invariant-loop-line
invariant-loop-line l = string_bytes l.out ≡ string_bytes l.fn.out ++ flat_map refused_line (take l.line-index l.refused)
