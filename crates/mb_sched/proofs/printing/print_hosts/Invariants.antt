use Rattle.std.proofs.Common.{◌≡◌, ◌++◌, take, string_bytes}
use Rattle.std.specs.List.{flat_map}
use Rattle.mb_sched.specs.Report.{host_line}
use Rattle.mb_sched.proofs.printing.print_hosts.Given as goal

abbrev pub invariant-loop-host : goal.invariant-loop-host
invariant-loop-host l = string_bytes l.out ≡ string_bytes l.fn.out ++ flat_map host_line (take l.host-index l.hosts)
