use Rattle.std.proofs.Common.{◌≡◌, ◌++◌, drop, string_bytes}
use Rattle.std.specs.List.{flat_map}
use Rattle.mb_sched.specs.Printing.{host_name}
use Rattle.mb_sched.specs.ScheduleText.{spaced, marked}
use Rattle.mb_sched.proofs.schedule_text.print_faulty_hosts.Given as goal

abbrev pub invariant-loop-host : goal.invariant-loop-host
invariant-loop-host l = string_bytes l.out ++ flat_map spaced (marked host_name l.host-counter (drop l.host-counter l.marks)) ≡ string_bytes l.fn.out ++ flat_map spaced (marked host_name 0 l.marks)
