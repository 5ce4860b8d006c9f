use Rattle.std.proofs.Common.{◌≡◌, ◌++◌, drop, string_bytes}
use Rattle.std.specs.List.{flat_map}
use Rattle.mb_sched.specs.Printing.{client_name}
use Rattle.mb_sched.specs.ScheduleText.{spaced, marked}
use Rattle.mb_sched.proofs.schedule_text.print_faulty_clients.Given as goal

abbrev pub invariant-loop-client : goal.invariant-loop-client
invariant-loop-client l = string_bytes l.out ++ flat_map spaced (marked client_name l.client-counter (drop l.client-counter l.marks)) ≡ string_bytes l.fn.out ++ flat_map spaced (marked client_name 0 l.marks)
