use Rattle.std.proofs.Common.{◌≡◌, ◌++◌, take, string_bytes}
use Rattle.std.specs.List.{flat_map}
use Rattle.mb_sched.specs.Report.{client_lines}
use Rattle.mb_sched.proofs.printing.print_clients.Given as goal

abbrev pub invariant-loop-client : goal.invariant-loop-client
invariant-loop-client l = string_bytes l.out ≡ string_bytes l.fn.out ++ flat_map client_lines (take l.client-index l.clients)
