use Rattle.std.proofs.Common.{◌≡◌, map}
use Rattle.std.specs.List.{list_any, range_with_len}
use Rattle.mb_sched.specs.Headers.{is_client_of}
use Rattle.mb_sched.proofs.header.marked_clients.Given as goal

abbrev pub invariant-loop-client : goal.invariant-loop-client
invariant-loop-client l = l.marks ≡ map (λ n. list_any (is_client_of n) l.names) (range_with_len 0 l.client)
