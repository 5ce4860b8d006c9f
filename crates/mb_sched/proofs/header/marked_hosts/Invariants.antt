use Rattle.std.proofs.Common.{◌≡◌, map}
use Rattle.std.specs.List.{list_any, range_with_len}
use Rattle.mb_sched.specs.Headers.{is_host_of}
use Rattle.mb_sched.proofs.header.marked_hosts.Given as goal

abbrev pub invariant-loop-host : goal.invariant-loop-host
invariant-loop-host l = l.marks ≡ map (λ n. list_any (is_host_of n) l.names) (range_with_len 0 l.host)
