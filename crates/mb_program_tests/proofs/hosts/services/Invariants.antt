use Rattle.std.proofs.Common.{◌≡◌, [], replicate}
use Rattle.mb_program_tests.proofs.hosts.services.Given as goal

abbrev pub invariant-loop : goal.invariant-loop
invariant-loop l = l.services.items ≡ replicate l.counter []
