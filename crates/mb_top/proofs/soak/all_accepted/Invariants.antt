use Rattle.std.proofs.Common.{◌≡◌, ◌≤◌, ◌*◌, ◌-◌, ◌^◌, take}
use Rattle.std.specs.List.{sum_by}
use Rattle.mb_top.proofs.soak.all_accepted.Given as goal

abbrev pub invariant-loop-client : goal.invariant-loop-client
invariant-loop-client l = record {
  sum : l.accepted ≡ sum_by (λ c. c.accepted) (take l.client-index l.clients);
  within : l.accepted ≤ l.client-index * (2 ^ 64 - 1);
}
