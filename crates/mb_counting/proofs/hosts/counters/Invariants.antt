use Rattle.std.proofs.Common.{◌≡◌, length}
use Rattle.mb_members.specs.Hosts.{AreServices}
use Rattle.mb_counting.proofs.hosts.counters.Given as goal

abbrev pub invariant-loop : goal.invariant-loop
invariant-loop l = record {
  alike : AreServices 0 l.services.items;
  count : length l.services.items ≡ l.counter;
}
