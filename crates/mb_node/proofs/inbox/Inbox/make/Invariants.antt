use Rattle.std.proofs.Common.{◌≡◌, map, []}
use Rattle.std.specs.List.{range_with_len}
use Rattle.mb_node.specs.Receives.{held_of}
use Rattle.mb_node.proofs.inbox.Inbox.make.Given as goal

abbrev pub invariant-loop : goal.invariant-loop
invariant-loop l = l.hosts.items ≡ map (λ h. held_of h []) (range_with_len 0 l.counter)
