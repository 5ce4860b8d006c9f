use Rattle.std.proofs.Common.{◌≡◌, replicate}
use Rattle.mb_frag.specs.Held.{nothing_held}
use Rattle.mb_cluster.proofs.listener.no_joiners.Given as goal

abbrev pub invariant-loop : goal.invariant-loop
invariant-loop l = l.joiners.items ≡ replicate l.counter nothing_held
