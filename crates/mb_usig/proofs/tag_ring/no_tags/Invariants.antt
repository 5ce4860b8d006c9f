use Rattle.std.proofs.Common.{◌≡◌, replicate, None}
use Rattle.mb_usig.proofs.tag_ring.no_tags.Given as goal

abbrev pub invariant-loop : goal.invariant-loop
invariant-loop l = l.all.items ≡ replicate l.counter None
