use Rattle.std.proofs.Common.{◌↔◌, ◌≤◌, map, drop}
use Rattle.mb_base.specs.Spelling.{Rises}
use Rattle.mb_parts.proofs.part.rise.Given as goal

abbrev pub invariant-loop-member : goal.invariant-loop-member
invariant-loop-member g l = (l.least ≤ 256) × (Rises 0 (map g.T.Member.host_of l.members) ↔ Rises l.least (map g.T.Member.host_of (drop l.member-index l.members)))
