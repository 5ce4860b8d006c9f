use Rattle.std.proofs.Common.{◌≡◌, ◌-◌, ◌≤◌}
use Rattle.mb_base.specs.Shapes.{host_count}
use Rattle.mb_base.specs.Reading.{rising_at}
use Rattle.mb_base.specs.Fields.{place_of}
use Rattle.mb_base.proofs.Loops.{with_front}
use Rattle.mb_parts.proofs.part.read_members.Given as goal

abbrev pub invariant-loop : goal.invariant-loop
invariant-loop g l = (l.least ≤ host_count l.shape)
    × (with_front l.all (rising_at (g.T.Member.member_reads l.shape l.left_out) g.T.Member.host_of (l.count - l.counter) l.least (place_of l.fields))
    ≡ rising_at (g.T.Member.member_reads l.shape l.left_out) g.T.Member.host_of l.count 0 (place_of l.fn.fields))
