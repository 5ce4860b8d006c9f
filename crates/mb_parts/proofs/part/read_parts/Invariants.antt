use Rattle.std.proofs.Common.{◌≡◌, ◌-◌}
use Rattle.mb_base.specs.Reading.{repeat_at}
use Rattle.mb_base.specs.Fields.{place_of}
use Rattle.mb_base.proofs.Loops.{with_front}
use Rattle.mb_parts.proofs.part.read_parts.Given as goal

abbrev pub invariant-loop : goal.invariant-loop
invariant-loop g l = with_front l.all (repeat_at (g.T.Readable.reads l.shape) (l.count - l.counter) (place_of l.fields)) ≡ repeat_at (g.T.Readable.reads l.shape) l.count (place_of l.fn.fields)
