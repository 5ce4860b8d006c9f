use Rattle.std.proofs.Common.{◌≡◌, length}
use Rattle.std.specs.List.{fold}
use Rattle.std.specs.Vec.Iter.{into_iter_items, into_iter_len}
use Rattle.mb_world_model.specs.World.{extended}
use Rattle.mb_members.proofs.additions.extend_line.Given as goal

abbrev pub invariant-loop-slot : goal.invariant-loop-slot
invariant-loop-slot l = record {
  whole : fold extended l.line.items (into_iter_items l.slot-iterator) ≡ fold extended l.fn.line.items l.fn.executed;
  len : into_iter_len l.slot-iterator ≡ length (into_iter_items l.slot-iterator);
}
