use Rattle.std.proofs.Common.{◌≡◌, ◌++◌, map, take, drop}
use Rattle.mb_model.specs.OwnLog.{behind}
use Rattle.mb_log.proofs.log.shorten_behind.Given as goal

abbrev pub invariant-loop-index : goal.invariant-loop-index
invariant-loop-index l = record {
  items : l.entries.items ≡ map (behind l.message) (take l.index l.fn.entries.items) ++ drop l.index l.fn.entries.items;
  capacity : l.entries.capacity ≡ l.fn.entries.capacity;
}
