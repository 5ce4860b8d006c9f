use Rattle.std.proofs.Common.{◌≡◌, take, drop}
use Rattle.std.specs.Prelude.{count_by}
use Rattle.mb_model.specs.OwnLog.{is_normal}
use Rattle.mb_log.proofs.log.drop_first.Given as goal

abbrev pub invariant-loop : goal.invariant-loop
invariant-loop l = record {
  items : l.entries.items ≡ drop l.counter l.fn.entries.items;
  capacity : l.entries.capacity ≡ l.fn.entries.capacity;
  normal : l.normal ≡ count_by is_normal (take l.counter l.fn.entries.items);
}
