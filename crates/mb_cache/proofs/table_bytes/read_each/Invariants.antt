use Rattle.std.proofs.Common.{◌≡◌, ◌-◌, ◌≤◌, length}
use Rattle.std.specs.List.{AllByRecursion}
use Rattle.mb_base.specs.Reading.{repeat_at}
use Rattle.mb_base.specs.Fields.{place_of}
use Rattle.mb_base.proofs.Loops.{with_front}
use Rattle.mb_model.specs.States.{last_reply_at}
use Rattle.mb_cache.specs.Tables.{IsLast}
use Rattle.mb_cache.proofs.table_bytes.read_each.Given as goal

abbrev pub invariant-loop : goal.invariant-loop
invariant-loop l = record {
  read : with_front l.all.items (repeat_at last_reply_at (l.clients - l.counter) (place_of l.fields)) ≡ repeat_at last_reply_at l.clients (place_of l.fn.fields);
  fit : AllByRecursion IsLast l.all.items;
  len : length l.all.items ≡ l.counter;
  within : l.counter ≤ l.clients;
}
