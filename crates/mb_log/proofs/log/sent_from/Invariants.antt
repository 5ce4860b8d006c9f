use Rattle.std.proofs.Common.{◌≡◌, ◌++◌, ◌≤◌, length, drop}
use Rattle.mb_base.specs.Limits.{entry_limit}
use Rattle.mb_model.specs.OwnLog.{first_packed}
use Rattle.mb_log.proofs.Packing.{more}
use Rattle.mb_log.proofs.log.sent_from.Given as goal

abbrev pub invariant-loop-index : goal.invariant-loop-index
invariant-loop-index l = record {
  few : length l.sent ≤ entry_limit;
  start : length l.sent ≡ 0 → l.bytes ≡ 0;
  sent : l.sent ++ more l.sent l.bytes (drop l.index l.entries.items) ≡ first_packed (drop l.first l.entries.items);
}
