use Rattle.std.proofs.Common.{◌≡◌, take}
use Rattle.std.specs.List.{flat_map}
use Rattle.mb_cache.specs.Tables.{last_text}
use Rattle.mb_cache.proofs.table_bytes.write_table.Given as goal

abbrev pub invariant-loop-last : goal.invariant-loop-last
invariant-loop-last l = l.text.items ≡ flat_map last_text (take l.last-index l.replies)
