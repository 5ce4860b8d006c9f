use Rattle.std.proofs.Common.{◌≡◌, take}
use Rattle.std.specs.List.{flat_map}
use Rattle.mb_parts.specs.Counted.{counted}
use Rattle.mb_msg.specs.Spelling.{member_bytes}
use Rattle.mb_msg.proofs.change_bytes.count_members.Given as goal

abbrev pub invariant-loop-change : goal.invariant-loop-change
invariant-loop-change l = l.all ≡ counted l.so_far (flat_map member_bytes (take l.change-index l.changes))
