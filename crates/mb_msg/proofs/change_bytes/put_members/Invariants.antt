use Rattle.std.proofs.Common.{◌≡◌, ◌++◌, take}
use Rattle.std.specs.List.{flat_map}
use Rattle.mb_msg.specs.Spelling.{member_bytes}
use Rattle.mb_msg.proofs.change_bytes.put_members.Given as goal

abbrev pub invariant-loop-change : goal.invariant-loop-change
invariant-loop-change l = l.out.items ≡ l.initial.out.items ++ flat_map member_bytes (take l.change-index l.changes)
