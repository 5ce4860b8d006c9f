use Rattle.std.proofs.Common.{sym, arith}
use Rattle.std.proofs.lemmas.Grind.{common_steps}
use Rattle.mb_parts.proofs.CountedBytes.{counted_nothing, counted_behind}
use Rattle.mb_msg.specs.Spelling.{member_bytes}
use Rattle.mb_msg.proofs.change_bytes.count_members.Goals as goal

pub loop-change-init : goal.loop-change-init
loop-change-init c = sym (counted_nothing c.args.so_far (omega arith))

pub loop-change-preserved : goal.loop-change-preserved
unfolding member_bytes
loop-change-preserved c = grind (arith, common_steps, counted_behind)
