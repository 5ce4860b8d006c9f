use Rattle.std.proofs.Common.{sym, arith}
use Rattle.std.proofs.lemmas.Grind.{common_steps}
use Rattle.mb_parts.proofs.CountedBytes.{counted_nothing, counted_behind}
use Rattle.mb_parts.proofs.part.count_all.Goals as goal

pub loop-part-init : goal.loop-part-init
loop-part-init g c = sym (counted_nothing c.args.so_far (omega arith))

pub loop-part-preserved : goal.loop-part-preserved
loop-part-preserved g c = grind (arith, common_steps, counted_behind)
