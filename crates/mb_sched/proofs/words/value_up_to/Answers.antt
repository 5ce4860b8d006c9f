use Rattle.std.proofs.Common.{arith}
use Rattle.mb_sched.proofs.Numbers.{too_great}
use Rattle.mb_sched.proofs.words.value_up_to.Goals as goal

pub returns-then-next-from : goal.returns-then-next-from
returns-then-next-from c = too_great c.args.high c.loop-digit.value _ c.args.digits.now c.loop-digit.digit-index (omega arith) c.loop-digit.invariant.value (omega arith)
