use Rattle.std.proofs.Common.{arith}
use Rattle.std.proofs.lemmas.Grind.{common_steps}
use Rattle.mb_parts.proofs.CountedBytes.{counted_behind}
use Rattle.mb_msg.specs.Spelling.{spelling}
use Rattle.mb_msg.proofs.whole.MessagePart.count.Goals as goal

pub returns-in-Request : goal.returns-in-Request
unfolding spelling
returns-in-Request c = grind (arith, common_steps, counted_behind)

pub returns-in-Prepare : goal.returns-in-Prepare
unfolding spelling
returns-in-Prepare c = grind (arith, common_steps, counted_behind)

pub returns-in-Commit : goal.returns-in-Commit
unfolding spelling
returns-in-Commit c = grind (arith, common_steps, counted_behind)

pub returns-in-Reply : goal.returns-in-Reply
unfolding spelling
returns-in-Reply c = grind (arith, common_steps, counted_behind)

pub returns-in-Checkpoint : goal.returns-in-Checkpoint
unfolding spelling
returns-in-Checkpoint c = grind (arith, common_steps, counted_behind)

pub returns-in-ReqViewChange : goal.returns-in-ReqViewChange
unfolding spelling
returns-in-ReqViewChange c = grind (arith, common_steps, counted_behind)

pub returns-in-ViewChange : goal.returns-in-ViewChange
unfolding spelling
returns-in-ViewChange c = grind (arith, common_steps, counted_behind)

pub returns-in-NewView : goal.returns-in-NewView
unfolding spelling
returns-in-NewView c = grind (arith, common_steps, counted_behind)

pub returns-in-Enter : goal.returns-in-Enter
unfolding spelling
returns-in-Enter c = grind (arith, common_steps, counted_behind)

pub returns-in-Open : goal.returns-in-Open
unfolding spelling
returns-in-Open c = grind (arith, common_steps, counted_behind)

pub returns-in-Join : goal.returns-in-Join
unfolding spelling
returns-in-Join c = grind (arith, common_steps, counted_behind)

pub returns-in-Resend : goal.returns-in-Resend
unfolding spelling
returns-in-Resend c = grind (arith, common_steps, counted_behind)

pub returns-in-Log : goal.returns-in-Log
unfolding spelling
returns-in-Log c = grind (arith, common_steps, counted_behind)

pub returns-in-Fetch : goal.returns-in-Fetch
unfolding spelling
returns-in-Fetch c = grind (arith, common_steps, counted_behind)

pub returns-in-State : goal.returns-in-State
unfolding spelling
returns-in-State c = grind (arith, common_steps, counted_behind)

pub returns-in-Stop : goal.returns-in-Stop
unfolding spelling
returns-in-Stop c = grind (arith, common_steps, counted_behind)
