use Rattle.std.proofs.Common.{[], take}
use Rattle.mb_model.specs.UsableLogs.{newest_first}
use Rattle.mb_plan.specs.Lent.{AreVotes}
use Rattle.mb_plan.proofs.shown_votes.votes_in.Given as goal

abbrev pub invariant-loop-entry : goal.invariant-loop-entry
invariant-loop-entry l = AreVotes l.votes l.base (newest_first [] (take l.entry-index l.entries))
