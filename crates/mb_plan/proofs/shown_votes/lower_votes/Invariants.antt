use Rattle.mb_plan.proofs.Places.{LowerTo}
use Rattle.mb_plan.proofs.shown_votes.lower_votes.Given as goal

abbrev pub invariant-loop-index : goal.invariant-loop-index
invariant-loop-index l = LowerTo l.initial.lowest l.votes l.lowest l.index
