use Rattle.mb_plan.proofs.Places.{NotedTo}
use Rattle.mb_plan.proofs.shown_votes.note_everywhere.Given as goal

abbrev pub invariant-loop-index : goal.invariant-loop-index
invariant-loop-index l = NotedTo l.initial.votes l.base l.entry l.votes l.index
