use Rattle.mb_core.proofs.events.finished_where.Goals as goal

-- src/events.rt
pub returns-then-answer : goal.returns-then-answer
returns-then-answer g c = λ me d x o serves st before. rw c.if-answer.true (c.finished.ensures me d x o serves st before)

pub returns : goal.returns
returns g c = λ me d x o serves st before. rw c.if-answer.false st
