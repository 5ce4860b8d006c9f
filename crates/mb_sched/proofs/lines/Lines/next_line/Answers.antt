use Rattle.mb_sched.proofs.Pieces.{line_first, same_end, no_line, is_end}
use Rattle.mb_sched.proofs.lines.Lines.next_line.Goals as goal

pub returns-in-Some-clause-line : goal.returns-in-Some-clause-line
returns-in-Some-clause-line c =
    let parts = rw c.in-Some.is at c.cut.ensures.parts in
    rw (line_first c.args.self.now.rest.now c.cut.result.0.now c.in-Some.rest.now parts)

pub returns-in-Some-clause-left : goal.returns-in-Some-clause-left
returns-in-Some-clause-left c =
    let parts = rw c.in-Some.is at c.cut.ensures.parts in
    rw (line_first c.args.self.now.rest.now c.cut.result.0.now c.in-Some.rest.now parts)

pub returns-in-Some-clause-ended : goal.returns-in-Some-clause-ended
returns-in-Some-clause-ended c =
    let parts = rw c.in-Some.is at c.cut.ensures.parts in
    same_end c.args.self.now.rest.now c.cut.result.0.now c.in-Some.rest.now parts

pub returns-in-None-clause-last : goal.returns-in-None-clause-last
returns-in-None-clause-last c =
    let parts = rw c.in-None.is at c.cut.ensures.parts in
    (no_line c.args.self.now.rest.now parts.0, is_end c.args.self.now.rest.now parts.0)
