use Rattle.mb_msg.specs.Stamps.{bare_of_shown}
use Rattle.mb_gate.specs.Marks.{IsMarkOf}
use Rattle.mb_plan.proofs.Marked.{marked}
use Rattle.mb_plan.proofs.shown.takes.Goals as goal

pub returns-in-Next-clause-stands : goal.returns-in-Next-clause-stands
returns-in-Next-clause-stands c = λ log r closed next took.
    let is : IsMarkOf c.mark.result (bare_of_shown c.args.entry.now) = rw c.mark.ensures (marked c.args.entry.now) in
    c.in-Next.ensures.stands log (bare_of_shown c.args.entry.now) r is
