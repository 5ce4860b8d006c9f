use Rattle.std.proofs.Common.{sym}
use Rattle.mb_gate.proofs.gate.Gate.offer.Goals as goal

pub returns-in-Next-clause-stands : goal.returns-in-Next-clause-stands
returns-in-Next-clause-stands c = λ log m r is. rw c.in-Next.is (c.follow.ensures log m c.args.inner r is (sym (c.in-Next.ensures log m r is)))
