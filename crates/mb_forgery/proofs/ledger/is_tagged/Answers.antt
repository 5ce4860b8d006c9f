use Rattle.mb_forgery.proofs.FirstBytes.{first_tells, second_tells, not_empty}
use Rattle.mb_forgery.proofs.ledger.is_tagged.Goals as goal

pub returns-then-kind-eq-REPLY : goal.returns-then-kind-eq-REPLY
returns-then-kind-eq-REPLY c m is = first_tells m c.args.bytes.now is c.in-Some.kind.now c.in-Some.ensures.value c.if-kind-eq-REPLY.true

pub returns-else-kind-eq-REPLY : goal.returns-else-kind-eq-REPLY
returns-else-kind-eq-REPLY c m is = second_tells m c.args.bytes.now is c.in-Some.kind.now c.in-Some.ensures.value c.if-kind-eq-REPLY.false

pub returns-in-None : goal.returns-in-None
returns-in-None c m is = not_empty m c.args.bytes.now is c.in-None.ensures.value
