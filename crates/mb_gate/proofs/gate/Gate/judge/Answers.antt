use Rattle.std.proofs.Common.{arith, sym, true, false}
use Rattle.mb_gate.proofs.Standing.{judged}
use Rattle.mb_gate.proofs.gate.Gate.judge.Goals as goal

pub returns-then-not-permits : goal.returns-then-not-permits
returns-then-not-permits c = λ log m r is.
    let of = c.of-kind.ensures m is in
    rw (c.rule.ensures m of) (judged c.args.self.now log r c.args.mark.now m is c.of-kind.result of c.args.inner false (sym c.in_default.ensures) (omega arith) (omega arith) c.if-not-permits.ensures)

pub returns : goal.returns
returns c = λ log m r is.
    judged c.args.self.now log r c.args.mark.now m is c.of-kind.result (c.of-kind.ensures m is) c.args.inner true (sym c.in_default.ensures) (omega arith) (omega arith) c.if-not-permits.ensures
