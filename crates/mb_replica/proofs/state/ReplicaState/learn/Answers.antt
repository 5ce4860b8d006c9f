use Rattle.std.proofs.Common.{◌<◌, ◌≤◌, arith}
use Rattle.mb_replica.proofs.Keeping.{learnt_writes, no_news_written}
use Rattle.mb_replica.proofs.state.ReplicaState.learn.Goals as goal

-- src/learning.rt
pub returns-then-cert-low : goal.returns-then-cert-low
returns-then-cert-low g c =
    let above : c.args.self.now.protocol.stable.pos < c.args.cert.pos = omega (arith, c.if-cert-low.true, c.low.ensures.low_is) in
    learnt_writes c.args.self.now _ c.args.cert above c.rise.ensures c.raise.ensures.raised

pub returns-else-cert-low : goal.returns-else-cert-low
returns-else-cert-low g c =
    let below : c.args.cert.pos ≤ c.args.self.now.protocol.stable.pos = omega (arith, c.if-cert-low.false, c.low.ensures.low_is) in
    no_news_written c.args.self.now c.args.cert below
