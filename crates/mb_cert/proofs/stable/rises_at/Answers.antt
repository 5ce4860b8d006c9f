use Rattle.std.proofs.Common.{arith}
use Rattle.mb_cert.proofs.Firsts.{host_rises}
use Rattle.mb_cert.proofs.stable.rises_at.Goals as goal

pub returns-else-index-eq0 : goal.returns-else-index-eq0
returns-else-index-eq0 c = host_rises (λ m. m.host) c.args.members.now c.args.index _ _ (omega (arith, c.if-index-eq0.false)) c.requires
